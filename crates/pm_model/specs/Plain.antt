-- The device that a memory of plain words is.
use Rattle.pm_model.specs.declared.plain.Plain.{Plain}
use Rattle.pm_model.specs.Device.{Device}
use Rattle.pm_model.specs.Masks.{flushed_of}

abbrev pub device_of : Plain → Device
device_of memory =
    record { cached = memory.cached.items; durable = memory.durable.items; flushed = flushed_of memory.masks.items }
