-- What contracts see of the opening of a memory.
use Rattle.std.specs.Prelude.{◌≡◌, Option, Some, option_map}
use Rattle.image_layout.specs.Checks.{Fault}
use Rattle.engine_core.specs.declared.rules.Broken.{Broken}
use Rattle.engine_core.specs.declared.store_core.OpenError.{OpenError}
use Rattle.engine_core.specs.declared.store_core.OpenError.TheVariants.{BadImage, NoMemory}

-- the fault that says which rule is broken, and at which word
abbrev pub told : Option Broken → Option Fault
told broken = option_map (λ b. record { rule = b.rule; place = b.place }) broken

-- an image that has a fault is refused with its rule and its place
abbrev pub IsRefusal : OpenError → Option Fault → Type 0
IsRefusal (BadImage rule place) fault = fault ≡ Some (record { rule = rule; place = place })
IsRefusal NoMemory fault = Unit {0}
