-- What a source and a sink are at one moment.
use Rattle.std.specs.Prelude.{ℕ, List, Bool}
use Rattle.std.specs.declared.option.Option.{Option}

-- what a source has left to read, where it tells it; how often it has failed, and how often its end was seen
pub record SourceState : Type 0 where
  pub left : Option (List ℕ)
  pub faults : ℕ
  pub ends : ℕ

-- what a sink holds, where it tells it; how often it has failed, and how often it was flushed; and whether it was
-- flushed since it last took a byte
pub record SinkState : Type 0 where
  pub held : Option (List ℕ)
  pub faults : ℕ
  pub flushes : ℕ
  pub flushed : Bool
