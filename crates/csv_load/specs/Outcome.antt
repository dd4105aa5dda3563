-- What a reading with want of memory returned.
use Rattle.std.specs.Prelude.{◌≡◌, Result, Ok, Err}
use Rattle.csv_load.specs.declared.error.LoadError.{LoadError}
use Rattle.csv_load.specs.declared.error.LoadError.TheVariants.{BadField, NoMemory, WrongCount}

-- the reading was refused as said, or memory ran out
abbrev pub Refuses : {T : Type 0} → LoadError → Result T LoadError → Type 0
Refuses (WrongCount nth) said = said ≡ Err (WrongCount nth)
Refuses (BadField nth column) said = said ≡ Err (BadField nth column)
Refuses NoMemory said = Unit {0}

-- the reading gave what is said, seen by view, or was refused as said, or memory ran out
abbrev pub Gives : {S T : Type 0} → (S → T) → Result S LoadError → Result T LoadError → Type 0
Gives view (Ok value) said = said ≡ Ok (view value)
Gives view (Err refusal) said = Refuses refusal said
