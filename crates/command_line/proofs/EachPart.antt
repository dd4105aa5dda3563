-- The parts of words are those that stand there.
use Rattle.std.proofs.Common.{◌≡◌, ℕ, true, false, List, [], ◌∷◌, refl, ap, sym, inl, inr}
use Rattle.std.specs.Prelude.{◌⊎◌, Option, None, Some}
use Rattle.std.specs.List.{list_all}
use Rattle.std.proofs.lemmas.Bool.{cases_Bool}
use Rattle.command_line.specs.Parts.{Part, has_minus, is_known, may_stand, option_name, option_value, parts_from, parts_of, path, with_option, with_part}
use Rattle.command_line.specs.Laws.{ArePartsOf, IsOneWord, IsPath, IsTwoWords, NamesOption, ReadsEachPart}

-- what a reading says where no option awaits its value
abbrev Told : List (List ℕ) → List (List ℕ) → Option (List Part) → Type 0
Told known words None = Unit {0}
Told known words (Some parts) = ArePartsOf known parts words

-- and where this one does
abbrev Awaited : List (List ℕ) → List ℕ → List (List ℕ) → Option (List Part) → Type 0
Awaited known name words None = Unit {0}
Awaited known name words (Some []) = ⊥
Awaited known name words (Some (part ∷ parts)) =
    (rest : List (List ℕ)) × (words ≡ part.value ∷ rest) × (has_minus part.value ≡ false) × (part.name ≡ name) × ArePartsOf known parts rest

told-path : (known : List (List ℕ)) (word : List ℕ) (words : List (List ℕ)) (read : Option (List Part)) → has_minus word ≡ false
    → Told known words read → Told known (word ∷ words) (with_part path word read)
told-path known word words None plain told = tt
told-path known word words (Some parts) plain told =
    (words, inl (record { words_are = refl; plain = plain; name_is = refl }), told)

told-one : (known : List (List ℕ)) (word value : List ℕ) (words : List (List ℕ)) (read : Option (List Part)) → has_minus word ≡ true
    → is_known known (option_name word) ≡ true → option_value word ≡ Some value
    → Told known words read → Told known (word ∷ words) (with_part (option_name word) value read)
told-one known word value words None minus is_one given told = tt
told-one known word value words (Some parts) minus is_one given told = (
  words,
  inr (inl (record { word = word; words_are = refl; names = record { minus = minus; name_is = refl; known_is = is_one }; value_is = given })),
  told,
)

told-two : (known : List (List ℕ)) (word : List ℕ) (words : List (List ℕ)) (read : Option (List Part)) → has_minus word ≡ true
    → is_known known (option_name word) ≡ true → option_value word ≡ None
    → Awaited known (option_name word) words read → Told known (word ∷ words) read
told-two known word words None minus is_one none told = tt
told-two known word words (Some []) minus is_one none told = absurd told
told-two known word words (Some (part ∷ parts)) minus is_one none told = (
  told.0,
  inr (inr (record {
    word = word;
    words_are = ap (λ (more : List (List ℕ)). word ∷ more) told.1;
    names = record { minus = minus; name_is = sym told.3; known_is = rw told.3 is_one };
    no_value = none;
    plain = told.2;
  })),
  told.4,
)

told-option : (known : List (List ℕ)) (word : List ℕ) (words : List (List ℕ)) (value : Option (List ℕ)) (others awaiting : Option (List Part))
    → has_minus word ≡ true → is_known known (option_name word) ≡ true → option_value word ≡ value
    → Told known words others → Awaited known (option_name word) words awaiting
    → Told known (word ∷ words) (with_option (option_name word) value others awaiting)
told-option known word words (Some value) others awaiting minus is_one given told awaited = told-one known word value words others minus is_one given told
told-option known word words None others awaiting minus is_one given told awaited = told-two known word words awaiting minus is_one given awaited

awaited-value : (known : List (List ℕ)) (name word : List ℕ) (words : List (List ℕ)) (read : Option (List Part)) → has_minus word ≡ false
    → Told known words read → Awaited known name (word ∷ words) (with_part name word read)
awaited-value known name word words None plain told = tt
awaited-value known name word words (Some parts) plain told = (words, refl, plain, refl, told)

record Says (known words : List (List ℕ)) : Type 0 where
  told : Told known words (parts_from known None words)
  awaited : (name : List ℕ) → Awaited known name words (parts_from known (Some name) words)

says-word : (known : List (List ℕ)) (word : List ℕ) (words : List (List ℕ)) → Says known words → Told known (word ∷ words) (parts_from known None (word ∷ words))
says-word known word words rest =
    elim (cases_Bool (has_minus word)) [
      | inr plain ↦ rw plain (told-path known word words (parts_from known None words) plain rest.told)
      | inl minus ↦ elim (cases_Bool (is_known known (option_name word))) [
        | inl is_one ↦
            rw (minus, is_one)
            (told-option known word words (option_value word) (parts_from known None words) (parts_from known (Some (option_name word)) words)
            minus is_one refl rest.told (rest.awaited (option_name word)))
        | inr other ↦ rw (minus, other) tt
      ]
    ]

says-value : (known : List (List ℕ)) (name word : List ℕ) (words : List (List ℕ)) → Says known words
    → Awaited known name (word ∷ words) (parts_from known (Some name) (word ∷ words))
says-value known name word words rest =
    elim (cases_Bool (has_minus word)) [
      | inr plain ↦ rw plain (awaited-value known name word words (parts_from known None words) plain rest.told)
      | inl minus ↦ rw minus tt
    ]

says : (known words : List (List ℕ)) → Says known words
says known [] = record { told = refl; awaited = λ name. tt }
says known (word ∷ words) = record {
  told = says-word known word words (says known words);
  awaited = λ name. says-value known name word words (says known words);
}

-- a part at the front is read
path-read : (known : List (List ℕ)) (part : Part) (rest : List (List ℕ)) (parts : List Part) → has_minus part.value ≡ false → part.name ≡ path
    → parts_from known None rest ≡ Some parts → parts_from known None (part.value ∷ rest) ≡ Some (part ∷ parts)
path-read known part rest parts plain is read = rw (plain, read, ← is) refl

one-read : (known : List (List ℕ)) (part : Part) (word : List ℕ) (rest : List (List ℕ)) (parts : List Part) → NamesOption known part.name word
    → option_value word ≡ Some part.value → parts_from known None rest ≡ Some parts → parts_from known None (word ∷ rest) ≡ Some (part ∷ parts)
one-read known part word rest parts names given read = rw (names.minus, names.name_is, names.known_is, given, read) refl

two-read : (known : List (List ℕ)) (part : Part) (word : List ℕ) (rest : List (List ℕ)) (parts : List Part) → NamesOption known part.name word
    → option_value word ≡ None → has_minus part.value ≡ false → parts_from known None rest ≡ Some parts
    → parts_from known None (word ∷ part.value ∷ rest) ≡ Some (part ∷ parts)
two-read known part word rest parts names none plain read = rw (names.minus, names.name_is, names.known_is, none, plain, read) refl

part-read : (known : List (List ℕ)) (part : Part) (words rest : List (List ℕ)) (parts : List Part)
    → (IsPath part words rest ⊎ IsOneWord known part words rest ⊎ IsTwoWords known part words rest)
    → parts_from known None rest ≡ Some parts → parts_from known None words ≡ Some (part ∷ parts)
part-read known part words rest parts (inl is) read = rw is.words_are (path-read known part rest parts is.plain is.name_is read)
part-read known part words rest parts (inr (inl is)) read = rw is.words_are (one-read known part is.word rest parts is.names is.value_is read)
part-read known part words rest parts (inr (inr is)) read =
    rw is.words_are (two-read known part is.word rest parts is.names is.no_value is.plain read)

parts-read : (known : List (List ℕ)) (parts : List Part) (words : List (List ℕ)) → ArePartsOf known parts words → parts_from known None words ≡ Some parts
parts-read known [] words are = rw are refl
parts-read known (part ∷ parts) words are =
    part-read known part words are.0 parts are.1 (parts-read known parts are.0 are.2)

forth : (known words : List (List ℕ)) (parts : List Part) → parts_of known words ≡ Some parts
    → (list_all may_stand words ≡ true) × ArePartsOf known parts words
forth known words parts read =
    elim (cases_Bool (list_all may_stand words)) [
      | inl stand ↦
          let from : parts_from known None words ≡ Some parts = rw stand at read in
          (stand, rw from at (says known words).told)
      | inr other ↦ absurd (let e : None ≡ Some parts = rw other at read in cc)
    ]

pub reads-each-part : ReadsEachPart
reads-each-part known words parts = (
  λ read. forth known words parts read,
  λ are. rw are.0 (parts-read known parts words are.1),
)
