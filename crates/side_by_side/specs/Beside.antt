-- When the law of a change gives the law of its plan beside others.
use Rattle.std.specs.Prelude.{◌≡◌, ℕ, ◌<◌, Bool, List, length}
use Rattle.pm_model.specs.Changes.{Change, AreSameAt, HoldsOnWords}
use Rattle.side_by_side.specs.SideBySide.{without}

-- words that have P, and are the base's at these places, have what the change reads of the base
abbrev pub RestsOn : Change → ℕ → ((ℕ → ℕ) → List ℕ → Type 0) → (ℕ → Bool) → List ℕ → Type 0
RestsOn c session P places base =
    (left : ℕ → ℕ) (words : List ℕ) → length words ≡ length base → AreSameAt places words base
    → P (without session left) words → c.reads base words

-- From any words that have P, and what the change reads of the base, each image that shows a cut of it has Q while
-- actions are left.
abbrev pub CutsGive : Change → ℕ → (P Q : (ℕ → ℕ) → List ℕ → Type 0) → List ℕ → Type 0
CutsGive c session P Q base =
    (left : ℕ → ℕ) (words image : List ℕ) → c.reads base words → P (without session left) words
    → 0 < left session → c.shows words image → Q left image

-- From such words each image that shows its end has Q once none is left.
abbrev pub EndGives : Change → ℕ → (P Q : (ℕ → ℕ) → List ℕ → Type 0) → List ℕ → Type 0
EndGives c session P Q base =
    (left : ℕ → ℕ) (words image : List ℕ) → c.reads base words → P (without session left) words
    → left session ≡ 0 → c.ends words image → Q left image

-- The change has its law on words and is asked of these words; what it reads stands at these places or follows from P,
-- and what its cuts and its end show gives Q.
pub record IsKeptBeside (c : Change) (session : ℕ) (P Q : (ℕ → ℕ) → List ℕ → Type 0) (places : ℕ → Bool)
    (base : List ℕ) : Type 0 where
  pub law : HoldsOnWords c
  pub asked : c.asks base
  pub rests : RestsOn c session P places base
  pub cuts : CutsGive c session P Q base
  pub end : EndGives c session P Q base
