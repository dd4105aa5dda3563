-- The version of an image in which the words are the same that say where structures stand.
use Rattle.std.proofs.Common.{◌≡◌, ℕ, true, false, eqb, List, get_or, ap, arith}
use Rattle.std.proofs.lemmas.Bool.{eq-eqb, ne_eqb}
use Rattle.image_layout.specs.Fixed.{version_at}
use Rattle.image_layout.specs.Tables.{is_first_version}

-- the version is the same, or an image of version 1 became one of version 2
pub data VersionGoesOn (old new : List ℕ) : Type 0 where
  same_version : get_or new version_at 0 ≡ get_or old version_at 0 → VersionGoesOn old new
  raised : get_or old version_at 0 ≡ 1 → get_or new version_at 0 ≡ 2 → VersionGoesOn old new

pub version_is : (old new : List ℕ) → get_or new version_at 0 ≡ get_or old version_at 0 → is_first_version new ≡ is_first_version old
version_is old new same = ap (λ (version : ℕ). eqb version 1) same

pub first_is : (words : List ℕ) → get_or words version_at 0 ≡ 1 → is_first_version words ≡ true
first_is words one = eq-eqb (get_or words version_at 0) 1 one

pub second_is : (words : List ℕ) → get_or words version_at 0 ≡ 2 → is_first_version words ≡ false
second_is words two = ne_eqb (get_or words version_at 0) 1 (λ one. omega (arith, one, two))
