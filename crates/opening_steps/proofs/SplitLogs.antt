-- Where no split is logged: no owner word is about to be replaced, and so it stays where structures read the same words.
use Rattle.std.proofs.Common.{◌≡◌, ◌≢◌, ℕ, false, eqb, List, [], ◌∷◌, get_or, refl, sym, ◌∙◌, ap, subst, arith}
use Rattle.std.specs.Prelude.{All, Contains, take}
use Rattle.std.specs.List.{list_any}
use Rattle.std.proofs.lemmas.Bool.{and_left, ne_eqb, or_from}
use Rattle.std.proofs.lemmas.List.{take_all}
use Rattle.std.proofs.lemmas.List.Elements.{All-contains}
use Rattle.image_layout.specs.Owners.{is_replaced, is_replaced_in}
use Rattle.image_layout.specs.Records.{new_leaf_at, split_leaf_at}
use Rattle.image_layout.specs.Tables.{all_columns}
use Rattle.image_layout.proofs.Members.{Contains-here, Contains-there}
use Rattle.image_layout.proofs.OwnersApart.{all_from}
use Rattle.shown_state.specs.Fits.{Fits}
use Rattle.shown_state.specs.Reads.{in_column, SameReads}
use Rattle.shown_state.specs.StepLaws.{NoneIsSplit}
use Rattle.shown_state.proofs.Ends.{all_few}
use Rattle.shown_state.proofs.ReadLaw.{reads_decide}
use Rattle.opening_steps.proofs.OwnerPlaces.{Contains-take}

module _ (words : List ℕ) (fits : Fits words) (none : NoneIsSplit 512 words) where
  pub logs_null : (column : ℕ) → Contains (all_columns words) column → (get_or words (split_leaf_at column) 0 ≡ 0) × (get_or words (new_leaf_at column) 0 ≡ 0)
  logs_null column is =
      let P : ℕ → Type 0 = λ c. (get_or words (split_leaf_at c) 0 ≡ 0) × (get_or words (new_leaf_at c) 0 ≡ 0) in
      All-contains P (all_columns words) column (subst (All P) (take_all 512 (all_columns words) (all_few words fits)) none) is

  -- no owner word is about to be replaced by one that names a block
  pub no_replaced : (at other : ℕ) → get_or words other 0 ≢ 0 → is_replaced words at other ≡ false
  no_replaced at other some = clear (all_columns words) (λ column is. is)
    where
      clear : (columns : List ℕ) → ((column : ℕ) → Contains columns column → Contains (all_columns words) column) → list_any (is_replaced_in words at other) columns ≡ false
      clear [] among = refl
      clear (column ∷ columns) among =
          let null = (logs_null column (among column (Contains-here column columns))).1 in
          let apart : eqb other (new_leaf_at column) ≡ false = ne_eqb other (new_leaf_at column) (λ e. some (ap (λ (a : ℕ). get_or words a 0) e ∙ null)) in
          or_from (is_replaced_in words at other column) (list_any (is_replaced_in words at other) columns)
          (and_left (eqb other (new_leaf_at column)) _ apart) (clear columns (λ c is. among c (Contains-there column c columns is)))

pub no_split_kept : (old new : List ℕ) → Fits old → SameReads old new → NoneIsSplit 512 old → NoneIsSplit 512 new
no_split_kept old new fits same none =
    let (read, b, c, d, e, f) = reads_decide old new fits same in
    subst (λ (cs : List ℕ). All (λ column. (get_or new (split_leaf_at column) 0 ≡ 0) × (get_or new (new_leaf_at column) 0 ≡ 0)) (take 512 cs)) (sym read.columns)
    (all_from (λ column. (get_or new (split_leaf_at column) 0 ≡ 0) × (get_or new (new_leaf_at column) 0 ≡ 0)) (take 512 (all_columns old)) (λ column is.
    let of = Contains-take 512 (all_columns old) column is in
    let was = logs_null old fits none column of in (
      same.each (split_leaf_at column) (in_column column 5 of (omega arith) refl) ∙ was.0,
      same.each (new_leaf_at column) (in_column column 6 of (omega arith) refl) ∙ was.1,
    )))
