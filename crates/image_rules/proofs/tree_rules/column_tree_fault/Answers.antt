use Rattle.std.proofs.Common.{◌≡◌, ℕ, Bool, true, false, not, List, [], ◌∷◌, ◌++◌, get_or, sym, ◌∙◌, ap}
use Rattle.std.specs.Prelude.{Option, Some}
use Rattle.std.specs.Option.{is_some}
use Rattle.std.specs.Bool.{then_some}
use Rattle.image_layout.specs.Places.{is_null_or_pointer_to}
use Rattle.image_layout.specs.Records.{first_leaf_at, new_leaf_at, split_leaf_at}
use Rattle.image_layout.specs.Trees.{stored_leaves}
use Rattle.image_layout.specs.Checks.{Check, check, first_failing}
use Rattle.image_layout.specs.EntryRules.{is_split_leaf, leaf_checks, leaf_pointer_check, tree_checks}
use Rattle.image_layout.proofs.Faults.{fails, pass-all, passes}
use Rattle.image_rules.proofs.Firsts.{first_of, found_none, lone}
use Rattle.image_rules.proofs.tree_rules.column_tree_fault.Goals as goal

module _ (words : List ℕ) (column : ℕ) where
  abbrev split_check : Check
  split_check = check (split_leaf_at column) (is_split_leaf words column)

  abbrev along : List Check
  along = leaf_checks words [] (stored_leaves words column)

  -- a word that is null or names a leaf, by the place where it was read
  held : (at place : ℕ) (holds b : Bool) → at ≡ place → holds ≡ is_null_or_pointer_to words 128 (get_or words at 0) → holds ≡ b → is_null_or_pointer_to words 128 (get_or words place 0) ≡ b
  held at place holds b is here told = sym (here ∙ ap (λ (p : ℕ). is_null_or_pointer_to words 128 (get_or words p 0)) is) ∙ told

  from_first : is_null_or_pointer_to words 128 (get_or words (first_leaf_at column) 0) ≡ true
      → first_failing (tree_checks words column) ≡ first_failing (leaf_pointer_check words (split_leaf_at column) ∷ leaf_pointer_check words (new_leaf_at column) ∷ along ++ split_check ∷ [])
  unfolding tree_checks
  from_first hit = passes (leaf_pointer_check words (first_leaf_at column)) (leaf_pointer_check words (split_leaf_at column) ∷ leaf_pointer_check words (new_leaf_at column) ∷ along ++ split_check ∷ []) hit

  no_first : is_null_or_pointer_to words 128 (get_or words (first_leaf_at column) 0) ≡ false → first_failing (tree_checks words column) ≡ Some (first_leaf_at column)
  unfolding tree_checks
  no_first miss = fails (leaf_pointer_check words (first_leaf_at column)) (leaf_pointer_check words (split_leaf_at column) ∷ leaf_pointer_check words (new_leaf_at column) ∷ along ++ split_check ∷ []) miss

  module _ (first : is_null_or_pointer_to words 128 (get_or words (first_leaf_at column) 0) ≡ true) where
    no_split : is_null_or_pointer_to words 128 (get_or words (split_leaf_at column) 0) ≡ false → first_failing (tree_checks words column) ≡ Some (split_leaf_at column)
    no_split miss = from_first first ∙ fails (leaf_pointer_check words (split_leaf_at column)) (leaf_pointer_check words (new_leaf_at column) ∷ along ++ split_check ∷ []) miss

    module _ (split : is_null_or_pointer_to words 128 (get_or words (split_leaf_at column) 0) ≡ true) where
      from_split : first_failing (tree_checks words column) ≡ first_failing (leaf_pointer_check words (new_leaf_at column) ∷ along ++ split_check ∷ [])
      from_split = from_first first ∙ passes (leaf_pointer_check words (split_leaf_at column)) (leaf_pointer_check words (new_leaf_at column) ∷ along ++ split_check ∷ []) split

      no_new : is_null_or_pointer_to words 128 (get_or words (new_leaf_at column) 0) ≡ false → first_failing (tree_checks words column) ≡ Some (new_leaf_at column)
      no_new miss = from_split ∙ fails (leaf_pointer_check words (new_leaf_at column)) (along ++ split_check ∷ []) miss

      module _ (new : is_null_or_pointer_to words 128 (get_or words (new_leaf_at column) 0) ≡ true) where
        from_new : first_failing (tree_checks words column) ≡ first_failing (along ++ split_check ∷ [])
        from_new = from_split ∙ passes (leaf_pointer_check words (new_leaf_at column)) (along ++ split_check ∷ []) new

        in_list : (found : Option ℕ) → found ≡ first_failing along → is_some found ≡ true → found ≡ first_failing (tree_checks words column)
        in_list found here some = first_of along (split_check ∷ []) found here some ∙ sym from_new

        last_one : (found : Option ℕ) (at : ℕ) (holds : Bool) → found ≡ first_failing along → is_some found ≡ false → at ≡ split_leaf_at column → holds ≡ is_split_leaf words column
            → then_some (not holds) at ≡ first_failing (tree_checks words column)
        last_one found at holds here none is told =
            lone at holds
            ∙ ap (λ (p : ℕ). first_failing (check p holds ∷ [])) is
            ∙ ap (λ (h : Bool). first_failing (check (split_leaf_at column) h ∷ [])) told
            ∙ sym (from_new ∙ pass-all along (split_check ∷ []) (found_none found (first_failing along) here none))

pub returns-then-not-is_null_or_words : goal.returns-then-not-is_null_or_words
returns-then-not-is_null_or_words c =
    let words = c.args.words.now in
    ap (λ (p : ℕ). Some p) c.first_leaf-first.ensures
    ∙ sym (no_first words c.args.column.0 (held words c.args.column.0 c.first_leaf-first.result.0 (first_leaf_at c.args.column.0) c.is_null_or_words.result false c.first_leaf-first.ensures c.is_null_or_words.ensures c.if-not-is_null_or_words.true))

pub returns-then-not-is_null_or_words-2 : goal.returns-then-not-is_null_or_words-2
returns-then-not-is_null_or_words-2 c =
    let words = c.args.words.now in
    ap (λ (p : ℕ). Some p) c.split_leaf-split.ensures
    ∙ sym (no_split words c.args.column.0
    (held words c.args.column.0 c.first_leaf-first.result.0 (first_leaf_at c.args.column.0) c.is_null_or_words.result true c.first_leaf-first.ensures c.is_null_or_words.ensures c.if-not-is_null_or_words.false)
    (held words c.args.column.0 c.split_leaf-split.result.0 (split_leaf_at c.args.column.0) c.is_null_or_words-2.result false c.split_leaf-split.ensures c.is_null_or_words-2.ensures c.if-not-is_null_or_words-2.true))

pub returns-then-not-is_null_or_words-3 : goal.returns-then-not-is_null_or_words-3
returns-then-not-is_null_or_words-3 c =
    let words = c.args.words.now in
    ap (λ (p : ℕ). Some p) c.new_leaf-new.ensures
    ∙ sym (no_new words c.args.column.0
    (held words c.args.column.0 c.first_leaf-first.result.0 (first_leaf_at c.args.column.0) c.is_null_or_words.result true c.first_leaf-first.ensures c.is_null_or_words.ensures c.if-not-is_null_or_words.false)
    (held words c.args.column.0 c.split_leaf-split.result.0 (split_leaf_at c.args.column.0) c.is_null_or_words-2.result true c.split_leaf-split.ensures c.is_null_or_words-2.ensures c.if-not-is_null_or_words-2.false)
    (held words c.args.column.0 c.new_leaf-new.result.0 (new_leaf_at c.args.column.0) c.is_null_or_words-3.result false c.new_leaf-new.ensures c.is_null_or_words-3.ensures c.if-not-is_null_or_words-3.true))

pub returns-then-is_some : goal.returns-then-is_some
returns-then-is_some c =
    let words = c.args.words.now in
    in_list words c.args.column.0
    (held words c.args.column.0 c.first_leaf-first.result.0 (first_leaf_at c.args.column.0) c.is_null_or_words.result true c.first_leaf-first.ensures c.is_null_or_words.ensures c.if-not-is_null_or_words.false)
    (held words c.args.column.0 c.split_leaf-split.result.0 (split_leaf_at c.args.column.0) c.is_null_or_words-2.result true c.split_leaf-split.ensures c.is_null_or_words-2.ensures c.if-not-is_null_or_words-2.false)
    (held words c.args.column.0 c.new_leaf-new.result.0 (new_leaf_at c.args.column.0) c.is_null_or_words-3.result true c.new_leaf-new.ensures c.is_null_or_words-3.ensures c.if-not-is_null_or_words-3.false)
    c.list_fault-found.result c.list_fault-found.ensures (sym c.is_some.ensures ∙ c.if-is_some.true)

pub returns : goal.returns
returns c =
    let words = c.args.words.now in
    c.then_some.ensures
    ∙ last_one words c.args.column.0
    (held words c.args.column.0 c.first_leaf-first.result.0 (first_leaf_at c.args.column.0) c.is_null_or_words.result true c.first_leaf-first.ensures c.is_null_or_words.ensures c.if-not-is_null_or_words.false)
    (held words c.args.column.0 c.split_leaf-split.result.0 (split_leaf_at c.args.column.0) c.is_null_or_words-2.result true c.split_leaf-split.ensures c.is_null_or_words-2.ensures c.if-not-is_null_or_words-2.false)
    (held words c.args.column.0 c.new_leaf-new.result.0 (new_leaf_at c.args.column.0) c.is_null_or_words-3.result true c.new_leaf-new.ensures c.is_null_or_words-3.ensures c.if-not-is_null_or_words-3.false)
    c.list_fault-found.result c.split_leaf-split.result.0 c.is_split_in_list.result c.list_fault-found.ensures (sym c.is_some.ensures ∙ c.if-is_some.false) c.split_leaf-split.ensures c.is_split_in_list.ensures
