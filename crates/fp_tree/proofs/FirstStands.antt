-- The tree behind a first leaf.
use Rattle.std.proofs.Common.{◌≡◌, ⊎_elim, ℕ, ◌+◌, ◌-◌, ◌^◌, ◌%◌, ◌≤◌, Bool, cond, List, [], ◌∷◌, ◌++◌, length, get_or, map, refl, sym, ◌∙◌, ap, subst, arith}
use Rattle.std.specs.Prelude.{insert}
use Rattle.std.specs.Int.{bit_at}
use Rattle.std.proofs.lemmas.Bool.{cases_Bool, ne_eqb}
use Rattle.std.proofs.lemmas.Nat.Bits.{bit_at-zero}
use Rattle.pm_model.specs.declared.action.Action.{Action}
use Rattle.pm_model.specs.Plans.{finished, plan_of, part_actions}
use Rattle.pm_model.proofs.Cuts.{length-finished}
use Rattle.std.proofs.lemmas.Grind.{flat_map-append}
use Rattle.image_layout.specs.Pointer.{pointer_word}
use Rattle.image_layout.specs.Records.{new_leaf_at}
use Rattle.image_layout.specs.Trees.{leaf_list, is_full_leaf}
use Rattle.heap_palloc.specs.Calls.{IsAllocated}
use Rattle.heap_palloc.specs.Choice.{choice_parts}
use Rattle.heap_palloc.specs.Index.{HeapIndex}
use Rattle.shown_state.specs.Mending.{first_leaf_parts}
use Rattle.fp_inner.specs.InnerState.{InnerState}
use Rattle.fp_inner.specs.declared.probe.Probe.{Probe}
use Rattle.tree_cuts.specs.FirstLeaf.{MayStart, first_plan}
use Rattle.tree_cuts.proofs.Firsts.{start-away, start-bitmap, start-quiet, start-tree}
use Rattle.tree_cuts.proofs.Lists.{filter-hit, filter-miss}
use Rattle.fp_tree.specs.Changes.{MayGetFirst, new_leaf}
use Rattle.fp_tree.specs.Planned.{IsFirstPlanned, IsLeafAllocated, MayPlanLeaf}
use Rattle.fp_tree.specs.Standing.{StandsFor, has_pairs, indexed, leaf_of, or_first, room_in}
use Rattle.fp_tree.specs.TreeState.{TreeState}
use Rattle.fp_tree.specs.declared.room.Room.TheVariants.{Free, LeafFull}
use Rattle.fp_tree.proofs.ChangesHold.{may_start}
use Rattle.fp_tree.proofs.Chosen.{list_is, size}
use Rattle.fp_tree.proofs.Granted.{goes_on, leaf_choice, leaf_live, new_within}

module _ (words : List ℕ) (segments : length words % 32768 ≡ 0) (some : 32768 ≤ length words) (tree : TreeState) (leaves : List ℕ) (stands : StandsFor words tree leaves)
    (none : leaf_list words tree.column ≡ []) (index : HeapIndex) (lane : ℕ) (may : MayPlanLeaf words index lane tree.column)
    (new : HeapIndex) (left : List Action) (first size : ℕ) (made : IsAllocated words index new lane (new_leaf_at tree.column) 104 left first size) where
  no_leaf : leaves ≡ []
  no_leaf = sym (list_is words tree leaves stands) ∙ none

  abbrev leaf : ℕ
  leaf = new_leaf made.choice

  stands_empty : StandsFor words tree []
  stands_empty = subst (StandsFor words tree) no_leaf stands

  get_first : MayGetFirst tree.column made.choice words
  get_first = record {
    tree = stands_empty.in_words.tree_is;
    quiet = stands_empty.in_words.quiet;
    chosen = leaf_choice words segments some tree.column [] stands_empty.in_words.tree_is none index lane may new left first size made;
  }

  begun : MayStart words tree.column (new_leaf made.choice) (choice_parts words made.choice)
  begun = may_start tree.column made.choice words get_first

  done : List ℕ
  done = finished (first_plan tree.column (new_leaf made.choice) (choice_parts words made.choice)) words

  bitmap : get_or done leaf 0 ≡ 0
  unfolding done
  bitmap = start-bitmap words tree.column leaf (choice_parts words made.choice) begun

  indexed_is : indexed done (leaf ∷ []) ≡ leaf ∷ []
  indexed_is = ⊎_elim
      (λ hit. ap (λ (xs : List ℕ). or_first xs (leaf ∷ [])) (filter-hit (has_pairs done) leaf [] hit))
      (λ miss. ap (λ (xs : List ℕ). or_first xs (leaf ∷ [])) (filter-miss (has_pairs done) leaf [] miss))
      (cases_Bool (has_pairs done leaf))

  no_bit : (slot : ℕ) → bit_at (get_or done leaf 0) slot ≡ 1 → ⊥
  no_bit slot one = let clear = bit_at-zero slot in let is = ap (λ (n : ℕ). bit_at n slot) bitmap in omega (arith, one, clear, is)

  module _ (inner : InnerState) (kind : inner.kind ≡ tree.inner.kind) (entries : inner.leaves ≡ (0, pointer_word leaf) ∷ []) where
    now_stands : StandsFor done (record { column = tree.column; inner = inner }) (leaf ∷ [])
    unfolding done
    now_stands = record {
      in_words = record {
        tree_is = start-tree words tree.column leaf (choice_parts words made.choice) begun;
        quiet = start-quiet words tree.column leaf (choice_parts words made.choice) begun;
        ordered = (tt, tt);
        prints = (λ slot lt is. absurd (no_bit slot is), tt);
        sound = (record { bitmap = let is = bitmap in omega (arith, is); codes = λ slot lt is. absurd (no_bit slot is) }, tt);
      };
      index = record {
        kind = kind ∙ stands.index.kind;
        pointers = ap (map (λ entry. entry.1)) entries ∙ ap (map pointer_word) (sym indexed_is);
        keys = λ at positive lt. absurd (let one = ap length entries in omega (arith, positive, lt, one));
      };
    }

    listed : leaf_list done tree.column ≡ leaf ∷ []
    listed = list_is done (record { column = tree.column; inner = inner }) (leaf ∷ []) now_stands

    has_room : (probe : Probe) → room_in done probe (leaf_list done tree.column) ≡ Free
    has_room probe = ap (room_in done probe) listed
        ∙ ap (λ (x : ℕ). cond (is_full_leaf done x) LeafFull Free) (ap (leaf_of done probe) indexed_is)
        ∙ ap (λ (b : Bool). cond b LeafFull Free) (ne_eqb (get_or done leaf 0) (2 ^ 48 - 1) (λ whole. let is = bitmap in omega (arith, whole, is)))

    goes : MayPlanLeaf done new lane tree.column
    unfolding done
    goes = goes_on words segments some tree.column [] stands_empty.in_words.tree_is none index lane may new left first size made
        done (length-finished (first_plan tree.column leaf (choice_parts words made.choice)) words)
        (λ w off_column off_leaves off_new. start-away words tree.column leaf (choice_parts words made.choice) begun w off_column off_new)
        (leaf ∷ []) listed (leaf_live words segments some tree.column [] stands_empty.in_words.tree_is none index lane may new left first size made, tt)

    pub first_planned : (begun_with before plan : List Action) → begun_with ≡ [] → before ≡ begun_with ++ left → plan ≡ before ++ plan_of (first_leaf_parts tree.column (pointer_word first))
        → IsFirstPlanned words index new lane tree (record { column = tree.column; inner = inner }) plan
    unfolding done
    first_planned begun_with before plan nothing before_is plan_is = record {
      choice = made.choice;
      chosen = made.chosen;
      through = made.through;
      may = get_first;
      plan_is = plan_is
          ∙ ap (λ (xs : List Action). xs ++ plan_of (first_leaf_parts tree.column (pointer_word first))) (before_is ∙ ap (λ (xs : List Action). xs ++ left) nothing ∙ made.planned.plan_is)
          ∙ ap (λ (place : ℕ). plan_of (choice_parts words made.choice) ++ plan_of (first_leaf_parts tree.column (pointer_word place))) made.planned.first_is
          ∙ sym (flat_map-append part_actions (choice_parts words made.choice) (first_leaf_parts tree.column (pointer_word leaf)));
      column_is = refl;
      goes_on = record { stands = (leaf ∷ [], now_stands); may = goes };
      room = λ probe kind_is. has_room probe;
    }

-- ── the whole plan, by what the code knows ──

module _ (words : List ℕ) (segments : length words % 32768 ≡ 0) (some : 32768 ≤ length words) (tree : TreeState) (leaves : List ℕ) (stands : StandsFor words tree leaves)
    (none : leaf_list words tree.column ≡ []) (index : HeapIndex) (lane : ℕ) (may : MayPlanLeaf words index lane tree.column) (new : HeapIndex) where
  empty_tree : StandsFor words tree []
  empty_tree = subst (StandsFor words tree) (sym (list_is words tree leaves stands) ∙ none) stands

  pub none_indexed : tree.inner.leaves ≡ []
  none_indexed = by tree.inner.leaves (size words tree [] empty_tree)
    where
      by : (xs : List (ℕ × ℕ)) → length xs ≡ 0 → xs ≡ []
      by [] is = refl
      by (x ∷ xs) is = absurd (omega (arith, is))

  pub first_within : (column first : ℕ) (before after : List Action) → column ≡ tree.column → IsLeafAllocated words index new lane column first before after → first + 104 ≤ length words
  first_within column first before after column_is allocated =
      let made = subst (λ (c : ℕ). IsAllocated words index new lane (new_leaf_at c) 104 allocated.left first allocated.size) column_is allocated.allocated in
      let within = new_within words segments some tree.column [] empty_tree.in_words.tree_is none index lane may new allocated.left first allocated.size made in
      let is = made.planned.first_is in
      omega (arith, within, is)

  pub planned_first : (column first : ℕ) (before after plan : List Action) → column ≡ tree.column → IsLeafAllocated words index new lane column first before after → before ≡ []
      → plan ≡ after ++ plan_of (first_leaf_parts column (pointer_word first)) → (inner : InnerState) → inner.kind ≡ tree.inner.kind → inner.leaves ≡ insert tree.inner.leaves 0 (0, pointer_word first)
      → IsFirstPlanned words index new lane tree (record { column = column; inner = inner }) plan
  planned_first column first before after plan column_is allocated nothing plan_is inner kind entries =
      let made = subst (λ (c : ℕ). IsAllocated words index new lane (new_leaf_at c) 104 allocated.left first allocated.size) column_is allocated.allocated in
      subst (λ (c : ℕ). IsFirstPlanned words index new lane tree (record { column = c; inner = inner }) plan) (sym column_is)
      (first_planned words segments some tree leaves stands none index lane may new allocated.left first allocated.size made inner kind
      (entries ∙ ap (λ (es : List (ℕ × ℕ)). insert es 0 (0, pointer_word first)) none_indexed ∙ ap (λ (place : ℕ). (0, pointer_word place) ∷ []) made.planned.first_is)
      before after plan nothing allocated.plan_is
      (plan_is ∙ ap (λ (c : ℕ). after ++ plan_of (first_leaf_parts c (pointer_word first))) column_is))
