-- The place of a key that is put in, and the actions of an insertion.
use Rattle.std.proofs.Common.{◌≡◌, ◌≢◌, ℕ, ◌+◌, ◌-◌, ◌%◌, ◌^◌, ◌<◌, ◌≤◌, Bool, true, false, not, ◌&&◌, cond, List, [], ◌∷◌, ◌++◌, length, get_or, drop, refl, sym, ◌∙◌, ap, subst, arith, ⊎_elim}
use Rattle.std.specs.Prelude.{IfNone, MatchOption, None, Option, Some}
use Rattle.std.specs.Option.{is_some}
use Rattle.std.specs.Int.{bit_at}
use Rattle.std.proofs.lemmas.Bool.{both_ways, cases_Bool, eq-eqb, eqb-false, le-ltb}
use Rattle.std.proofs.lemmas.List.{append_assoc, length-append, length-drop}
use Rattle.std.proofs.lemmas.Nat.Bits.{bit_at-lt}
use Rattle.heap_small.specs.Bitmap.{with_bit}
use Rattle.heap_palloc.proofs.Pushed.{pushed-first, pushed-store}
use Rattle.image_layout.specs.Records.{code_at, fingerprint_at, key_at}
use Rattle.image_layout.specs.Trees.{integer_fingerprint, is_full_leaf, key_below, key_fingerprint, leaf_list, pairs}
use Rattle.pm_model.specs.declared.action.Action.{Action}
use Rattle.pm_model.specs.Plans.{Part, one_store, part_actions, part_end, plan_of, store}
use Rattle.pm_model.proofs.Lines.{last_part, length-lines_of, length-part_end}
use Rattle.fp_inner.specs.Keys.{is_above, is_below, kind_of}
use Rattle.fp_inner.specs.declared.probe.Probe.{Probe}
use Rattle.fp_inner.specs.declared.probe.Probe.TheVariants.{Int}
use Rattle.fp_leaf.specs.Slots.{AreUsedBelow, is_used}
use Rattle.tree_cuts.specs.Insertion.{Insertion, IsLead, Lead, insertion_parts, lead_part, with_byte}
use Rattle.tree_cuts.specs.Lists.{Each}
use Rattle.tree_cuts.specs.Tree.{IsPlaced, IsTree, pairs_of}
use Rattle.tree_cuts.proofs.Lists.{each-map, each-parts}
use Rattle.fp_tree.specs.Changes.{IsBetweenLeaves}
use Rattle.fp_tree.specs.Inserted.{IsInserted, IsPlaceFor}
use Rattle.fp_tree.specs.Searched.{IsLeafAt}
use Rattle.fp_tree.specs.Standing.{HasNoKey, IsSoundLeaf, StandsFor, is_key, print_of, room_in}
use Rattle.fp_tree.specs.TreeState.{TreeState}
use Rattle.fp_tree.specs.declared.room.Room.{Room}
use Rattle.fp_tree.specs.declared.room.Room.TheVariants.{Free, LeafFull, NoLeaf}
use Rattle.fp_tree.proofs.Chosen.{around, list_is, no_room, of_leaf, pairs_are, probe_is, probe_leaf_is, room_is, wanted}
use Rattle.fp_tree.proofs.Leaf.{full_in}
use Rattle.fp_tree.proofs.Search.{int_key}

-- ── answers ──

pub some_of : {X : Type 0} (P : Type 0) (o : Option X) → IfNone o P → (P → ⊥) → is_some o ≡ true
some_of P None is never = absurd (never is)
some_of P (Some x) is never = refl

pub match_some : {X : Type 0} (P : Type 0) (Q : X → Type 0) (o : Option X) → MatchOption o P Q → (P → ⊥) → is_some o ≡ true
match_some P Q None is never = absurd (never is)
match_some P Q (Some x) is never = refl

pub match_here : {X : Type 0} (P : Type 0) (Q : X → Type 0) (o : Option X) (x : X) → o ≡ Some x → MatchOption o P Q → Q x
match_here {X} P Q o x is has = subst (λ (p : Option X). MatchOption p P Q) is has

-- ── the actions ──

three_pushed : (plan one two new : List Action) (x y z : Action) → one ≡ plan ++ x ∷ [] → two ≡ one ++ y ∷ [] → new ≡ two ++ z ∷ [] → new ≡ plan ++ x ∷ y ∷ z ∷ []
three_pushed plan one two new x y z first second third =
    third ∙ ap (λ (l : List Action). l ++ z ∷ []) (second ∙ ap (λ (l : List Action). l ++ y ∷ []) first ∙ append_assoc plan (x ∷ []) (y ∷ []))
    ∙ append_assoc plan (x ∷ y ∷ []) (z ∷ [])

-- three stores, whose places and values are known by other names
pub pair_pushed : (plan one two new : List Action) (p q r key code word at next prints stored changed : ℕ)
    → one ≡ plan ++ store p key ∷ [] → two ≡ one ++ store q code ∷ [] → new ≡ two ++ store r word ∷ []
    → p ≡ at → q ≡ next → r ≡ prints → code ≡ stored → word ≡ changed → new ≡ plan ++ store at key ∷ store next stored ∷ store prints changed ∷ []
pair_pushed plan one two new p q r key code word at next prints stored changed first second third p_is q_is r_is code_is word_is =
    three_pushed plan one two new (store p key) (store q code) (store r word) first second third
    ∙ ap (λ (n : ℕ). plan ++ store n key ∷ store q code ∷ store r word ∷ []) p_is
    ∙ ap (λ (n : ℕ). plan ++ store at key ∷ store n code ∷ store r word ∷ []) q_is
    ∙ ap (λ (n : ℕ). plan ++ store at key ∷ store next n ∷ store r word ∷ []) code_is
    ∙ ap (λ (n : ℕ). plan ++ store at key ∷ store next stored ∷ store n word ∷ []) r_is
    ∙ ap (λ (n : ℕ). plan ++ store at key ∷ store next stored ∷ store prints n ∷ []) word_is

-- the end of a part has no more actions than the part, and a fence
pub part_spare : (pushed : List Action) (count spare left : ℕ) → count ≤ length pushed → left + length (part_end (drop (length pushed - count) pushed)) ≡ spare → spare ≤ left + count + 1
part_spare pushed count spare left within is =
    let end = length-part_end (drop (length pushed - count) pushed) in
    let lines = length-lines_of (drop (length pushed - count) pushed) in
    let size = length-drop (length pushed - count) pushed in
    omega (arith, end, lines, size, within, is)

abbrev pub three_stores : List ℕ → Insertion → ℕ → Part
three_stores words i print =
    store (key_at i.leaf i.slot) i.key
    ∷ store (code_at i.leaf i.slot) i.code
    ∷ store (fingerprint_at i.leaf i.slot) (with_byte (get_or words (fingerprint_at i.leaf i.slot) 0) (i.slot % 8) print)
    ∷ []

pub pushed_size : (words : List ℕ) (i : Insertion) (print : ℕ) (plan pushed : List Action) → pushed ≡ plan ++ three_stores words i print → length pushed ≡ length plan + 3
pushed_size words i print plan pushed is = ap (length {A = Action}) is ∙ length-append plan (three_stores words i print)

pub inserted_left : (words : List ℕ) (i : Insertion) (print : ℕ) → print ≡ integer_fingerprint i.key → (old plan pushed ended new : List Action) (led bitmap : ℕ)
    → plan ≡ old ++ lead_part i.lead → led ≡ length (lead_part i.lead) → pushed ≡ plan ++ three_stores words i print
    → ended ≡ pushed ++ part_end (drop (length pushed - (led + 3)) pushed) → new ≡ ended ++ part_actions (one_store i.leaf bitmap)
    → bitmap ≡ with_bit (get_or words i.leaf 0) i.slot → new ≡ old ++ plan_of (insertion_parts words i)
unfolding key_fingerprint
inserted_left words i print print_is old plan pushed ended new led bitmap plan_is counted pushed_is ended_is new_is bitmap_is =
    let three : Part = three_stores words i (integer_fingerprint i.key) in
    let part : Part = lead_part i.lead ++ three in
    let whole : pushed ≡ old ++ part =
    pushed_is ∙ ap (λ (n : ℕ). plan ++ three_stores words i n) print_is ∙ ap (λ (l : List Action). l ++ three) plan_is ∙ append_assoc old (lead_part i.lead) three in
    let size : led + 3 ≡ length part = ap (λ (n : ℕ). n + 3) counted ∙ sym (length-append (lead_part i.lead) three) in
    let first : ended ≡ old ++ part_actions part =
    ended_is ∙ ap (λ (l : List Action). pushed ++ part_end l) (last_part old part pushed (led + 3) whole size)
    ∙ ap (λ (l : List Action). l ++ part_end part) whole ∙ append_assoc old part (part_end part) in
    pushed-store old ended new (part ∷ []) i.leaf bitmap i.leaf (with_bit (get_or words i.leaf 0) i.slot) (pushed-first old ended part first) new_is refl bitmap_is

-- ── the place of a key ──

key_self : (words : List ℕ) (key : ℕ) → is_key words (Int key) key ≡ true
unfolding is_below is_above key_below
key_self words key = ap (λ (b : Bool). not b && not b) (le-ltb key key (omega arith))

other_key : (words : List ℕ) (key other : ℕ) → is_key words (Int key) other ≡ false → key ≢ other
other_key words key other isn't = λ same. both_ways (is_key words (Int key) other) isn't (subst (λ (n : ℕ). is_key words (Int key) n ≡ true) same (key_self words key))

abbrev is_free : Room → Bool
is_free Free = true
is_free NoLeaf = false
is_free LeafFull = false

module _ (words : List ℕ) (tree : TreeState) (leaves : List ℕ) (stands : StandsFor words tree leaves) (probe : Probe) (room : room_in words probe (leaf_list words tree.column) ≡ Free) where
  pub has_leaf : tree.inner.leaves ≡ [] → ⊥
  has_leaf none = both_ways false refl (ap is_free (sym (no_room words tree leaves stands probe none) ∙ room))

  module _ (kind : kind_of probe ≡ tree.inner.kind) (leaf : ℕ) (at_leaf : IsLeafAt words tree probe leaf) where
    pub leaf_fits : leaf + 104 ≤ length words
    leaf_fits = (of_leaf words tree leaves stands probe kind leaf at_leaf (IsPlaced (length words) tree.column) stands.in_words.tree_is.placed).within

    not_full : is_full_leaf words leaf ≡ false
    not_full = ⊎_elim
        (λ full. absurd (both_ways false refl (ap is_free (sym (room_is words tree leaves stands probe kind leaf at_leaf ∙ ap (λ (b : Bool). cond b LeafFull Free) full) ∙ room))))
        (λ free. free) (cases_Bool (is_full_leaf words leaf))

    pub has_free_slot : AreUsedBelow (get_or words leaf 0) 48 → ⊥
    has_free_slot used =
        let fits = (of_leaf words tree leaves stands probe kind leaf at_leaf (IsSoundLeaf words) stands.in_words.sound).bitmap in
        both_ways (is_full_leaf words leaf) not_full (eq-eqb (get_or words leaf 0) (2 ^ 48 - 1) ((full_in (get_or words leaf 0) fits).0 used))

    pub place_for : (key : ℕ) → is_key words probe key ≡ true → HasNoKey words tree.column probe → (slot : ℕ) → slot < 48
        → is_used (get_or words leaf 0) slot ≡ false → AreUsedBelow (get_or words leaf 0) slot → IsPlaceFor words tree.column probe key leaf slot
    place_for key key_is absent slot lt free least =
        let wanted_is = int_key words (wanted words tree leaves stands probe kind leaf at_leaf) key (subst (λ (p : Probe). is_key words p key ≡ true) (probe_is words tree leaves stands probe kind leaf at_leaf) key_is) in
        let int_is : probe ≡ Int key = probe_is words tree leaves stands probe kind leaf at_leaf ∙ ap Int wanted_is in
        let near = around words tree leaves stands probe kind leaf at_leaf in
        record {
          before = near.before;
          after = near.after;
          leaf_is = probe_leaf_is words tree leaves stands probe kind leaf at_leaf;
          least = least;
          leaves_are = list_is words tree leaves stands ∙ near.is;
          between = subst (λ (n : ℕ). IsBetweenLeaves words n near.before near.after) wanted_is (record { above = near.lower; below = near.upper });
          may = λ code. record {
            tree = subst (IsTree words tree.column) near.is stands.in_words.tree_is;
            quiet = stands.in_words.quiet;
            slot = lt;
            free = let bit = bit_at-lt (get_or words leaf 0) slot in let none = eqb-false (bit_at (get_or words leaf 0) slot) 1 free in omega (arith, bit, none);
            absent = subst (λ (ls : List ℕ). Each (λ pair. key ≢ pair.key) (pairs_of words ls)) near.is
                (subst (Each (λ pair. key ≢ pair.key)) (pairs_are words tree leaves stands)
                (each-map (λ pair. is_key words probe pair.key ≡ false) (λ pair. key ≢ pair.key)
                (λ pair isn't. other_key words key pair.key (subst (λ (p : Probe). is_key words p pair.key ≡ false) int_is isn't)) (pairs words tree.column) absent));
            lead = tt;
          };
        }

    pub print_is : (key : ℕ) → is_key words probe key ≡ true → print_of probe ≡ integer_fingerprint key
    unfolding print_of
    print_is key key_is =
        let wanted_is = int_key words (wanted words tree leaves stands probe kind leaf at_leaf) key (subst (λ (p : Probe). is_key words p key ≡ true) (probe_is words tree leaves stands probe kind leaf at_leaf) key_is) in
        ap print_of (probe_is words tree leaves stands probe kind leaf at_leaf ∙ ap Int wanted_is)

pub place_within : (words : List ℕ) (column : ℕ) (probe : Probe) (key leaf slot : ℕ) → IsPlaceFor words column probe key leaf slot → leaf + 104 ≤ length words
place_within words column probe key leaf slot place = (each-parts (IsPlaced (length words) column) place.before (leaf ∷ place.after) (place.may 0).tree.placed).1.0.within

pub inserted : (words : List ℕ) (column : ℕ) (lead : Option Lead) (probe : Probe) (key code leaf slot : ℕ) → IsPlaceFor words column probe key leaf slot → IsLead (length words) column (leaf_list words column) lead
    → (same_key same_code : ℕ) → same_key ≡ key → same_code ≡ code → (old new : List Action)
    → new ≡ old ++ plan_of (insertion_parts words (record { leaf = leaf; slot = slot; key = same_key; code = same_code; lead = lead })) → IsInserted words column lead probe key code old new
inserted words column lead probe key code leaf slot place lead_is same_key same_code key_is code_is old new plan_is =
    let may = place.may code in
    record {
      pair = record { leaf = leaf; slot = slot; key = key; code = code; lead = lead };
      key_is = refl;
      code_is = refl;
      lead_is = refl;
      place = place;
      may = record {
        tree = may.tree;
        quiet = may.quiet;
        slot = may.slot;
        free = may.free;
        absent = may.absent;
        lead = subst (λ (ls : List ℕ). IsLead (length words) column ls lead) place.leaves_are lead_is;
      };
      plan_is = plan_is
          ∙ ap (λ (n : ℕ). old ++ plan_of (insertion_parts words (record { leaf = leaf; slot = slot; key = n; code = same_code; lead = lead }))) key_is
          ∙ ap (λ (n : ℕ). old ++ plan_of (insertion_parts words (record { leaf = leaf; slot = slot; key = key; code = n; lead = lead }))) code_is;
    }
