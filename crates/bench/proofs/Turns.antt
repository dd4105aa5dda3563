-- What a turn keeps.
use Rattle.std.proofs.Common.{◌≡◌, ◌≢◌, inl, inr, ⊎_elim, ℕ, ◌%◌, ◌<◌, ◌≤◌, Bool, true, false, cond, eqb, ltb, List, get_or, refl, sym, ◌∙◌, ap, subst, arith}
use Rattle.std.proofs.lemmas.Bool.{cases_eq, cond-false, or_from, ne_eqb, le-ltb}
use Rattle.pm_model.specs.declared.action.Action.{Action}
use Rattle.pm_model.specs.Device.{Device, IsClean}
use Rattle.image_layout.specs.Fixed.{lane_op_at}
use Rattle.image_layout.specs.Pointer.{pointer_word}
use Rattle.image_layout.specs.Places.{place_in}
use Rattle.pm_model.specs.Plans.{finished, at_rest}
use Rattle.image_layout.specs.Blocks.{Block, live_blocks}
use Rattle.image_layout.specs.Fresh.{is_reserved_descriptor, fresh_words}
use Rattle.image_layout.proofs.FreshImage.{get_or-fresh_words}
use Rattle.heap_palloc.specs.Lane.{is_big_place}
use Rattle.heap_palloc.specs.Law.{IsElsewhere, Shows}
use Rattle.heap_palloc.specs.Index.{HeapIndex, IsIndexOf}
use Rattle.heap_palloc.specs.Choice.{Choice, in_page, on_new_page, in_run, IsThrough, choice_allocation, choice_parts, choice_page, choice_pages, choice_block, Freed, of_slot, of_pages, slot_named, pages_named, freed_named, freed_allocation, freed_parts, freed_page, freed_pages, freed_block}
use Rattle.heap_palloc.specs.Calls.{MayCall, OwnsBlock, IsPlanned, IsFreed}
use Rattle.heap_palloc.proofs.Changes.{change_settles}
use Rattle.heap_palloc.proofs.Choices.{choice_allocates, freed_frees}
use Rattle.heap_palloc.proofs.Owners.{choice_idle, choice_heap, freed_idle, freed_heap, allocation_gives, allocation_new, allocation_keeps, freeing_keeps}
use Rattle.heap_palloc.proofs.Settled.{planned_settled, released_settled, fresh_settled}
use Rattle.heap_palloc.proofs.Stages.{place_in-pointer}
use Rattle.bench.specs.Uses.{IsOwner, IsInUse}

-- an owner that isn't the plan's own is a word elsewhere
owner_elsewhere : (lane owner page pages w : ℕ) → lane < 16 → 4 ≤ page → IsOwner w → w ≢ owner → IsElsewhere lane owner page pages w
owner_elsewhere lane owner page pages w lt high is apart = record {
  outside_lane = (λ e. omega (arith, e, lt, is.0), λ e. omega (arith, e, lt, is.0), λ e. omega (arith, e, lt, is.0));
  no_owner = apart;
  no_descriptor = λ k low up e. omega (arith, e, is.0, is.1);
  no_bitmap = λ e. omega (arith, e, high, is.1);
}

pointer_same : (place other : ℕ) → pointer_word place ≡ pointer_word other → place ≡ other
pointer_same place other e = sym (place_in-pointer place) ∙ ap place_in e ∙ place_in-pointer other

-- what a turn of one owner changes among the owners
record IsTurn (old new : List ℕ) (dest : ℕ) : Type 0 where
  pub idle : get_or new (lane_op_at 0) 0 ≡ 0
  pub same : (w : ℕ) → IsOwner w → w ≢ dest → get_or new w 0 ≡ get_or old w 0
  pub owns : (w : ℕ) (block : Block) → IsOwner w → w ≢ dest → get_or old w 0 ≢ get_or old dest 0 → OwnsBlock old w block → OwnsBlock new w block
  pub dest_owns : get_or new dest 0 ≢ 0 → (block : Block) × OwnsBlock new dest block
  pub dest_apart : (w : ℕ) → IsOwner w → w ≢ dest → get_or old w 0 ≢ 0 → get_or new dest 0 ≢ get_or old w 0

module _ (d : Device) (index : HeapIndex) (used : IsInUse d index) (dest : ℕ) (dest_is : IsOwner dest) where
  pub may_call : MayCall d.cached index 0 dest
  may_call = record {
    rules = used.settled.rules;
    index_of = used.settled.index_of;
    lane_is = omega arith;
    idle = used.idle;
    dest_is = inl (omega (arith, dest_is.0), dest_is.1, inr dest_is.0);
  }

  pub owned : get_or d.cached dest 0 ≢ 0 → (block : Block) × OwnsBlock d.cached dest block
  owned some = used.owned dest dest_is some

  module _ (new : List ℕ) (turn : IsTurn d.cached new dest) where
    turned_owned : (w : ℕ) → IsOwner w → get_or new w 0 ≢ 0 → (block : Block) × OwnsBlock new w block
    turned_owned w is some = ⊎_elim
        (λ (here : w ≡ dest). subst (λ (v : ℕ). (block : Block) × OwnsBlock new v block) (sym here) (turn.dest_owns (λ e. some (ap (λ (v : ℕ). get_or new v 0) here ∙ e))))
        (λ elsewhere.
        let before : get_or d.cached w 0 ≢ 0 = λ e. some (turn.same w is elsewhere ∙ e) in
        let (block, owns) = used.owned w is before in
        (block, turn.owns w block is elsewhere (used.apart w dest is dest_is elsewhere before) owns))
        (cases_eq w dest)

    turned_apart : (v w : ℕ) → IsOwner v → IsOwner w → v ≢ w → get_or new v 0 ≢ 0 → get_or new v 0 ≢ get_or new w 0
    turned_apart v w v_is w_is differ some e = ⊎_elim
        (λ (v_here : v ≡ dest).
        let w_elsewhere : w ≢ dest = λ there. differ (v_here ∙ sym there) in
        let same : get_or new dest 0 ≡ get_or d.cached w 0 = ap (λ (x : ℕ). get_or new x 0) (sym v_here) ∙ e ∙ turn.same w w_is w_elsewhere in
        turn.dest_apart w w_is w_elsewhere (λ zero_is. some (ap (λ (x : ℕ). get_or new x 0) v_here ∙ same ∙ zero_is)) same)
        (λ v_elsewhere.
        let old_v = turn.same v v_is v_elsewhere in
        let before : get_or d.cached v 0 ≢ 0 = λ zero_is. some (old_v ∙ zero_is) in
        ⊎_elim
        (λ (w_here : w ≡ dest). turn.dest_apart v v_is v_elsewhere before (ap (λ (x : ℕ). get_or new x 0) (sym w_here) ∙ sym e ∙ old_v))
        (λ w_elsewhere. used.apart v w v_is w_is differ before (sym old_v ∙ e ∙ turn.same w w_is w_elsewhere))
        (cases_eq w dest))
        (cases_eq v dest)

  -- ── an allocation ──

  module _ (new : HeapIndex) (choice : Choice) (left : List Action) (first size : ℕ) (through : IsThrough 0 dest choice) (planned : IsPlanned d.cached new choice left first size) where
    abbrev final : List ℕ
    final = finished (choice_parts d.cached choice) d.cached

    lane_is : (choice_allocation d.cached choice).lane ≡ 0
    lane_is = by choice through
      where
        by : (c : Choice) → IsThrough 0 dest c → (choice_allocation d.cached c).lane ≡ 0
        by (in_page s) t = t.0
        by (on_new_page s) t = t.0
        by (in_run r) t = t.0

    owner_is : (choice_allocation d.cached choice).owner ≡ dest
    owner_is = by choice through
      where
        by : (c : Choice) → IsThrough 0 dest c → (choice_allocation d.cached c).owner ≡ dest
        by (in_page s) t = t.1
        by (on_new_page s) t = t.1
        by (in_run r) t = t.1

    elsewhere : (w : ℕ) → IsOwner w → w ≢ dest → IsElsewhere (choice_allocation d.cached choice).lane (choice_allocation d.cached choice).owner (choice_page choice) (choice_pages choice) w
    elsewhere w is apart = owner_elsewhere (choice_allocation d.cached choice).lane (choice_allocation d.cached choice).owner (choice_page choice) (choice_pages choice) w
        (choice_idle d.cached choice planned.may).lane_is (choice_heap d.cached choice planned.may).behind_fixed is (λ e. apart (e ∙ owner_is))

    shows : Shows (choice_allocation d.cached choice).lane (choice_allocation d.cached choice).owner (choice_page choice) (choice_pages choice) d.cached (live_blocks final) (pointer_word (choice_allocation d.cached choice).block) final
    shows = change_settles (choice_allocation d.cached choice).lane (choice_allocation d.cached choice).owner (choice_page choice) (choice_pages choice) d.cached (live_blocks d.cached) 0 (live_blocks final) (pointer_word (choice_allocation d.cached choice).block)
        (choice_parts d.cached choice) d.cached (choice_allocates d.cached choice planned.may).changes

    gives : OwnsBlock final dest (choice_block choice)
    gives = subst (λ (w : ℕ). OwnsBlock final w (choice_block choice)) owner_is (allocation_gives d.cached choice planned.may)

    turn : IsTurn d.cached final dest
    turn = record {
      idle = ap (λ (lane : ℕ). get_or final (lane_op_at lane) 0) (sym lane_is) ∙ (choice_allocates d.cached choice planned.may).changes.idle;
      same = λ w is apart. shows.keeps.each w (elsewhere w is apart);
      owns = λ w block is apart _ owns. allocation_keeps d.cached choice w block used.settled.rules planned.may (elsewhere w is apart) owns;
      dest_owns = λ some. (choice_block choice, gives);
      dest_apart = λ w is apart some e.
          let (block, owns) = used.owned w is some in
          allocation_new d.cached choice block planned.may owns.live (pointer_same block.first (choice_block choice).first (sym owns.named ∙ sym e ∙ gives.named));
    }

    pub allocated : (after : Device) → after.cached ≡ final → ((w : ℕ) → IsClean after w) → IsInUse after new
    allocated after is clean = record {
      settled = planned_settled d index used.settled new choice left first size planned after is clean;
      idle = ap (λ (words : List ℕ). get_or words (lane_op_at 0) 0) is ∙ turn.idle;
      owned = subst (λ (words : List ℕ). (w : ℕ) → IsOwner w → get_or words w 0 ≢ 0 → (block : Block) × OwnsBlock words w block) (sym is) (turned_owned final turn);
      apart = subst (λ (words : List ℕ). (v w : ℕ) → IsOwner v → IsOwner w → v ≢ w → get_or words v 0 ≢ 0 → get_or words v 0 ≢ get_or words w 0) (sym is) (turned_apart final turn);
    }

  -- ── a freeing ──

  module _ (new : HeapIndex) (some : get_or d.cached dest 0 ≢ 0) (left : List Action) (freed : IsFreed d.cached new 0 dest left) where
    abbrev named : Freed
    named = freed_named d.cached 0 dest

    abbrev rest : List ℕ
    rest = finished (freed_parts d.cached (freed_named d.cached 0 dest)) d.cached

    freed_lane : (freed_allocation d.cached (freed_named d.cached 0 dest)).lane ≡ 0
    freed_lane = by (is_big_place (place_in (get_or d.cached dest 0)))
      where
        by : (b : Bool) → (freed_allocation d.cached (cond b (of_pages (pages_named d.cached 0 dest)) (of_slot (slot_named d.cached 0 dest)))).lane ≡ 0
        by true = refl
        by false = refl

    freed_owner : (freed_allocation d.cached (freed_named d.cached 0 dest)).owner ≡ dest
    freed_owner = by (is_big_place (place_in (get_or d.cached dest 0)))
      where
        by : (b : Bool) → (freed_allocation d.cached (cond b (of_pages (pages_named d.cached 0 dest)) (of_slot (slot_named d.cached 0 dest)))).owner ≡ dest
        by true = refl
        by false = refl

    elsewhere_freed : (w : ℕ) → IsOwner w → w ≢ dest → IsElsewhere (freed_allocation d.cached named).lane (freed_allocation d.cached named).owner (freed_page named) (freed_pages named) w
    elsewhere_freed w is apart = owner_elsewhere (freed_allocation d.cached named).lane (freed_allocation d.cached named).owner (freed_page named) (freed_pages named) w
        (freed_idle d.cached named freed.may).lane_is (freed_heap d.cached named freed.may).behind_fixed is (λ e. apart (e ∙ freed_owner))

    shows_freed : Shows (freed_allocation d.cached named).lane (freed_allocation d.cached named).owner (freed_page named) (freed_pages named) d.cached (live_blocks rest) 0 rest
    shows_freed = change_settles (freed_allocation d.cached named).lane (freed_allocation d.cached named).owner (freed_page named) (freed_pages named) d.cached (live_blocks d.cached) (pointer_word (freed_allocation d.cached named).block) (live_blocks rest) 0
        (freed_parts d.cached named) d.cached (freed_frees d.cached named freed.may).changes

    none_left : get_or rest dest 0 ≡ 0
    none_left = ap (λ (w : ℕ). get_or rest w 0) (sym freed_owner) ∙ shows_freed.word_is

    turn_freed : IsTurn d.cached rest dest
    turn_freed = record {
      idle = ap (λ (lane : ℕ). get_or rest (lane_op_at lane) 0) (sym freed_lane) ∙ (freed_frees d.cached named freed.may).changes.idle;
      same = λ w is apart. shows_freed.keeps.each w (elsewhere_freed w is apart);
      owns = λ w block is apart differ owns.
          let (mine, owned_block) = used.owned dest dest_is some in
          let begins : (freed_block named).first ≡ mine.first = ap (λ (b : Block). b.first) (freed.block_is mine owned_block) in
          freeing_keeps d.cached named w block used.settled.rules freed.may (elsewhere_freed w is apart)
          (λ e. differ (owns.named ∙ ap pointer_word (e ∙ begins) ∙ sym owned_block.named)) owns;
      dest_owns = λ some_left. absurd (some_left none_left);
      dest_apart = λ w is apart some_there e. some_there (sym e ∙ none_left);
    }

    pub released : (after : Device) → after.cached ≡ rest → ((w : ℕ) → IsClean after w) → IsInUse after new
    released after is clean = record {
      settled = released_settled d index used.settled new 0 dest left freed after is clean;
      idle = ap (λ (words : List ℕ). get_or words (lane_op_at 0) 0) is ∙ turn_freed.idle;
      owned = subst (λ (words : List ℕ). (w : ℕ) → IsOwner w → get_or words w 0 ≢ 0 → (block : Block) × OwnsBlock words w block) (sym is) (turned_owned rest turn_freed);
      apart = subst (λ (words : List ℕ). (v w : ℕ) → IsOwner v → IsOwner w → v ≢ w → get_or words v 0 ≢ 0 → get_or words v 0 ≢ get_or words w 0) (sym is) (turned_apart rest turn_freed);
    }

-- ── at the start ──

-- in a formatted image no owner has a block
module _ (d : Device) (words : List ℕ) (index : HeapIndex) (segments : ℕ) (is : d ≡ at_rest words) (fresh : words ≡ fresh_words segments) (some : 1 ≤ segments) (index_of : IsIndexOf d.cached index) where
  fresh_zero : (w : ℕ) → 514 ≤ w → w < 32768 → get_or d.cached w 0 ≡ 0
  fresh_zero w low high =
      ap (λ (x : Device). get_or x.cached w 0) is
      ∙ ap (λ (xs : List ℕ). get_or xs w 0) fresh
      ∙ get_or-fresh_words segments w (omega (arith, high, some))
      ∙ cond-false (is_reserved_descriptor w) 8 _ (or_from (eqb (w % 32768) 0) (ltb w 4) (ne_eqb (w % 32768) 0 (λ e. omega (arith, e, low, high))) (le-ltb w 4 (omega (arith, low))))
      ∙ cond-false (eqb w 512) _ _ (ne_eqb w 512 (λ e. omega (arith, e, low)))
      ∙ cond-false (eqb w 513) _ _ (ne_eqb w 513 (λ e. omega (arith, e, low)))

  pub fresh_used : IsInUse d index
  fresh_used = record {
    settled = fresh_settled d words index segments is fresh index_of;
    idle = fresh_zero 576 (omega arith) (omega arith);
    owned = λ w w_is taken. absurd (taken (fresh_zero w (omega (arith, w_is.0)) (omega (arith, w_is.1))));
    apart = λ v w v_is w_is differ taken. absurd (taken (fresh_zero v (omega (arith, v_is.0)) (omega (arith, v_is.1))));
  }
