-- The extension of an object as a whole: the segment allocated or owned already, and then made ready.
use Rattle.std.proofs.Common.{◌≡◌, ◌≢◌, ◌⊎◌, inl, inr, ⊎_elim, eqb, ℕ, suc, ◌+◌, ◌%◌, ◌<◌, ◌≤◌, List, [], ◌∷◌, ◌++◌, length, get_or, refl, sym, ◌∙◌, ap, subst, arith}
use Rattle.std.specs.Prelude.{Contains}
use Rattle.std.proofs.lemmas.Bool.{cases_lt, or_left, or_right, eq-eqb}
use Rattle.image_layout.specs.Fixed.{ready_at, lane_op_at}
use Rattle.image_layout.specs.Pointer.{pointer_word}
use Rattle.image_layout.specs.Places.{is_pointer_to}
use Rattle.pm_model.specs.Plans.{Part, EachCut, IsPlan, finished}
use Rattle.image_layout.specs.Blocks.{Block, live_blocks}
use Rattle.heap_palloc.specs.Index.{HeapIndex, IsIndexOf}
use Rattle.txn_object.specs.Calls.{MayPlanExtension}
use Rattle.image_layout.specs.Objects.{ready_count, segment_pointer_at, ready_segments, segment_of, pointer_after}
use Rattle.pm_model.proofs.Cuts.{store_part, finished-append, plan-append, each_cut-append, each_cut-map}
use Rattle.heap_palloc.specs.Lane.{mended_lane}
use Rattle.heap_palloc.specs.Shown.{GainsOne}
use Rattle.heap_palloc.specs.Law.{Shows, ChangesShown}
use Rattle.heap_palloc.specs.Choice.{Choice, in_page, on_new_page, in_run, choice_parts, choice_block, choice_page, choice_pages, MayMake}
use Rattle.heap_palloc.proofs.Stages.{pointer-some}
use Rattle.heap_palloc.proofs.Changes.{change_settles}
use Rattle.heap_palloc.proofs.Choices.{choice_plan, choice_allocates}
use Rattle.heap_palloc.proofs.RulesKept.{choice_rules}
use Rattle.heap_palloc.proofs.SameHeaps.{rules_same}
use Rattle.heap_palloc.proofs.Settled.{gained_live}
use Rattle.heap_palloc.proofs.Owners.{more_live}
use Rattle.heap_palloc.specs.Calls.{KeepsHeapRules}
use Rattle.std.proofs.lemmas.List.{length-append, get_or_append_left}
use Rattle.std.proofs.Math.Seq.{get_or-append_seam}
use Rattle.std.proofs.lemmas.List.FromFn.{length-map-range_with_len, get_or-map-range_with_len}
use Rattle.txn_object.specs.Extension.{Source, owned, allocated, Extension, new_segment, readying_parts, extension_parts, segment_block, HasSegments, MayExtend}
use Rattle.txn_object.specs.Shown.{IsElsewhereOf, HasObject, IsUnextended, IsExtended}
use Rattle.txn_object.proofs.Taken.{StandsOn, taken, source_stands}
use Rattle.txn_object.proofs.Readying.{zero_is_part, segment_in, segment_behind, same_heap, readied, readied_is, readied_same}
use Rattle.txn_object.proofs.Extending.{AtSegment, segments_differ, choice_changes, choice_unowned, unextended, new_pointer_sound, ready_elsewhere, blocks_end, op_here, is_extended, mended_ready, readying_cuts}

-- the ready segments of an object share no word
pub apart_from_blocks : (words : List ℕ) (object : ℕ) → object < 16 → 2048 ≤ length words → length words % 32768 ≡ 0 → HasSegments words object → HasObject words object
apart_from_blocks words object number size whole has = record {
  number = number;
  size = size;
  whole = whole;
  rule = has.rule;
  behind = λ k lt. let is = taken words has.rules (segment_of words object k) (has.live k lt) in let at = is.stands.first in let fixed = is.stands.page_is.behind_fixed in omega (arith, at, fixed);
  apart = λ k other lt below.
      let one = taken words has.rules (segment_of words object k) (has.live k (omega (arith, lt, below))) in
      let two = taken words has.rules (segment_of words object other) (has.live other below) in
      let a = one.stands.first in let b = two.stands.first in let differ = segments_differ words object has.rule k other lt below in
      ⊎_elim (λ before. inl (omega (arith, before, a, b))) (λ after. inr (omega (arith, after, a, b, differ))) (cases_lt (segment_of words object k) (segment_of words object other));
}

choice_gains : (base : List ℕ) (choice : Choice) → MayMake base choice → GainsOne (live_blocks base) (choice_block choice) (live_blocks (finished (choice_parts base choice) base))
choice_gains base (in_page s) may = (choice_allocates base (in_page s) may).gains
choice_gains base (on_new_page s) may = (choice_allocates base (on_new_page s) may).gains
choice_gains base (in_run r) may = (choice_allocates base (in_run r) may).gains

block_is : (choice : Choice) → (choice_block choice).words ≡ 256 → choice_block choice ≡ segment_block (choice_block choice).first
block_is choice size = ap (λ (n : ℕ). the_block (choice_block choice).first n) size
  where
    the_block : ℕ → ℕ → Block
    the_block first count = record { first = first; words = count }

abbrev pub Mended : List ℕ → Extension → List ℕ → Type 0
Mended base e image = (IsUnextended base e (mended_lane e.object image)) ⊎ (IsExtended base e (mended_lane e.object image))

-- what is to be shown of an extension
pub record IsShown (base : List ℕ) (e : Extension) : Type 0 where
  pub plan : IsPlan (length base) (extension_parts base e)
  pub cuts : EachCut (Mended base e) (extension_parts base e) base
  pub ends : IsExtended base e (finished (extension_parts base e) base)
  pub mended : mended_lane e.object (finished (extension_parts base e) base) ≡ finished (extension_parts base e) base
  pub again : HasSegments (finished (extension_parts base e) base) e.object
  pub goes_on : (index : HeapIndex) → IsIndexOf (finished (extension_parts base e) base) index → MayPlanExtension (finished (extension_parts base e) base) index e.object
  pub allocates : get_or base (pointer_after base e.object) 0 ≡ 0 → GainsOne (live_blocks base) (segment_block (new_segment e)) (live_blocks (finished (extension_parts base e) base))
  pub live : Contains (live_blocks (finished (extension_parts base e) base)) (segment_block (new_segment e))
  pub owned_stays : get_or base (pointer_after base e.object) 0 ≢ 0 → live_blocks (finished (extension_parts base e) base) ≡ live_blocks base

module _ (base : List ℕ) (e : Extension) (may : MayExtend base e) (page : ℕ) (stands : StandsOn base (new_segment e) page) where
  abbrev readying : List Part
  readying = readying_parts e.object (ready_count base e.object) (new_segment e)

  readying_plan : IsPlan (length base) (readying_parts e.object (ready_count base e.object) (new_segment e))
  readying_plan =
      let within = segment_in e.object (new_segment e) page may.number base stands in
      let far = segment_behind e.object (new_segment e) page may.number base stands in
      let number = may.number in
      (zero_is_part (length base) (new_segment e) within, (store_part (length base) (ready_at e.object) (ready_count base e.object + 1) (omega (arith, within, far, number)), tt))

  -- from the words in which the object owns the segment
  module _ (now : List ℕ) (at : AtSegment base e may page stands now) where
    end_is : IsExtended base e (finished (extension_parts base e) base)
    end_is = subst (IsExtended base e) (sym at.ends) (is_extended base e may page stands now at)

    end_mended : mended_lane e.object (finished (extension_parts base e) base) ≡ finished (extension_parts base e) base
    end_mended = subst (λ (words : List ℕ). mended_lane e.object words ≡ words) (sym at.ends) (mended_ready base e may page stands now at)

    count : ready_count (finished (extension_parts base e) base) e.object ≡ ready_count base e.object + 1
    count =
        let sizes = ap (λ (l : List ℕ). length l) end_is.segments in
        let one = length-map-range_with_len (segment_of (finished (extension_parts base e) base) e.object) 0 (ready_count (finished (extension_parts base e) base) e.object) in
        let two = length-map-range_with_len (segment_of base e.object) 0 (ready_count base e.object) in
        let both = length-append (ready_segments base e.object) (new_segment e ∷ []) in
        omega (arith, sizes, one, two, both)

    nth_is : (k : ℕ) → k < ready_count (finished (extension_parts base e) base) e.object → segment_of (finished (extension_parts base e) base) e.object k ≡ get_or (ready_segments base e.object ++ new_segment e ∷ []) k 0
    nth_is k lt =
        sym (get_or-map-range_with_len (segment_of (finished (extension_parts base e) base) e.object) 0 (ready_count (finished (extension_parts base e) base) e.object) k k 0 lt (omega arith))
        ∙ ap (λ (l : List ℕ). get_or l k 0) end_is.segments

    at_segment : Contains (live_blocks now) (segment_block (new_segment e)) → ((block : Block) → Contains (live_blocks base) block → Contains (live_blocks now) block) → (k : ℕ) → k < ready_count (finished (extension_parts base e) base) e.object → Contains (live_blocks now) (segment_block (segment_of (finished (extension_parts base e) base) e.object k))
    at_segment new old k lt =
        let two = length-map-range_with_len (segment_of base e.object) 0 (ready_count base e.object) in
        ⊎_elim
        (λ (before : k < ready_count base e.object).
        let is = nth_is k lt ∙ get_or_append_left (ready_segments base e.object) (new_segment e ∷ []) 0 k (omega (arith, before, two)) ∙ get_or-map-range_with_len (segment_of base e.object) 0 (ready_count base e.object) k k 0 before (omega arith) in
        subst (λ (s : ℕ). Contains (live_blocks now) (segment_block s)) (sym is) (old (segment_block (segment_of base e.object k)) (may.segments.live k before)))
        (λ last.
        let here : k ≡ length (ready_segments base e.object) = omega (arith, lt, count, last, two) in
        let is = nth_is k lt ∙ ap (λ (m : ℕ). get_or (ready_segments base e.object ++ new_segment e ∷ []) m 0) here ∙ get_or-append_seam (ready_segments base e.object) (new_segment e) [] 0 in
        subst (λ (s : ℕ). Contains (live_blocks now) (segment_block s)) (sym is) new)
        (cases_lt k (ready_count base e.object))

    end_again : KeepsHeapRules now → Contains (live_blocks now) (segment_block (new_segment e)) → ((block : Block) → Contains (live_blocks base) block → Contains (live_blocks now) block) → HasSegments (finished (extension_parts base e) base) e.object
    end_again rules new old =
        let words = finished (extension_parts base e) base in
        let n = ready_count base e.object in
        record {
          rules = subst KeepsHeapRules (sym at.ends) (rules_same now (readied e.object (ready_count base e.object) (new_segment e) now)
              (same_heap e.object (new_segment e) page may.number base stands now (readied e.object (ready_count base e.object) (new_segment e) now) (readied_same e.object (ready_count base e.object) (new_segment e) now)) rules);
          rule = end_is.keeps.rule;
          live = λ k lt. subst (λ (blocks : List Block). Contains blocks (segment_block (segment_of (finished (extension_parts base e) base) e.object k))) (sym (blocks_end base e may page stands now at)) (at_segment new old k lt);
        }

    -- and the next call may be made
    next_null : get_or (finished (extension_parts base e) base) (pointer_after (finished (extension_parts base e) base) e.object) 0 ≡ 0
    next_null =
        let words = finished (extension_parts base e) base in
        let two = length-map-range_with_len (segment_of base e.object) 0 (ready_count base e.object) in
        let next : ready_count (finished (extension_parts base e) base) e.object ≡ suc (ready_count base e.object) = omega (arith, count) in
        let here : ready_count base e.object ≡ length (ready_segments base e.object) = omega (arith, two) in
        let last : segment_of (finished (extension_parts base e) base) e.object (ready_count base e.object) ≡ new_segment e =
        nth_is (ready_count base e.object) (omega (arith, next)) ∙ ap (λ (m : ℕ). get_or (ready_segments base e.object ++ new_segment e ∷ []) m 0) here ∙ get_or-append_seam (ready_segments base e.object) (new_segment e) [] 0 in
        ap (λ (m : ℕ). get_or (finished (extension_parts base e) base) (segment_pointer_at (finished (extension_parts base e) base) e.object m) 0) next
        ∙ ap (λ (w : ℕ). get_or (finished (extension_parts base e) base) w 0) last
        ∙ end_is.new_words (new_segment e) (omega arith) (omega arith)

    end_idle : get_or (finished (extension_parts base e) base) (lane_op_at e.object) 0 ≡ 0
    end_idle = ap (λ (l : List ℕ). get_or l (lane_op_at e.object) 0) at.ends
        ∙ op_here base e may page stands now at (readied e.object (ready_count base e.object) (new_segment e) now) (readied_same e.object (ready_count base e.object) (new_segment e) now)

    end_goes_on : HasSegments (finished (extension_parts base e) base) e.object → (index : HeapIndex) → IsIndexOf (finished (extension_parts base e) base) index → MayPlanExtension (finished (extension_parts base e) base) index e.object
    end_goes_on again index is = record { segments = again; index_of = is; idle = end_idle; owned = λ lt some. absurd (some next_null) }

-- ── the object owns the segment ──

owned_shown : (base : List ℕ) (object segment : ℕ) → MayExtend base (record { object = object; source = owned segment }) → IsShown base (record { object = object; source = owned segment })
owned_shown base object segment may =
    let e : Extension = record { object = object; source = owned segment } in
    let (page, stands) = source_stands base object may.segments.rules (owned segment) may.source in
    let at : AtSegment base (record { object = object; source = owned segment }) may page stands base = record {
      size = refl;
      op = may.idle;
      count_is = refl;
      named = may.source.0;
      kept = λ w away. refl;
      ends = readied_is object (ready_count base object) segment base;
    } in
    let again : HasSegments (finished (extension_parts base (record { object = object; source = owned segment })) base) object =
    end_again base (record { object = object; source = owned segment }) may page stands base at may.segments.rules may.source.1 (λ block within. within) in
    record {
      plan = readying_plan base (record { object = object; source = owned segment }) may page stands;
      cuts = readying_cuts base (record { object = object; source = owned segment }) may page stands base at;
      ends = end_is base (record { object = object; source = owned segment }) may page stands base at;
      mended = end_mended base (record { object = object; source = owned segment }) may page stands base at;
      again = again;
      goes_on = end_goes_on base (record { object = object; source = owned segment }) may page stands base at again;
      allocates = λ none. absurd (pointer-some segment (sym may.source.0 ∙ none));
      live = subst (λ (blocks : List Block). Contains blocks (segment_block segment)) (sym (blocks_end base (record { object = object; source = owned segment }) may page stands base at)) may.source.1;
      owned_stays = λ some. blocks_end base (record { object = object; source = owned segment }) may page stands base at;
    }

-- ── the segment is allocated ──

module _ (base : List ℕ) (object : ℕ) (choice : Choice) (may : MayExtend base (record { object = object; source = allocated choice })) (page : ℕ) (stands : StandsOn base (choice_block choice).first page) where
  abbrev e : Extension
  e = record { object = object; source = allocated choice }

  abbrev now : List ℕ
  now = finished (choice_parts base choice) base

  pub changes : ChangesShown object (pointer_after base object) (choice_page choice) (choice_pages choice) base (live_blocks base) 0 (live_blocks (finished (choice_parts base choice) base)) (pointer_word (choice_block choice).first) (choice_parts base choice) base
  changes = choice_changes base object (pointer_after base object) choice may.source.0 may.source.1

  pub shown : Shows object (pointer_after base object) (choice_page choice) (choice_pages choice) base (live_blocks (finished (choice_parts base choice) base)) (pointer_word (choice_block choice).first) (finished (choice_parts base choice) base)
  shown = change_settles object (pointer_after base object) (choice_page choice) (choice_pages choice) base (live_blocks base) 0 (live_blocks (finished (choice_parts base choice) base)) (pointer_word (choice_block choice).first) (choice_parts base choice) base changes

  pub count_away : IsElsewhereOf base object (allocated choice) (ready_at object)
  count_away = ready_elsewhere base (record { object = object; source = allocated choice }) may page stands

  pub at : AtSegment base (record { object = object; source = allocated choice }) may page stands (finished (choice_parts base choice) base)
  at = record {
    size = shown.keeps.size;
    op = changes.idle;
    count_is = shown.keeps.each (ready_at object) count_away;
    named = shown.word_is;
    kept = λ w away. shown.keeps.each w away;
    ends = finished-append (choice_parts base choice) (readying_parts object (ready_count base object) (choice_block choice).first) base ∙ readied_is object (ready_count base object) (choice_block choice).first (finished (choice_parts base choice) base);
  }

  before_is : (image : List ℕ) → Shows object (pointer_after base object) (choice_page choice) (choice_pages choice) base (live_blocks base) 0 (mended_lane object image) → IsUnextended base (record { object = object; source = allocated choice }) (mended_lane object image)
  before_is image shows =
      unextended base (record { object = object; source = allocated choice }) may page stands (mended_lane object image) shows.keeps.size (λ w away out other. shows.keeps.each w away) (shows.keeps.each (ready_at object) count_away)
      (or_left (eqb (get_or (mended_lane object image) (pointer_after base object) 0) 0) (is_pointer_to (mended_lane object image) 256 (get_or (mended_lane object image) (pointer_after base object) 0)) (eq-eqb (get_or (mended_lane object image) (pointer_after base object) 0) 0 shows.word_is))
      (inl (record { blocks_are = shows.blocks_are; named = shows.word_is ∙ sym (choice_unowned base object (pointer_after base object) choice may.source.0 may.source.1) }))

  after_is : (image : List ℕ) → Shows object (pointer_after base object) (choice_page choice) (choice_pages choice) base (live_blocks (finished (choice_parts base choice) base)) (pointer_word (choice_block choice).first) (mended_lane object image)
      → IsUnextended base (record { object = object; source = allocated choice }) (mended_lane object image)
  after_is image shows =
      unextended base (record { object = object; source = allocated choice }) may page stands (mended_lane object image) shows.keeps.size (λ w away out other. shows.keeps.each w away) (shows.keeps.each (ready_at object) count_away)
      (or_right (eqb (get_or (mended_lane object image) (pointer_after base object) 0) 0) (is_pointer_to (mended_lane object image) 256 (get_or (mended_lane object image) (pointer_after base object) 0))
      (ap (is_pointer_to (mended_lane object image) 256) shows.word_is ∙ new_pointer_sound base (record { object = object; source = allocated choice }) may page stands (mended_lane object image) shows.keeps.size))
      (inr (record { blocks_are = shows.blocks_are ∙ sym (blocks_end base (record { object = object; source = allocated choice }) may page stands (finished (choice_parts base choice) base) at); named = shows.word_is }))

  pub gains : GainsOne (live_blocks base) (segment_block (choice_block choice).first) (live_blocks (finished (choice_parts base choice) base))
  gains = subst (λ (block : Block). GainsOne (live_blocks base) block (live_blocks (finished (choice_parts base choice) base))) (block_is choice may.source.2) (choice_gains base choice may.source.0)

  again_here : HasSegments (finished (extension_parts base (record { object = object; source = allocated choice })) base) object
  again_here = end_again base (record { object = object; source = allocated choice }) may page stands (finished (choice_parts base choice) base) at (choice_rules base choice may.segments.rules may.source.0)
      (gained_live (live_blocks base) (live_blocks (finished (choice_parts base choice) base)) (segment_block (choice_block choice).first) gains)
      (λ block within. more_live (live_blocks base) (live_blocks (finished (choice_parts base choice) base)) (segment_block (choice_block choice).first) block gains within)

  pub allocated_shown : IsShown base (record { object = object; source = allocated choice })
  allocated_shown = record {
    plan = plan-append (length base) (choice_parts base choice) (readying_parts object (ready_count base object) (choice_block choice).first) (choice_plan base choice may.source.0)
        (readying_plan base (record { object = object; source = allocated choice }) may page stands);
    cuts = each_cut-append (Mended base (record { object = object; source = allocated choice })) (choice_parts base choice) (readying_parts object (ready_count base object) (choice_block choice).first) base
        (each_cut-map _ (Mended base (record { object = object; source = allocated choice })) (choice_parts base choice) base (λ image. ⊎_elim (λ before. inl (before_is image before)) (λ after. inl (after_is image after))) changes.cuts)
        (readying_cuts base (record { object = object; source = allocated choice }) may page stands (finished (choice_parts base choice) base) at);
    ends = end_is base (record { object = object; source = allocated choice }) may page stands (finished (choice_parts base choice) base) at;
    mended = end_mended base (record { object = object; source = allocated choice }) may page stands (finished (choice_parts base choice) base) at;
    again = again_here;
    goes_on = end_goes_on base (record { object = object; source = allocated choice }) may page stands (finished (choice_parts base choice) base) at again_here;
    allocates = λ none. subst (λ (blocks : List Block). GainsOne (live_blocks base) (segment_block (choice_block choice).first) blocks)
        (sym (blocks_end base (record { object = object; source = allocated choice }) may page stands (finished (choice_parts base choice) base) at)) gains;
    live = subst (λ (blocks : List Block). Contains blocks (segment_block (choice_block choice).first))
        (sym (blocks_end base (record { object = object; source = allocated choice }) may page stands (finished (choice_parts base choice) base) at))
        (gained_live (live_blocks base) (live_blocks (finished (choice_parts base choice) base)) (segment_block (choice_block choice).first) gains);
    owned_stays = λ some. absurd (some (choice_unowned base object (pointer_after base object) choice may.source.0 may.source.1));
  }

-- ── either way ──

by_source : (base : List ℕ) (object : ℕ) (source : Source) → MayExtend base (record { object = object; source = source }) → IsShown base (record { object = object; source = source })
by_source base object (owned segment) may = owned_shown base object segment may
by_source base object (allocated choice) may =
    let (page, stands) = source_stands base object may.segments.rules (allocated choice) may.source in allocated_shown base object choice may page stands

pub extension_shown : (base : List ℕ) (e : Extension) → MayExtend base e → IsShown base e
extension_shown base e may = by_source base e.object e.source may
