-- The parts that make a segment ready: which words they leave as they are.
use Rattle.std.proofs.Common.{◌≡◌, ◌≢◌, ◌⊎◌, inl, inr, ⊎_elim, ℕ, zero, suc, ◌+◌, ◌%◌, ◌<◌, ◌≤◌, true, false, eqb, List, [], ◌++◌, length, get_or, set, refl, sym, ◌∙◌, ap, subst, arith}
use Rattle.std.specs.List.{range_with_len}
use Rattle.std.proofs.lemmas.Bool.{cases_eq, cases_lt, eq-eqb, ne_eqb, or_left, or_right, or_from}
use Rattle.std.proofs.lemmas.List.{get_or-set_same, get_or-set_other, length-set}
use Rattle.std.proofs.lemmas.Grind.{flat_map-append}
use Rattle.pm_model.specs.declared.action.Action.{Action}
use Rattle.image_layout.specs.Fixed.{descriptor_at, ready_at}
use Rattle.image_layout.specs.Places.{page_at}
use Rattle.pm_model.specs.Plans.{footprint, words_after, finished, plan_of, part_actions, IsPart}
use Rattle.image_layout.specs.Objects.{ready_count}
use Rattle.pm_model.proofs.Alone.{length-words_after}
use Rattle.pm_model.proofs.PlanLaw.{words_after-kept}
use Rattle.pm_model.proofs.Cuts.{is_among, footprint-stores, AreApartBelow, stores_part, stores-written, finished-append}
use Rattle.heap_palloc.specs.Index.{HeapIndex, IsIndexOf}
use Rattle.heap_palloc.proofs.LiveBlocks.{SameHeap}
use Rattle.heap_palloc.proofs.SameHeaps.{index_kept}
use Rattle.txn_object.specs.Extension.{Extension, new_segment, source_parts, segment_from, zero_part, readying_parts, extension_parts, MayExtend}
use Rattle.txn_object.specs.Calls.{IsExtensionPlanned, IsSegmentPlanned}
use Rattle.txn_object.specs.Shown.{IsOutside}
use Rattle.txn_object.proofs.Taken.{StandsOn, source_stands}

-- ── places in a row ──

among-in : (at count w : ℕ) → at ≤ w → w < at + count → is_among (range_with_len at count) w ≡ true
among-in at zero w le lt = absurd (omega (arith, le, lt))
among-in at (suc count) w le lt = ⊎_elim
    (λ (here : w ≡ at). or_left (eqb w at) (is_among (range_with_len (at + 1) count) w) (eq-eqb w at here))
    (λ apart. or_right (eqb w at) (is_among (range_with_len (at + 1) count) w) (among-in (at + 1) count w (omega (arith, le, apart)) (omega (arith, lt))))
    (cases_eq w at)

among-out : (at count w : ℕ) → (w < at) ⊎ (at + count ≤ w) → is_among (range_with_len at count) w ≡ false
among-out at zero w out = refl
among-out at (suc count) w out =
    or_from (eqb w at) (is_among (range_with_len (at + 1) count) w)
    (ne_eqb w at (λ e. ⊎_elim (λ before. omega (arith, before, e)) (λ behind. omega (arith, behind, e)) out))
    (among-out (at + 1) count w (⊎_elim (λ before. inl (omega (arith, before))) (λ behind. inr (omega (arith, behind))) out))

apart_below : (size at count : ℕ) → at + count ≤ size → AreApartBelow size (range_with_len at count)
apart_below size at zero le = tt
apart_below size at (suc count) le = (omega (arith, le), among-out (at + 1) count at (inl (omega arith)), apart_below size (at + 1) count (omega (arith, le)))

-- ── 0 over a segment ──

pub zero-out : (segment w : ℕ) → IsOutside segment w → footprint (zero_part segment) w ≡ false
unfolding zero_part
zero-out segment w out = footprint-stores 0 (range_with_len segment 256) w ∙ among-out segment 256 w out

pub zero-in : (segment w : ℕ) (words : List ℕ) → segment ≤ w → w < segment + 256 → w < length words → get_or (words_after (zero_part segment) words) w 0 ≡ 0
unfolding zero_part
zero-in segment w words le lt there = stores-written 0 (range_with_len segment 256) words w there (among-in segment 256 w le lt)

pub zero_is_part : (size segment : ℕ) → segment + 256 ≤ size → IsPart size (zero_part segment)
unfolding zero_part
zero_is_part size segment le = stores_part size 0 (range_with_len segment 256) (apart_below size segment 256 le)

pub out_or_in : (segment w : ℕ) → IsOutside segment w ⊎ ((segment ≤ w) × (w < segment + 256))
out_or_in segment w = ⊎_elim (λ before. inl (inl before)) (λ from. ⊎_elim (λ to. inr (from, to)) (λ behind. inl (inr behind)) (cases_lt w (segment + 256))) (cases_lt w segment)

-- ── and the count ──

-- the same words, but for those of a segment and the count of the ready ones
pub record SameButSegment (object segment : ℕ) (old new : List ℕ) : Type 0 where
  pub size : length new ≡ length old
  pub each : (w : ℕ) → IsOutside segment w → w ≢ ready_at object → get_or new w 0 ≡ get_or old w 0

module _ (object segment page : ℕ) (number : object < 16) (words : List ℕ) (stands : StandsOn words segment page) where
  pub descriptor_outside : (p : ℕ) → IsOutside segment (descriptor_at p)
  descriptor_outside p = ⊎_elim (λ out. out) (λ (from, to). let header = stands.page_is.behind_header in let first = stands.first in absurd (omega (arith, from, to, header, first))) (out_or_in segment (descriptor_at p))

  pub bitmap_outside : (p : ℕ) → IsOutside segment (page_at p)
  bitmap_outside p = ⊎_elim (λ out. out) (λ (from, to). let first = stands.first in absurd (omega (arith, from, to, first))) (out_or_in segment (page_at p))

  -- the heap reads none of them
  pub same_heap : (old new : List ℕ) → SameButSegment object segment old new → SameHeap old new
  same_heap old new same = record {
    size = same.size;
    pages = λ p. record {
      descriptor = same.each (descriptor_at p) (descriptor_outside p) (λ e. omega (arith, e, number));
      bitmap = λ small. same.each (page_at p) (bitmap_outside p) (λ e. omega (arith, e));
    };
  }

  pub segment_in : segment + 256 ≤ length words
  segment_in = let within = stands.page_is.in_image in let first = stands.first in omega (arith, within, first)

  pub segment_behind : 2048 ≤ segment
  segment_behind = let fixed = stands.page_is.behind_fixed in let first = stands.first in omega (arith, fixed, first)

pub readied : (object count segment : ℕ) → List ℕ → List ℕ
readied object count segment words = set (words_after (zero_part segment) words) (ready_at object) (count + 1)

pub readied_is : (object count segment : ℕ) (words : List ℕ) → finished (readying_parts object count segment) words ≡ readied object count segment words
unfolding readied
readied_is object count segment words = refl

pub readied_same : (object count segment : ℕ) (words : List ℕ) → SameButSegment object segment words (readied object count segment words)
unfolding readied
readied_same object count segment words = record {
  size = length-set (words_after (zero_part segment) words) (ready_at object) (count + 1) ∙ length-words_after (zero_part segment) words;
  each = λ w out apart. get_or-set_other (words_after (zero_part segment) words) (ready_at object) w (count + 1) 0 apart ∙ words_after-kept (zero_part segment) words w (zero-out segment w out);
}

pub readied_is_set : (object count segment : ℕ) (words : List ℕ) → set (words_after (zero_part segment) words) (ready_at object) (count + 1) ≡ readied object count segment words
unfolding readied
readied_is_set object count segment words = refl

pub readied_count : (object count segment : ℕ) (words : List ℕ) → ready_at object < length words → get_or (readied object count segment words) (ready_at object) 0 ≡ count + 1
unfolding readied
readied_count object count segment words there =
    get_or-set_same (words_after (zero_part segment) words) (ready_at object) (count + 1) 0 (let size = length-words_after (zero_part segment) words in omega (arith, there, size))

pub readied_zero : (object count segment w : ℕ) (words : List ℕ) → segment ≤ w → w < segment + 256 → ready_at object < segment → segment + 256 ≤ length words → get_or (readied object count segment words) w 0 ≡ 0
unfolding readied
readied_zero object count segment w words from to far there =
    get_or-set_other (words_after (zero_part segment) words) (ready_at object) w (count + 1) 0 (λ e. omega (arith, e, far, from)) ∙ zero-in segment w words from to (omega (arith, to, there))

-- ── the index of the heap ──

pub extension_index : (words : List ℕ) (e : Extension) (index : HeapIndex) → MayExtend words e → IsIndexOf (finished (source_parts words e.source) words) index → IsIndexOf (finished (extension_parts words e) words) index
extension_index words e index may is =
    let now = finished (source_parts words e.source) words in
    let (page, stands) = source_stands words e.object may.segments.rules e.source may.source in
    let end : finished (extension_parts words e) words ≡ readied e.object (ready_count words e.object) (new_segment e) (finished (source_parts words e.source) words) =
    finished-append (source_parts words e.source) (readying_parts e.object (ready_count words e.object) (new_segment e)) words ∙ readied_is e.object (ready_count words e.object) (new_segment e) (finished (source_parts words e.source) words) in
    subst (λ (l : List ℕ). IsIndexOf l index) (sym end)
    (index_kept (finished (source_parts words e.source) words) (readied e.object (ready_count words e.object) (new_segment e) (finished (source_parts words e.source) words)) index
    (same_heap e.object (new_segment e) page may.number words stands (finished (source_parts words e.source) words) (readied e.object (ready_count words e.object) (new_segment e) (finished (source_parts words e.source) words))
    (readied_same e.object (ready_count words e.object) (new_segment e) (finished (source_parts words e.source) words))) is)

-- ── the whole plan ──

pub planned_segment : (words : List ℕ) (old new : HeapIndex) (object segment : ℕ) (before after : List Action) → length words ≤ 4194304 → IsSegmentPlanned words old new object segment before after → (segment % 8 ≡ 0) × (segment + 256 ≤ 4194304)
planned_segment words old new object segment before after most planned =
    let (page, stands) = source_stands words object planned.may.segments.rules planned.source planned.may.source in
    let within = stands.page_is.in_image in let first = stands.first in let from = planned.from in
    (omega (arith, first, from), omega (arith, first, from, within, most))

pub extended_planned : (words : List ℕ) (old new : HeapIndex) (object segment count : ℕ) (before after plan : List Action) → before ≡ [] → count ≡ ready_count words object → IsSegmentPlanned words old new object segment before after
    → plan ≡ after ++ plan_of (readying_parts object count segment) → IsExtensionPlanned words old new object plan
extended_planned words old new object segment count before after plan none counted chunk is = record {
  source = chunk.source;
  may = chunk.may;
  plan_is = is ∙ ap (λ (n : ℕ). after ++ plan_of (readying_parts object n segment)) counted ∙ ap (λ (s : ℕ). after ++ plan_of (readying_parts object (ready_count words object) s)) (sym chunk.from)
      ∙ ap (λ (l : List Action). l ++ plan_of (readying_parts object (ready_count words object) (segment_from chunk.source))) (chunk.plan_is ∙ ap (λ (l : List Action). l ++ plan_of (source_parts words chunk.source)) none)
      ∙ sym (flat_map-append part_actions (source_parts words chunk.source) (readying_parts object (ready_count words object) (segment_from chunk.source)));
  chosen = chunk.chosen;
  kept = chunk.kept;
  index_of = extension_index words (record { object = object; source = chunk.source }) new chunk.may chunk.index_of;
}
