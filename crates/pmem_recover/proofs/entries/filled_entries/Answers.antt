use Rattle.std.proofs.Common.{◌≡◌, ℕ, List, add-one, get_or, sym, ◌∙◌, ap, arith}
use Rattle.std.specs.Prelude.{filter}
use Rattle.image_layout.specs.Fixed.{first_segment_at, ready_at}
use Rattle.image_layout.specs.Objects.{ready_count, segment_of, segment_pointer_at}
use Rattle.image_layout.specs.Places.{place_in}
use Rattle.pmem_recover.specs.Filled.{is_filled, places_of}
use Rattle.pmem_recover.proofs.Gathered.{ready-few, segment-pointer, segment-within, segments-none, segments-next, entries-all}
use Rattle.pmem_recover.proofs.entries.filled_entries.Goals as goal

ready_now : (words : List ℕ) (object ready at : ℕ) → ready ≡ get_or words at 0 → at ≡ ready_at object → ready ≡ ready_count words object
ready_now words object ready at is here = is ∙ ap (λ (k : ℕ). get_or words k 0) here

segment_now : (words : List ℕ) (object n place at : ℕ) → place ≡ place_in (get_or words at 0) → at ≡ segment_pointer_at words object n → place ≡ segment_of words object n
segment_now words object n place at is here = is ∙ ap (λ (k : ℕ). place_in (get_or words k 0)) here

pub loop-init : goal.loop-init
loop-init g c = record {
  pointer = c.segment_pointer-pointer.ensures;
  within = let at : c.segment_pointer-pointer.result.0 ≡ first_segment_at c.args.object = c.segment_pointer-pointer.ensures in
      omega (arith, at, c.requires.object, (g.met.M.Memory.whole c.args.mem.now).one_or_more);
  places = segments-none (is_filled (g.M.Memory.device c.args.mem.now).cached) (g.M.Memory.device c.args.mem.now).cached c.args.object (places_of c.new-filled.result.items) (places_of c.push_own.new.filled.items)
      (ap places_of c.new-filled.ensures.items) c.in_ok-push_own.ensures.places;
  few = omega (arith, c.in_ok-push_own.ensures.few, c.new-filled.ensures.len);
}

pub named_place-segment-requires-clause-pointer : goal.named_place-segment-requires-clause-pointer
named_place-segment-requires-clause-pointer g c = segment-pointer (g.M.Memory.device c.args.mem.now).cached c.requires.rules c.args.object c.requires.object c.loop.counter c.loop.pointer.0
    (omega (arith, ready_now (g.M.Memory.device c.args.mem.now).cached c.args.object c.load-end.result c.ready_segments.result.0 c.load-end.ensures c.ready_segments.ensures, c.loop-test.true)) c.loop.invariant.pointer

pub push_segment-requires : goal.push_segment-requires
push_segment-requires g c = segment-within (g.M.Memory.device c.args.mem.now).cached c.requires.rules c.args.object c.requires.object c.loop.counter c.named_place-segment.result.0
    (g.met.M.Memory.whole c.args.mem.now).segments (omega (arith, ready_now (g.M.Memory.device c.args.mem.now).cached c.args.object c.load-end.result c.ready_segments.result.0 c.load-end.ensures c.ready_segments.ensures, c.loop-test.true))
    (segment_now (g.M.Memory.device c.args.mem.now).cached c.args.object c.loop.counter c.named_place-segment.result.0 c.loop.pointer.0 c.named_place-segment.ensures.place c.loop.invariant.pointer)

pub loop-preserved : goal.loop-preserved
loop-preserved g c =
    let words = (g.M.Memory.device c.args.mem.now).cached in
    let segment = segment_now (g.M.Memory.device c.args.mem.now).cached c.args.object c.loop.counter c.named_place-segment.result.0 c.loop.pointer.0 c.named_place-segment.ensures.place c.loop.invariant.pointer in
    record {
      pointer = segment ∙ ap (segment_pointer_at words c.args.object) (sym (add-one c.loop.counter));
      within = c.named_place-segment.ensures.in_image;
      places = segments-next (is_filled words) words c.args.object c.loop.counter c.named_place-segment.result.0 (places_of c.loop.filled.items) (places_of c.push_segment.new.filled.items)
          segment c.loop.invariant.places c.in_ok-push_segment.ensures.places;
      few = omega (arith, c.in_ok-push_segment.ensures.few, c.loop.invariant.few);
    }

pub returns-clause-places : goal.returns-clause-places
returns-clause-places g c =
    let words = (g.M.Memory.device c.args.mem.now).cached in
    let ready = ready_now words c.args.object c.load-end.result c.ready_segments.result.0 c.load-end.ensures c.ready_segments.ensures in
    c.loop.invariant.places ∙ ap (filter (is_filled words)) (entries-all words c.args.object c.loop.counter (omega (arith, ready, c.loop-test.false, c.loop.auto.counter-end)))

pub returns-clause-few : goal.returns-clause-few
returns-clause-few g c =
    let words = (g.M.Memory.device c.args.mem.now).cached in
    let ready = ready_now words c.args.object c.load-end.result c.ready_segments.result.0 c.load-end.ensures c.ready_segments.ensures in
    omega (arith, ready, ready-few words c.requires.rules c.args.object c.requires.object, c.loop.auto.counter-end, c.loop.invariant.few)
