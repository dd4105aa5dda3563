use Rattle.std.proofs.Common.{◌≡◌, ◌+◌, ◌-◌, ◌*◌, ◌<◌, ◌≤◌, ◌∙◌, ◌++◌, ℕ, true, min, take, List, ap, sym, subst, get_or, length, arith}
use Rattle.image_layout.specs.Places.{is_pointer}
use Rattle.pm_model.specs.Plans.{stores}
use Rattle.image_layout.specs.Objects.{ready_count, entry_places}
use Rattle.txn_object.proofs.Rule.{named, pointer_in, within}
use Rattle.txn_object.proofs.Places.{length-entry_places}
use Rattle.txn_object.proofs.Walk.{named_next, pointer_next, zeros_first, zeros_next, div_ceil_below, div_ceil_end}
use Rattle.txn_object.proofs.object.push_entry_zeros.Goals as goal

-- there is more to clear than stands in the object, so the rule holds, and the segment is ready
reached : (entries own k end : ℕ) → own ≡ min entries 60 → 255 * k < entries - own → 60 + 255 * k < entries
reached entries own k end size lt = omega (arith, size, lt)

ready_here : (words : List ℕ) (object entries k : ℕ) → entries ≤ length (entry_places words object) → 60 + 255 * k < entries → k < ready_count words object
ready_here words object entries k le lt = omega (arith, le, lt, length-entry_places words object)

pub loop-segment-init : goal.loop-segment-init
loop-segment-init g c = record {
  place = c.segment_pointer-pointer.ensures;
  left = zeros_first (g.M.Memory.device c.args.mem.now).cached c.args.object c.entry_word.result.0 c.args.entries c.min-own.result c.args.plan.now.left c.push_zeros.new.plan.left c.entry_word.ensures c.min-own.ensures c.push_zeros.ensures.left;
  spare = omega (arith, c.push_zeros.ensures.spare, c.min-own.ensures);
}

pub named_place-first-requires-clause-at : goal.named_place-first-requires-clause-at
named_place-first-requires-clause-at g c =
    let words : List ℕ = (g.M.Memory.device c.args.mem.now).cached in
    let more = div_ceil_below (c.args.entries - c.min-own.result) c.loop-segment.segment c.div_ceil-segment-end.result c.div_ceil-segment-end.ensures c.loop-segment-test.true in
    let lt = reached c.args.entries c.min-own.result c.loop-segment.segment 0 c.min-own.ensures more in
    let size = (g.met.M.Memory.whole c.args.mem.now).one_or_more in
    let below = ready_here words c.args.object c.args.entries c.loop-segment.segment c.requires.there lt in
    let there = pointer_in words c.args.object (c.requires.rule (omega (arith, lt))) (omega (arith, size)) c.requires.object c.loop-segment.segment (omega (arith, below)) in
    subst (λ (at : ℕ). at < length words) (sym c.loop-segment.invariant.place) there

pub named_place-first-requires-clause-pointer : goal.named_place-first-requires-clause-pointer
named_place-first-requires-clause-pointer g c =
    let words : List ℕ = (g.M.Memory.device c.args.mem.now).cached in
    let more = div_ceil_below (c.args.entries - c.min-own.result) c.loop-segment.segment c.div_ceil-segment-end.result c.div_ceil-segment-end.ensures c.loop-segment-test.true in
    let lt = reached c.args.entries c.min-own.result c.loop-segment.segment 0 c.min-own.ensures more in
    let below = ready_here words c.args.object c.args.entries c.loop-segment.segment c.requires.there lt in
    let is = named words c.args.object (c.requires.rule (omega (arith, lt))) c.loop-segment.segment below in
    subst (λ (at : ℕ). is_pointer words (get_or words at 0) ≡ true) (sym c.loop-segment.invariant.place) is.is_one

pub push_zeros-requires-in-loop-segment-clause-within : goal.push_zeros-requires-in-loop-segment-clause-within
push_zeros-requires-in-loop-segment-clause-within g c =
    let words : List ℕ = (g.M.Memory.device c.args.mem.now).cached in
    let more = div_ceil_below (c.args.entries - c.min-own.result) c.loop-segment.segment c.div_ceil-segment-end.result c.div_ceil-segment-end.ensures c.loop-segment-test.true in
    let lt = reached c.args.entries c.min-own.result c.loop-segment.segment 0 c.min-own.ensures more in
    let below = ready_here words c.args.object c.args.entries c.loop-segment.segment c.requires.there lt in
    let is = within words c.args.object (c.requires.rule (omega (arith, lt))) (g.met.M.Memory.whole c.args.mem.now).segments c.loop-segment.segment 255 below (omega arith) in
    let here = named_next words c.args.object c.loop-segment.segment c.loop-segment.pointer.0 c.named_place-first.result.0 c.loop-segment.invariant.place c.named_place-first.ensures.place in
    omega (arith, is, here, c.segment_entry.ensures, c.min-count.ensures, (g.met.M.Memory.whole c.args.mem.now).most)

pub push_zeros-requires-in-loop-segment-clause-room : goal.push_zeros-requires-in-loop-segment-clause-room
push_zeros-requires-in-loop-segment-clause-room g c =
    let more = div_ceil_below (c.args.entries - c.min-own.result) c.loop-segment.segment c.div_ceil-segment-end.result c.div_ceil-segment-end.ensures c.loop-segment-test.true in
    let lt = reached c.args.entries c.min-own.result c.loop-segment.segment 0 c.min-own.ensures more in
    omega (arith, lt, c.min-count.ensures, c.min-own.ensures, c.loop-segment.invariant.spare, c.requires.room)

pub loop-segment-preserved : goal.loop-segment-preserved
loop-segment-preserved g c =
    let words : List ℕ = (g.M.Memory.device c.args.mem.now).cached in
    let k = c.loop-segment.segment in
    let more = div_ceil_below (c.args.entries - c.min-own.result) c.loop-segment.segment c.div_ceil-segment-end.result c.div_ceil-segment-end.ensures c.loop-segment-test.true in
    let lt = reached c.args.entries c.min-own.result c.loop-segment.segment 0 c.min-own.ensures more in
    let below = ready_here words c.args.object c.args.entries c.loop-segment.segment c.requires.there lt in
    let here = named_next words c.args.object c.loop-segment.segment c.loop-segment.pointer.0 c.named_place-first.result.0 c.loop-segment.invariant.place c.named_place-first.ensures.place in
    record {
      place = pointer_next words c.args.object c.loop-segment.segment c.loop-segment.pointer.0 c.named_place-first.result.0 c.loop-segment.invariant.place c.named_place-first.ensures.place;
      left = zeros_next words c.args.object c.loop-segment.segment c.named_place-first.result.0 c.segment_entry.result.0 c.args.entries c.min-count.result c.args.plan.now.left c.loop-segment.plan.left c.push_zeros-in-loop-segment.new.plan.left
          below here (omega (arith, c.segment_entry.ensures)) lt (omega (arith, c.min-count.ensures, c.min-own.ensures, lt)) c.loop-segment.invariant.left c.push_zeros-in-loop-segment.ensures.left;
      spare = omega (arith, lt, c.min-count.ensures, c.min-own.ensures, c.loop-segment.invariant.spare, c.push_zeros-in-loop-segment.ensures.spare);
    }

pub returns-clause-left : goal.returns-clause-left
returns-clause-left g c =
    let end = div_ceil_end (c.args.entries - c.min-own.result) c.loop-segment.segment c.div_ceil-segment-end.result c.div_ceil-segment-end.ensures (omega (arith, c.loop-segment-test.false)) in
    let all : min c.args.entries (60 + 255 * c.loop-segment.segment) ≡ c.args.entries = omega (arith, end, c.min-own.ensures) in
    c.loop-segment.invariant.left ∙ ap (λ (n : ℕ). c.args.plan.now.left ++ stores 0 (take n (entry_places (g.M.Memory.device c.args.mem.now).cached c.args.object))) all

pub returns-clause-spare : goal.returns-clause-spare
returns-clause-spare g c =
    let end = div_ceil_end (c.args.entries - c.min-own.result) c.loop-segment.segment c.div_ceil-segment-end.result c.div_ceil-segment-end.ensures (omega (arith, c.loop-segment-test.false)) in
    omega (arith, end, c.min-own.ensures, c.loop-segment.invariant.spare)
