use Rattle.std.proofs.Common.{◌≡◌, ◌<◌, ℕ, true, List, sym, subst, get_or, length, refl, arith}
use Rattle.image_layout.specs.Places.{is_pointer}
use Rattle.image_layout.specs.Checks.{Keeps}
use Rattle.image_layout.specs.EntryRules.{object_rule}
use Rattle.image_layout.specs.Objects.{ready_count}
use Rattle.txn_object.specs.Object.{free_entries_in}
use Rattle.txn_object.proofs.Rule.{named, pointer_in, within}
use Rattle.txn_object.proofs.Walk.{named_next, pointer_next, free_next, free_last}
use Rattle.txn_object.proofs.reading.free_entries.Goals as goal

pub named_place-first-requires-clause-at : goal.named_place-first-requires-clause-at
named_place-first-requires-clause-at g c =
    let words : List ℕ = (g.M.Memory.device c.args.mem.now).cached in
    let lt : c.loop-segment.segment < ready_count words c.object_of-object.result = omega (arith, c.loop-segment-test.true, c.ready-ready.ensures.count) in
    let size = (g.met.M.Memory.whole c.args.mem.now).one_or_more in
    let there = pointer_in words c.object_of-object.result (subst (λ (o : ℕ). Keeps (g.M.Memory.device c.args.mem.now).cached (object_rule o)) (sym c.object_of-object.ensures) c.requires.rule) (omega (arith, size)) (omega (arith, c.requires.last, c.requires.first, c.object_of-object.ensures)) c.loop-segment.segment (omega (arith, lt)) in
    subst (λ (at : ℕ). at < length words) (sym c.loop-segment.invariant.place) there

pub named_place-first-requires-clause-pointer : goal.named_place-first-requires-clause-pointer
named_place-first-requires-clause-pointer g c =
    let words : List ℕ = (g.M.Memory.device c.args.mem.now).cached in
    let lt : c.loop-segment.segment < ready_count words c.object_of-object.result = omega (arith, c.loop-segment-test.true, c.ready-ready.ensures.count) in
    subst (λ (at : ℕ). is_pointer words (get_or words at 0) ≡ true) (sym c.loop-segment.invariant.place) (named words c.object_of-object.result (subst (λ (o : ℕ). Keeps (g.M.Memory.device c.args.mem.now).cached (object_rule o)) (sym c.object_of-object.ensures) c.requires.rule) c.loop-segment.segment lt).is_one

pub segment_entry-requires : goal.segment_entry-requires
segment_entry-requires g c = omega (arith, c.named_place-first.ensures.in_image, (g.met.M.Memory.whole c.args.mem.now).most)

pub free_in_run-free-requires-in-loop-segment : goal.free_in_run-free-requires-in-loop-segment
free_in_run-free-requires-in-loop-segment g c =
    let words : List ℕ = (g.M.Memory.device c.args.mem.now).cached in
    let lt : c.loop-segment.segment < ready_count words c.object_of-object.result = omega (arith, c.loop-segment-test.true, c.ready-ready.ensures.count) in
    let is = within words c.object_of-object.result (subst (λ (o : ℕ). Keeps (g.M.Memory.device c.args.mem.now).cached (object_rule o)) (sym c.object_of-object.ensures) c.requires.rule) (g.met.M.Memory.whole c.args.mem.now).segments c.loop-segment.segment 255 lt (omega arith) in
    let here = named_next words c.object_of-object.result c.loop-segment.segment c.loop-segment.pointer.0 c.named_place-first.result.0 c.loop-segment.invariant.place c.named_place-first.ensures.place in
    record { within = omega (arith, is, here, c.segment_entry.ensures) }

pub loop-segment-preserved : goal.loop-segment-preserved
loop-segment-preserved g c =
    let words : List ℕ = (g.M.Memory.device c.args.mem.now).cached in
    let here = named_next words c.object_of-object.result c.loop-segment.segment c.loop-segment.pointer.0 c.named_place-first.result.0 c.loop-segment.invariant.place c.named_place-first.ensures.place in
    record {
      place = pointer_next words c.object_of-object.result c.loop-segment.segment c.loop-segment.pointer.0 c.named_place-first.result.0 c.loop-segment.invariant.place c.named_place-first.ensures.place;
      most = omega (arith, c.loop-segment.invariant.most, c.free_in_run-free-in-loop-segment.ensures.most);
      counted = free_next words c.object_of-object.result c.loop-segment.segment c.named_place-first.result.0 c.segment_entry.result.0 c.loop-segment.free c.free_in_run-free-in-loop-segment.result _
          here (omega (arith, c.segment_entry.ensures)) c.loop-segment.invariant.counted c.free_in_run-free-in-loop-segment.ensures.free refl;
    }

pub returns : goal.returns
returns g c =
    subst (λ (o : ℕ). c.loop-segment.free ≡ free_entries_in (g.M.Memory.device c.args.mem.now).cached o) c.object_of-object.ensures (free_last (g.M.Memory.device c.args.mem.now).cached c.object_of-object.result c.loop-segment.segment c.loop-segment.free
    (omega (arith, c.loop-segment.auto.segment-end, c.loop-segment-test.false, c.ready-ready.ensures.count)) c.loop-segment.invariant.counted)
