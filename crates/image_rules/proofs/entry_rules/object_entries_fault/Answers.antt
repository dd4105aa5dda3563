use Rattle.std.proofs.Common.{ℕ, ◌+◌, ◌-◌, get_or, refl, sym, ◌∙◌, ap, arith}
use Rattle.image_layout.specs.Objects.{ready_count}
use Rattle.image_layout.specs.Checks.{first_failing}
use Rattle.image_layout.specs.EntryRules.{entry_checks}
use Rattle.image_rules.proofs.ObjectChecks.{next_pointer}
use Rattle.image_rules.proofs.EntryChecks.{segment_entries, own_found, own_pass, segment_found, segment_pass}
use Rattle.image_rules.proofs.entry_rules.object_entries_fault.Goals as goal

pub returns-then-is_some : goal.returns-then-is_some
returns-then-is_some c =
    own_found c.args.words.now c.args.object c.entry_word-own.result.0 c.run_fault-first.result c.entry_word-own.ensures c.run_fault-first.ensures (sym c.is_some.ensures ∙ c.if-is_some.true)

pub loop-number-init : goal.loop-number-init
loop-number-init c = record {
  pointer = c.segment_pointer-pointer.ensures;
  within = omega (arith, c.segment_pointer-pointer.ensures, c.requires.object, c.requires.one_or_more);
  rest = own_pass c.args.words.now c.args.object c.entry_word-own.result.0 (c.entry_word-own.result.0 + 60 - 1) c.run_fault-first.result c.entry_word-own.ensures (omega arith) c.run_fault-first.ensures (sym c.is_some.ensures ∙ c.if-is_some.false)
      ∙ ap (λ (n : ℕ). first_failing (entry_checks c.args.words.now (get_or c.args.words.now (c.entry_word-own.result.0 + 60 - 1) 0) (segment_entries c.args.words.now c.args.object 0 n))) (omega arith);
}

pub returns-then-is_some-2 : goal.returns-then-is_some-2
returns-then-is_some-2 c =
    segment_found c.args.words.now c.args.object c.loop-number.before c.loop-number.number (ready_count c.args.words.now c.args.object - c.loop-number.number) c.next_segment-segment.result.0 (c.next_segment-segment.result.0 + 1) c.run_fault-found.result
    (omega (arith, c.loop-number-test.true, c.ready_count-number-end.ensures.count)) c.next_segment-segment.ensures.segment refl c.run_fault-found.ensures (sym c.is_some-in-loop-number.ensures ∙ c.if-is_some-2.true)
    ∙ sym c.loop-number.invariant.rest

pub loop-number-preserved : goal.loop-number-preserved
loop-number-preserved c = record {
  pointer = c.next_segment-segment.ensures.segment ∙ sym (next_pointer c.args.words.now c.args.object c.loop-number.number);
  within = omega (arith, c.next_segment-segment.ensures.within);
  rest =
      c.loop-number.invariant.rest
      ∙ segment_pass c.args.words.now c.args.object c.loop-number.before c.loop-number.number (c.loop-number.number + 1) (ready_count c.args.words.now c.args.object - c.loop-number.number)
      (ready_count c.args.words.now c.args.object - (c.loop-number.number + 1)) c.next_segment-segment.result.0 (c.next_segment-segment.result.0 + 1) (c.next_segment-segment.result.0 + 255) c.run_fault-found.result refl
      (omega (arith, c.loop-number-test.true, c.ready_count-number-end.ensures.count)) c.next_segment-segment.ensures.segment refl refl c.run_fault-found.ensures (sym c.is_some-in-loop-number.ensures ∙ c.if-is_some-2.false);
}
