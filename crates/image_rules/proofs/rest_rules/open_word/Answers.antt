use Rattle.std.proofs.Common.{◌+◌, refl, sym, ◌∙◌, below_more, arith}
use Rattle.image_rules.proofs.ObjectChecks.{next_pointer}
use Rattle.image_rules.proofs.RestChecks.{state_used, commit_used, own_used, segment_used, segment_zero, object_closed}
use Rattle.image_rules.proofs.rest_rules.open_word.Goals as goal

pub returns-then-words-state-ne0 : goal.returns-then-words-state-ne0
returns-then-words-state-ne0 c = state_used c.args.words.now c.args.object c.object_state-state.result.0 c.object_state-state.ensures c.if-words-state-ne0.true

pub returns-then-words-commit-ne0 : goal.returns-then-words-commit-ne0
returns-then-words-commit-ne0 c =
    commit_used c.args.words.now c.args.object c.object_state-state.result.0 c.commit_word-commit.result.0 c.object_state-state.ensures c.if-words-state-ne0.false c.commit_word-commit.ensures c.if-words-commit-ne0.true

pub returns-then-is_some : goal.returns-then-is_some
returns-then-is_some c =
    own_used c.args.words.now c.args.object c.object_state-state.result.0 c.commit_word-commit.result.0 c.entry_word.result.0 c.used_word-own.result
    (record { state_is = c.object_state-state.ensures; idle = c.if-words-state-ne0.false; commit_is = c.commit_word-commit.ensures; none = c.if-words-commit-ne0.false; first_is = c.entry_word.ensures })
    c.used_word-own.ensures (sym c.is_some.ensures ∙ c.if-is_some.true)

pub loop-number-init : goal.loop-number-init
loop-number-init c = record {
  pointer = c.segment_pointer-pointer.ensures;
  within = omega (arith, c.segment_pointer-pointer.ensures, c.requires.object, c.requires.one_or_more);
  zero = λ x lt. absurd (omega (arith, lt));
}

pub returns-then-is_some-2 : goal.returns-then-is_some-2
returns-then-is_some-2 c =
    segment_used c.args.words.now c.args.object c.object_state-state.result.0 c.commit_word-commit.result.0 c.entry_word.result.0 c.loop-number.number c.next_segment-segment.result.0 (c.next_segment-segment.result.0 + 1)
    c.used_word-own.result c.used_word-found.result
    (record { state_is = c.object_state-state.ensures; idle = c.if-words-state-ne0.false; commit_is = c.commit_word-commit.ensures; none = c.if-words-commit-ne0.false; first_is = c.entry_word.ensures })
    c.used_word-own.ensures (sym c.is_some.ensures ∙ c.if-is_some.false) (omega (arith, c.loop-number-test.true, c.ready_count-number-end.ensures.count)) c.loop-number.invariant.zero
    c.next_segment-segment.ensures.segment refl c.used_word-found.ensures (sym c.is_some-in-loop-number.ensures ∙ c.if-is_some-2.true)

pub loop-number-preserved : goal.loop-number-preserved
loop-number-preserved c = record {
  pointer = c.next_segment-segment.ensures.segment ∙ sym (next_pointer c.args.words.now c.args.object c.loop-number.number);
  within = omega (arith, c.next_segment-segment.ensures.within);
  zero = below_more _ _ c.loop-number.invariant.zero
      (segment_zero c.args.words.now c.args.object c.loop-number.number c.next_segment-segment.result.0 (c.next_segment-segment.result.0 + 1) c.used_word-found.result c.next_segment-segment.ensures.segment refl c.used_word-found.ensures
      (sym c.is_some-in-loop-number.ensures ∙ c.if-is_some-2.false));
}

pub returns : goal.returns
returns c =
    object_closed c.args.words.now c.args.object c.object_state-state.result.0 c.commit_word-commit.result.0 c.entry_word.result.0 c.used_word-own.result
    (record { state_is = c.object_state-state.ensures; idle = c.if-words-state-ne0.false; commit_is = c.commit_word-commit.ensures; none = c.if-words-commit-ne0.false; first_is = c.entry_word.ensures })
    c.used_word-own.ensures (sym c.is_some.ensures ∙ c.if-is_some.false)
    (λ x lt. c.loop-number.invariant.zero x (omega (arith, lt, c.loop-number-test.false, c.ready_count-number-end.ensures.count)))
