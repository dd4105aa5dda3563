use Rattle.std.proofs.Common.{◌∙◌, arith}
use Rattle.image_rules.proofs.ObjectChecks.{state_fails, commit_fails, ready_fails, ready_passes}
use Rattle.image_rules.proofs.object_rules.object_fault.Goals as goal

pub returns-then-words-state-gt-OPEN : goal.returns-then-words-state-gt-OPEN
returns-then-words-state-gt-OPEN c = state_fails c.args.words.now c.args.object c.object_state-state.result.0 c.object_state-state.ensures c.if-words-state-gt-OPEN.true

pub returns-then-words-commit : goal.returns-then-words-commit
returns-then-words-commit c =
    commit_fails c.args.words.now c.args.object c.object_state-state.result.0 c.commit_word-commit.result.0 c.next_commit.result c.object_state-state.ensures c.commit_word-commit.ensures c.next_commit.ensures
    c.if-words-state-gt-OPEN.false c.if-words-commit.true

pub returns-then-words-ready : goal.returns-then-words-ready
returns-then-words-ready c =
    ready_fails c.args.words.now c.args.object c.object_state-state.result.0 c.commit_word-commit.result.0 c.next_commit.result c.ready_segments-ready.result.0 c.object_state-state.ensures c.commit_word-commit.ensures
    c.next_commit.ensures c.ready_segments-ready.ensures c.if-words-state-gt-OPEN.false c.if-words-commit.false (omega (arith, c.if-words-ready.true))

pub returns : goal.returns
returns c =
    c.segments_fault.ensures
    ∙ ready_passes c.args.words.now c.args.object c.object_state-state.result.0 c.commit_word-commit.result.0 c.next_commit.result c.ready_segments-ready.result.0 c.object_state-state.ensures c.commit_word-commit.ensures
    c.next_commit.ensures c.ready_segments-ready.ensures c.if-words-state-gt-OPEN.false c.if-words-commit.false (omega (arith, c.if-words-ready.false))
