use Rattle.std.proofs.Common.{◌≡◌, ◌++◌, ◌∷◌, List, inr, length, ap, sym, subst, drop, arith, ◌+◌, ◌∙◌}
use Rattle.std.proofs.lemmas.Iterator.Adapters.{YieldsList-from_vec}
use Rattle.std.proofs.lemmas.Iterator.Consumers.{YieldsList-end, YieldsList-so_far, YieldsList-turn}
use Rattle.std.proofs.lemmas.List.{map-id}
use Rattle.script_text.specs.declared.script.Line.{Line}
use Rattle.script_text.specs.Script.{IsBuiltLine}
use Rattle.session_serve.specs.declared.playing.Ending.{Ending}
use Rattle.session_serve.specs.declared.playing.Ending.TheVariants as ending
use Rattle.session_serve.specs.Playing.{EndsCall, HasRun, StopsInLine}
use Rattle.session_serve.proofs.Lines.{line-cut, line-more, none_or, not_nil, split-at}
use Rattle.session_serve.proofs.playing.answer_lines.Goals as goal

pub returns-in_err-answer_line-clause-opened : goal.returns-in_err-answer_line-clause-opened
returns-in_err-answer_line-clause-opened g c = c.answer_line.ensures.opened ∙ c.loop-line.invariant.opened

pub loop-line-preserved : goal.loop-line-preserved
loop-line-preserved g c =
    let gives = c.into_iter-line-iterator.ensures.into_iter_gives in
    let all = YieldsList-from_vec c.args.lines.items gives.0 (omega (arith, gives.1, ap length gives.0)) in
    let turn = YieldsList-turn all c.loop-line.yielded c.loop-line.line-iterator c.loop-line.yielded_by _ c.next.new.self c.in-Some.line c.in-Some.is c.next.ensures.steps in
    let built : IsBuiltLine c.in-Some.line = subst IsBuiltLine (sym turn.1) (c.requires.built (length c.loop-line.yielded) c.in-Some.line turn.0) in
    let ends : EndsCall ending.Finished c.args.cut c.answer_line.new.core = subst (λ (end : Ending). EndsCall end c.args.cut c.answer_line.new.core) c.in-Finished.is c.in_ok-answer_line.ensures.ends in
    record {
      opened = c.answer_line.ensures.opened ∙ c.loop-line.invariant.opened;
      run = line-more c.args.cut c.loop-line.yielded c.in-Some.line _ _ c.loop-line.invariant.run built c.answer_line.ensures.opened c.in_ok-answer_line.ensures.started c.in_ok-answer_line.ensures.counted c.in_ok-answer_line.ensures.in_call ends;
      before = λ some. ends.3;
    }

pub returns-in-Cut-clause-opened : goal.returns-in-Cut-clause-opened
returns-in-Cut-clause-opened g c = c.answer_line.ensures.opened ∙ c.loop-line.invariant.opened

pub returns-in-Cut-clause-ends : goal.returns-in-Cut-clause-ends
returns-in-Cut-clause-ends g c =
    let gives = c.into_iter-line-iterator.ensures.into_iter_gives in
    let all = YieldsList-from_vec c.args.lines.items gives.0 (omega (arith, gives.1, ap length gives.0)) in
    let so_far = YieldsList-so_far all c.loop-line.yielded c.loop-line.line-iterator c.loop-line.yielded_by in
    let turn = YieldsList-turn all c.loop-line.yielded c.loop-line.line-iterator c.loop-line.yielded_by _ c.next.new.self c.in-Some.line c.in-Some.is c.next.ensures.steps in
    let built : IsBuiltLine c.in-Some.line = subst IsBuiltLine (sym turn.1) (c.requires.built (length c.loop-line.yielded) c.in-Some.line turn.0) in
    let ends : EndsCall ending.Cut c.args.cut c.answer_line.new.core = subst (λ (end : Ending). EndsCall end c.args.cut c.answer_line.new.core) c.in-Cut.is c.in_ok-answer_line.ensures.ends in
    let split : c.args.lines.items ≡ c.loop-line.yielded ++ c.in-Some.line ∷ drop (length c.loop-line.yielded + 1) c.args.lines.items = split-at c.loop-line.yielded c.args.lines.items c.in-Some.line so_far turn.0 turn.1 in
    let stops = line-cut c.args.cut c.loop-line.yielded (drop (length c.loop-line.yielded + 1) c.args.lines.items) c.in-Some.line _ _ c.loop-line.invariant.run built c.answer_line.ensures.opened c.in_ok-answer_line.ensures.counted c.in_ok-answer_line.ensures.in_call (c.loop-line.invariant.before (not_nil c.loop-line.yielded c.args.lines.items turn.0)) ends in
    (c.answer_line.new.core.played, ends.1, inr (subst (λ (lines : List Line). StopsInLine c.answer_line.new.core.played lines c.answer_line.new.core) (sym split) stops))

pub returns-clause-ends : goal.returns-clause-ends
returns-clause-ends g c =
    let gives = c.into_iter-line-iterator.ensures.into_iter_gives in
    let all = YieldsList-from_vec c.args.lines.items gives.0 (omega (arith, gives.1, ap length gives.0)) in
    let end = YieldsList-end all c.loop-line.yielded c.loop-line.line-iterator c.loop-line.yielded_by _ c.next.new.self c.in-None.is c.next.ensures.steps in (
      subst (λ (lines : List Line). HasRun lines c.loop-line.core) (sym (map-id c.loop-line.yielded) ∙ end.0) c.loop-line.invariant.run,
      none_or c.args.lines.items _ c.loop-line.invariant.before,
    )
