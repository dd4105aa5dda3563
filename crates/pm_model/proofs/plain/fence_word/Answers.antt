use Rattle.std.proofs.Common.{ℕ, get_or, sym, ◌∙◌, ap}
use Rattle.std.proofs.lemmas.List.{get_or-set_same}
use Rattle.std.proofs.lemmas.Bool.{cond-true}
use Rattle.pm_model.specs.Masks.{in_mask}
use Rattle.pm_model.proofs.plain.fence_word.Goals as goal

pub returns-then-has_bit-clause-here : goal.returns-then-has_bit-clause-here
returns-then-has_bit-clause-here c =
    let w = c.args.w in
    let mask = get_or c.args.masks.now w 0 in
    let cached = get_or c.args.cached.now w 0 in
    record {
      durable = get_or-set_same c.args.durable.now w cached 0 c.requires.durable ∙ sym (cond-true (in_mask mask c.args.session) cached (get_or c.args.durable.now w 0) (sym c.if-has_bit.ensures));
      mask = λ other. ap (λ (m : ℕ). in_mask m other) (get_or-set_same c.args.masks.now w c.without_bit.result 0 c.requires.masks) ∙ c.without_bit.ensures other;
    }
