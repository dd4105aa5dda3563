use Rattle.std.proofs.Common.{◌≡◌, ◌∙◌, ℕ, List, not, eqb, ap, subst, sym}
use Rattle.std.specs.Prelude.{IsTrue}
use Rattle.std.specs.List.{take_while}
use Rattle.std.specs.Str.{IsUtf8}
use Rattle.std.proofs.lemmas.Result.{MatchResult-at_ok}
use Rattle.mv_model.specs.Name.{is_name}
use Rattle.shown_state.specs.LogicalState.{name_at}
use Rattle.catalog.proofs.Names.{name_utf8}
use Rattle.catalog.proofs.Lists.{ok_from, some_is}
use Rattle.catalog.proofs.reading.read_name.Goals as goal

pub unwrap-text-requires : goal.unwrap-text-requires
unfolding name_at
unwrap-text-requires g c =
    let is : c.without_padding.result.now ≡ name_at (g.M.Memory.device c.args.mem.now).cached c.args.first.0 = c.without_padding.ensures ∙ ap (take_while (λ (b : ℕ). not (eqb b 0))) c.read_bytes-bytes.ensures in
    let utf8 : IsUtf8 c.without_padding.result.now = subst (λ (bs : List ℕ). IsUtf8 bs) (sym is) (name_utf8 (name_at (g.M.Memory.device c.args.mem.now).cached c.args.first.0) c.requires.name) in
    ok_from c.from_utf8.result _ _ c.from_utf8.ensures.cases (λ e no. no.0 utf8)

pub unwrap-requires : goal.unwrap-requires
unfolding name_at
unwrap-requires g c =
    let is : c.without_padding.result.now ≡ name_at (g.M.Memory.device c.args.mem.now).cached c.args.first.0 = c.without_padding.ensures ∙ ap (take_while (λ (b : ℕ). not (eqb b 0))) c.read_bytes-bytes.ensures in
    let text = (MatchResult-at_ok _ _ c.unwrap-text.result c.unwrap-text.ensures c.from_utf8.ensures.cases).0 in
    c.read.ensures.name.1 (subst (λ (bs : List ℕ). IsTrue (is_name bs)) (sym (text ∙ is)) c.requires.name)

pub returns : goal.returns
unfolding name_at
returns g c =
    let is : c.without_padding.result.now ≡ name_at (g.M.Memory.device c.args.mem.now).cached c.args.first.0 = c.without_padding.ensures ∙ ap (take_while (λ (b : ℕ). not (eqb b 0))) c.read_bytes-bytes.ensures in
    let text = (MatchResult-at_ok _ _ c.unwrap-text.result c.unwrap-text.ensures c.from_utf8.ensures.cases).0 in
    some_is c.read.result _ c.unwrap.result c.unwrap.ensures c.read.ensures.same ∙ text ∙ is
