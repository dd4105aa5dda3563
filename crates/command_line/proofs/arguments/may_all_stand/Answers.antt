use Rattle.std.proofs.Common.{string_bytes, rules, tests}
use Rattle.std.proofs.lemmas.Iterator.{YieldsList-from_slice}
use Rattle.std.proofs.lemmas.Iterator.Search.{all_from_yields_List}
use Rattle.std.proofs.lemmas.List.Folds.{list_all-map}
use Rattle.command_line.specs.Parts.{may_stand}
use Rattle.command_line.proofs.arguments.may_all_stand.Goals as goal

pub returns : goal.returns
returns c =
    let words = c.args.words.now in
    rw (list_all-map may_stand string_bytes words)
    (all_from_yields_List (λ word. may_stand (string_bytes word)) _ _ _ c.all.ensures.ran (YieldsList-from_slice words cc)
    (λ x b q k. search (rules, tests)))
