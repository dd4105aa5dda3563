use Rattle.std.proofs.Common.{◌≡◌, List, ℕ, map, string_bytes, rules, true, ◌∙◌}
use Rattle.std.specs.Borrow.{Bor}
use Rattle.std.specs.List.{list_all}
use Rattle.clap.specs.Simple.{app_of}
use Rattle.command_line.specs.Parts.{may_stand}
use Rattle.command_line.proofs.Parsing.{err-from, ok-from}
use Rattle.command_line.proofs.arguments.read_arguments.Goals as goal

pub returns-in-Ok-clause-read : goal.returns-in-Ok-clause-read
returns-in-Ok-clause-read c =
    let may : list_all may_stand (map string_bytes c.args.words.now) ≡ true = search rules in
    ok-from (app_of c.in_ok-command.command) (map (λ (name : Bor (List ℕ)). name.now) c.args.options.now) (map string_bytes c.args.words.now) c.try_get_matches_from.result c.in-Ok.matches
    c.in_ok-command.ensures c.try_get_matches_from.ensures.kinds c.try_get_matches_from.ensures.matches c.in-Ok.is may

pub returns-clause-read : goal.returns-clause-read
returns-clause-read c =
    let may : list_all may_stand (map string_bytes c.args.words.now) ≡ true = search rules in
    err-from (app_of c.in_ok-command.command) (map (λ (name : Bor (List ℕ)). name.now) c.args.options.now) (map string_bytes c.args.words.now) c.try_get_matches_from.result c.in-Err.error
    c.in_ok-command.ensures c.try_get_matches_from.ensures.kinds c.in-Err.is (λ memory. c.in_default.not-OutOfMemory (c.kind.ensures ∙ memory)) may
