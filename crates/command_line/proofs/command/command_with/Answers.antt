use Rattle.std.proofs.Common.{◌≡◌, ◌∙◌, ap, ap₂, map, drop, List, ℕ}
use Rattle.std.specs.Borrow.{Bor}
use Rattle.clap.specs.Simple.{App, app_of, app_of_fields, with_rule}
use Rattle.command_line.proofs.Building.{added, added-all, added-one, no_help, no_name, no_version}
use Rattle.command_line.proofs.command.command_with.Goals as goal

pub loop-name-init : goal.loop-name-init
loop-name-init c =
    let named : app_of c.no_binary_name.result ≡ no_name (app_of c.new.result) = ap app_of_fields c.no_binary_name.ensures in
    let helpless : app_of c.disable_help_flag.result ≡ no_help (app_of c.no_binary_name.result) = ap app_of_fields c.disable_help_flag.ensures in
    let bare : app_of c.disable_version_flag.result ≡ no_version (app_of c.disable_help_flag.result) = ap app_of_fields c.disable_version_flag.ensures in
    let made = bare ∙ ap no_version (helpless ∙ ap no_help (named ∙ ap no_name c.new.ensures.app)) in
    let first = c.in_ok-command.ensures.shape c.path_argument.ensures.local ∙ ap₂ with_rule made c.path_argument.ensures.rule in
    ap (λ (app : App). added app (map (λ (name : Bor (List ℕ)). name.now) (drop 0 c.args.options.now))) first
    ∙ added-all (map (λ (name : Bor (List ℕ)). name.now) c.args.options.now)

pub loop-name-preserved : goal.loop-name-preserved
loop-name-preserved c =
    let next = c.in_ok-command-2.ensures.shape c.option_argument.ensures.local ∙ ap (with_rule (app_of c.loop-name.command)) c.option_argument.ensures.rule in
    added-one (app_of c.loop-name.command) (app_of c.in_ok-command-2.command) c.args.options.now c.loop-name.name-index _ c.loop-name-test.true next
    ∙ c.loop-name.invariant
