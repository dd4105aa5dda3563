-- The command that is built from options one by one.
use Rattle.std.proofs.Common.{◌≡◌, ◌+◌, ◌<◌, ℕ, true, ◌++◌, List, [], ◌∷◌, length, drop, map, ap, sym, ◌∙◌}
use Rattle.std.specs.Borrow.{Bor}
use Rattle.std.specs.List.{slice_index_or}
use Rattle.std.proofs.lemmas.List.{append-nil, append_assoc, at_drop_more}
use Rattle.clap.specs.Words.{App, Rule, Text, with_rule}
use Rattle.command_line.specs.Command.{app_for, option_rule, path_rule}

-- the command with options of these names added to it
abbrev pub added : App → List Text → App
added app [] = app
added app (name ∷ names) = added (with_rule app (option_rule name)) names

-- the command with these rules
abbrev app_of_rules : List Rule → App
app_of_rules rules = record (app_for []) { top = record (app_for []).top { rules = rules } }

adds : (rules : List Rule) (names : List Text) → added (app_of_rules rules) names ≡ app_of_rules (rules ++ map option_rule names)
adds rules [] = ap app_of_rules (sym (append-nil rules))
adds rules (name ∷ names) = adds (rules ++ option_rule name ∷ []) names ∙ ap app_of_rules (append_assoc rules (option_rule name ∷ []) (map option_rule names))

pub added-all : (names : List Text) → added (app_for []) names ≡ app_for names
added-all names = adds (path_rule ∷ []) names

-- ── the settings of the command ──

abbrev pub no_name : App → App
no_name app = record app { top = record app.top { no_binary_name = true } }

abbrev pub no_help : App → App
no_help app = record app { top = record app.top { disable_help_flag = true } }

abbrev pub no_version : App → App
no_version app = record app { top = record app.top { disable_version_flag = true } }

-- ── one option more ──

abbrev names_of : List (Bor Text) → List Text
names_of = map (λ (name : Bor Text). name.now)

pub added-one : (app next : App) (options : List (Bor Text)) (i : ℕ) (d : Bor Text) → i < length options → next ≡ with_rule app (option_rule (slice_index_or options i d).now)
    → added next (names_of (drop (i + 1) options)) ≡ added app (names_of (drop i options))
added-one app next options i d within is =
    ap (λ (from : App). added from (names_of (drop (i + 1) options))) is
    ∙ sym (at_drop_more (λ (left : List (Bor Text)). added app (names_of left)) options i d within)
