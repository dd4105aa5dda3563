use Rattle.std.proofs.Common.{ℕ, get_or, sym, ◌∙◌, ap}
use Rattle.image_layout.proofs.TableParts.{first_inner, second_inner}
use Rattle.image_rules.proofs.extensions.inner_count.Goals as goal

pub returns-then-is_first_version : goal.returns-then-is_first_version
returns-then-is_first_version c =
    c.word_at.ensures ∙ ap (λ (p : ℕ). get_or c.args.words.now p 0) c.column_count.ensures
    ∙ sym (first_inner c.args.words.now c.args.block.0 (sym c.is_first_version.ensures ∙ c.if-is_first_version.true))

pub returns : goal.returns
returns c =
    c.word_at-2.ensures ∙ ap (λ (p : ℕ). get_or c.args.words.now p 0) c.inner_columns.ensures
    ∙ sym (second_inner c.args.words.now c.args.block.0 (sym c.is_first_version.ensures ∙ c.if-is_first_version.false))
