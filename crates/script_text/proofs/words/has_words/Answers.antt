use Rattle.std.proofs.Common.{sym, ◌∙◌}
use Rattle.script_text.proofs.Splitting.{told-plain}
use Rattle.script_text.proofs.words.has_words.Goals as goal

pub returns-then-is_none : goal.returns-then-is_none
returns-then-is_none c =
    c.if-is_none.true
    ∙ sym (told-plain c.as_bytes.result.now c.args.line.now c.memchr.result c.as_bytes.ensures.value c.if-is_none.ensures c.memchr.ensures)
