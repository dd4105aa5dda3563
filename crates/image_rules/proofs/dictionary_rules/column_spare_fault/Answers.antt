use Rattle.std.proofs.Common.{◌∙◌, sym}
use Rattle.image_rules.proofs.SpareSlots.{texts}
use Rattle.image_rules.proofs.dictionary_rules.column_spare_fault.Goals as goal

pub returns : goal.returns
returns c =
    c.spare_fault.ensures
    ∙ texts c.args.words.now c.in_ok-used.used.items c.args.column c.len.result c.dictionary_header-header.result.0 (sym c.is_text.ensures ∙ c.if-not-is_text.false) (c.len.ensures ∙ c.in_ok-used.used.ok.0) c.in_ok-used.ensures.used c.dictionary_header-header.ensures
