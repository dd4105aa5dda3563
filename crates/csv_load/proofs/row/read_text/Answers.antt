use Rattle.std.proofs.Common.{Some, ap, arith, sym, ◌∙◌, List, ℕ}
use Rattle.mv_model.specs.declared.value.Value.TheVariants.{Text}
use Rattle.csv_load.proofs.Fields.{text-bytes, text-short}
use Rattle.csv_load.proofs.row.read_text.Goals as goal

pub returns-in_ok-from_str-in-Ok : goal.returns-in_ok-from_str-in-Ok
returns-in_ok-from_str-in-Ok c =
    ap (λ (text : List ℕ). Some (Text text)) (c.in_ok-from_str-in-Ok.ensures.text ∙ c.in-Ok.ensures.cases.0)
    ∙ sym (text-short c.args.field.now (omega arith) c.in-Ok.ensures.cases.1)

pub returns-in-Err : goal.returns-in-Err
returns-in-Err c = sym (text-bytes c.args.field.now c.in-Err.ensures.cases.0)
