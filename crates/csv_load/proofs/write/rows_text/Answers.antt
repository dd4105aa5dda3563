use Rattle.std.proofs.Common.{◌≡◌, ◌≢◌, ◌++◌, ◌∙◌, false, ap, sym, Some}
use Rattle.std.specs.Result.{is_err}
use Rattle.csv.specs.Records.{fields_of}
use Rattle.csv.specs.Writing.{writer_setup}
use Rattle.csv.specs.declared.writer.QuoteStyle.TheVariants as style
use Rattle.csv.proofs.ReadFacts.{on-ok}
use Rattle.csv_load.proofs.Writing.{text-more}
use Rattle.csv_load.proofs.write.rows_text.Goals as goal

pub loop-row-preserved : goal.loop-row-preserved
loop-row-preserved c =
    let inv = c.loop-row.invariant in
    let good : is_err c.write_byte_record.result ≡ false = sym c.is_err.ensures.value ∙ c.if-is_err.false in
    let wrote = c.write_byte_record.ensures in
    let plain : (writer_setup c.loop-row.writer).style ≢ style.NonNumeric = rw inv.setup (λ e. cc e) in
    let text = on-ok _ good wrote.bytes inv.fields inv.wrote plain in
    let so_far : c.loop-row.writer.wtr.inner.items ++ c.loop-row.writer.wtr.buf ≡ _ = cc inv.so_far in
    record {
      setup = on-ok _ good wrote.setup ∙ inv.setup;
      fields = on-ok _ good wrote.ended;
      wrote = on-ok _ good wrote.clean;
      so_far = ap Some (text-more c.args.rows.now c.loop-row.row-index c.row-item.result (writer_setup c.loop-row.writer) (fields_of c.set_fields.new.fields)
          _ _ c.loop-row-test.true c.row-item.is so_far inv.setup (c.in_ok-set_fields.ensures) text);
    }
