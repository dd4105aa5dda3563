use Rattle.std.proofs.Common.{Bor, ℕ, List, ◌≡◌, ◌+◌, length, arith, sym, ◌∙◌}
use Rattle.csv.specs.Records.{fields_of}
use Rattle.csv_load.proofs.Fields.{field-found, field-is, row-refused, values-more, values-refused}
use Rattle.csv_load.proofs.row.read_row.Goals as goal

pub unwrap-field-requires : goal.unwrap-field-requires
unwrap-field-requires c =
    field-found (λ (s : Bor (List ℕ)). s.now) c.get.result (fields_of c.args.fields.now) c.loop-i.i (omega arith) c.get.ensures.value

pub returns-in-None : goal.returns-in-None
returns-in-None c =
    let same : length (fields_of c.args.fields.now) ≡ length c.args.columns.now = omega arith in
    let field = field-is (λ (s : Bor (List ℕ)). s.now) c.get.result c.unwrap-field.result (fields_of c.args.fields.now) c.loop-i.i
    c.get.ensures.value c.unwrap-field.ensures in
    let none = sym c.in-None.is ∙ c.in_ok-value.ensures in
    row-refused c.args.nth (c.loop-i.i + 1) c.args.columns.now (fields_of c.args.fields.now) same
    (values-refused c.loop-i.i c.args.columns.now (fields_of c.args.fields.now) c.index-columns-i.result c.unwrap-field.result.now
    c.loop-i.values.items _ c.loop-i-test.true same c.index-columns-i.is field c.loop-i.invariant.so_far none)

pub loop-i-preserved : goal.loop-i-preserved
loop-i-preserved c =
    let same : length (fields_of c.args.fields.now) ≡ length c.args.columns.now = omega arith in
    let field = field-is (λ (s : Bor (List ℕ)). s.now) c.get.result c.unwrap-field.result (fields_of c.args.fields.now) c.loop-i.i
    c.get.ensures.value c.unwrap-field.ensures in
    let some = sym c.in-Some.is ∙ c.in_ok-value.ensures in
    record {
      room = omega arith;
      so_far = values-more c.loop-i.i c.args.columns.now (fields_of c.args.fields.now) c.index-columns-i.result c.unwrap-field.result.now
          c.in-Some.value c.loop-i.values.items c.push.new.self.items _ c.loop-i-test.true same c.index-columns-i.is field
          c.loop-i.invariant.so_far some c.push.ensures.items;
    }
