use Rattle.std.proofs.Common.{Bor, List, ℕ, ◌≡◌, ◌+◌, ◌∙◌, length, sym, ap, rules, inl, inr, arith, true, Some}
use Rattle.std.specs.Result.{is_ok}
use Rattle.std.proofs.lemmas.Result.{err_from_is_err_and}
use Rattle.csv.specs.Reading.{default_config, strip_bom}
use Rattle.csv.specs.Records.{fields_of}
use Rattle.csv.specs.declared.parser.State.TheVariants as st
use Rattle.csv.proofs.ReadFacts.{rows-end, rows-more}
use Rattle.csv_load.specs.Rows.{row_of, rows}
use Rattle.csv_load.proofs.Table.{finished, fits, length-more, refused, refuses-all, start, step, strip-length}
use Rattle.csv_load.proofs.read.typed_rows.Goals as goal

pub records-init : goal.records-init
records-init c =
    let from = c.from_reader-reader.ensures in
    let flexible = c.flexible.ensures in
    let named = c.has_headers.ensures in
    rw (c.new-rows.ensures.items) (
      rw (flexible, named) at from.trim ∙ c.new.ensures.trim,
      inr (inr (rw (flexible, named) at from.has_headers, from.headers)),
      rw flexible at from.flexible,
      rw (flexible, named) at from.config ∙ c.new.ensures.config,
      strip_bom c.args.bytes.now,
      from.source,
      start (strip_bom c.args.bytes.now) c.args.shape.now c.from_reader-reader.result.state (sym from.state),
    )

pub overflow_cast-nth : goal.overflow_cast-nth
overflow_cast-nth c =
    let most = fits _ _ _ _ _ c.records.invariant.6 in
    let less = strip-length c.args.bytes.now in
    omega arith

pub overflow_add-nth : goal.overflow_add-nth
overflow_add-nth c =
    let most = fits _ _ _ _ _ c.records.invariant.6 in
    let less = strip-length c.args.bytes.now in
    omega arith

pub returns-in_err-read_row : goal.returns-in_err-read_row
returns-in_err-read_row c =
    let inv = c.records.invariant in
    let fields = fields_of c.read_next.new.fields in
    let s = rw c.if-branch.true at c.in_ok-read_next.ensures.read in
    let m = rows-more (λ (s : Bor (List ℕ)). Some s.now) c.records.reader c.read_next.new.reader fields default_config st.StartRecord
    (strip_bom c.args.bytes.now) inv.4 inv.6.behind inv.3 inv.5 inv.6.reached s in
    let nth : c.len.result + 1 ≡ length c.records.rows.items + 1 = omega arith in
    let p = err_from_is_err_and c.from_residual-in_err-read_row.result c.from_residual-in_err-read_row.ensures.1 in
    rw (p.1, p.2)
    (refuses-all c.in_err-read_row.field-0.0 (row_of (c.len.result + 1) c.args.shape.now fields) (rows c.args.bytes.now c.args.shape.now)
    (λ said is. refused _ c.args.shape.now _ _ _ _ _ fields said (c.len.result + 1) inv.6 m.2 nth is)
    (rw c.columns.ensures.columns at c.in_err-read_row.ensures))

pub records-smaller : goal.records-smaller
records-smaller c =
    let most = fits _ _ _ _ _ c.records.invariant.6 in
    let good : is_ok c.push.result ≡ true = search rules in
    let items = rw good at c.push.ensures.items in
    let grown : length c.push.new.self.items ≡ length c.records.rows.items + 1 =
    ap length items ∙ length-more c.records.rows.items c.in_ok-read_row.field-0 in
    omega arith

pub records-preserved : goal.records-preserved
records-preserved c =
    let inv = c.records.invariant in
    let fields = fields_of c.read_next.new.fields in
    let s = rw c.if-branch.true at c.in_ok-read_next.ensures.read in
    let m = rows-more (λ (s : Bor (List ℕ)). Some s.now) c.records.reader c.read_next.new.reader fields default_config st.StartRecord
    (strip_bom c.args.bytes.now) inv.4 inv.6.behind inv.3 inv.5 inv.6.reached s in
    let good : is_ok c.push.result ≡ true = search rules in
    let items = rw good at c.push.ensures.items in
    let nth : c.len.result + 1 ≡ length c.records.rows.items + 1 = omega arith in
    let row = rw c.columns.ensures.columns at c.in_ok-read_row.ensures in (
      s.3 ∙ inv.0,
      inl c.in_ok-read_next.ensures.ready,
      c.in_ok-read_next.ensures.flexible,
      s.2 ∙ inv.3,
      m.0,
      m.1,
      step _ c.args.shape.now _ _ _ _ _ _ fields c.in_ok-read_row.field-0 (c.len.result + 1) inv.6 m.2 nth row items,
    )

pub returns : goal.returns
returns c =
    let inv = c.records.invariant in
    let s = rw c.if-branch.false at c.in_ok-read_next.ensures.read in
    finished _ _ _ _ _ inv.6 (rows-end (λ (s : Bor (List ℕ)). Some s.now) c.records.reader c.read_next.new.reader
    (fields_of c.read_next.new.fields) default_config inv.4 inv.3 inv.5 s)
