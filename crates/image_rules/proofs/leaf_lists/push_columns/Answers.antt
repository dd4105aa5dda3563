use Rattle.std.proofs.Common.{◌+◌, ◌≤◌, ℕ, length, sym, subst}
use Rattle.std.specs.Prelude.{All}
use Rattle.std.proofs.lemmas.List.Elements.{All-push}
use Rattle.image_rules.proofs.Gathered.{columns_more}
use Rattle.image_rules.proofs.leaf_lists.push_columns.Goals as goal

pub loop-number-preserved : goal.loop-number-preserved
loop-number-preserved c =
    let words = c.args.words.now in
    let P : ℕ → Type 0 = λ column. column + 40 ≤ length words in
    record {
      columns = columns_more words c.args.block.0 c.loop-number.number c.column_record.result.0 c.args.columns.now.items c.loop-number.columns.items c.push.new.self.items c.column_record.ensures.place c.loop-number.invariant.columns c.in_ok-push.ensures.items;
      within = λ old. subst (All P) (sym c.in_ok-push.ensures.items) (All-push P c.loop-number.columns.items c.column_record.result.0 (c.loop-number.invariant.within old) c.column_record.ensures.within);
    }
