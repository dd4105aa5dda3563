use Rattle.std.proofs.Common.{◌≡◌, ◌+◌, ◌*◌, ◌++◌, ◌<◌, ℕ, IsTrue, get_or, length, take}
use Rattle.mv_model.specs.declared.shape.Column.{Column}
use Rattle.mv_model.specs.Name.{is_name}
use Rattle.std.specs.List.{flat_map}
use Rattle.shown_state.specs.Mending.{fill_from}
use Rattle.catalog.specs.Creation.{column_record, head_record}
use Rattle.catalog.proofs.words.push_table.Given as goal

abbrev pub invariant-loop-number : goal.invariant-loop-number
invariant-loop-number l = record {
  name : IsTrue (is_name l.name);
  names : (k : ℕ) (other : Column) → k < l.number → k < length l.columns → IsTrue (is_name (get_or l.columns k other).name);
  left : l.plan.left ≡ l.fn.plan.left ++ fill_from l.block.0 (head_record l.name (length l.columns) ++ flat_map column_record (take l.number l.columns));
  spare : l.plan.spare + (40 + 40 * l.number) ≡ l.fn.plan.spare;
}
