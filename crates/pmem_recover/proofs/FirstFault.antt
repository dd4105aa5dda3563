-- An image that keeps the rules which stand keeps those on which the steps of opening rely.
use Rattle.std.proofs.Common.{◌≡◌, ℕ, List, arith}
use Rattle.std.specs.Prelude.{None}
use Rattle.image_layout.specs.Checks.{first_fault}
use Rattle.image_layout.specs.HeapRules.{reserved_rule}
use Rattle.image_layout.proofs.Faults.{keeps_all}
use Rattle.pmem_recover.specs.EntryRules.{entry_rules}
use Rattle.shown_state.specs.LaneRules.{KeepsLaneRules}
use Rattle.pmem_recover.specs.Undo.{KeepsUndoRules}

pub entry-lanes : (words : List ℕ) → first_fault entry_rules words ≡ None → KeepsLaneRules words
entry-lanes words none =
    let kept = keeps_all entry_rules words none in
    record {
      heap = record {
        reserved = kept 4 (record { number = 0; rule = reserved_rule }) (omega arith);
        descriptors = kept 5 (record { number = 0; rule = reserved_rule }) (omega arith);
        bitmaps = kept 6 (record { number = 0; rule = reserved_rule }) (omega arith);
      };
      lanes = kept 7 (record { number = 0; rule = reserved_rule }) (omega arith);
    }

pub entry-undo : (words : List ℕ) → first_fault entry_rules words ≡ None → KeepsUndoRules words
entry-undo words none =
    let kept = keeps_all entry_rules words none in
    record {
      table_count = kept 3 (record { number = 0; rule = reserved_rule }) (omega arith);
      table_slots = kept 8 (record { number = 0; rule = reserved_rule }) (omega arith);
      arrays = kept 9 (record { number = 0; rule = reserved_rule }) (omega arith);
      objects = kept 12 (record { number = 0; rule = reserved_rule }) (omega arith);
      entries = kept 13 (record { number = 0; rule = reserved_rule }) (omega arith);
    }
