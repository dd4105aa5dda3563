-- A creation holds what its change says.
use Rattle.std.proofs.Common.{◌≡◌, ℕ, ◌+◌, ◌%◌, ◌<◌, ◌≤◌, List, [], ◌∷◌, ◌++◌, get_or, sym, ◌∙◌, ap, subst, arith}
use Rattle.pm_model.specs.Changes.{HoldsOnWords}
use Rattle.pm_model.specs.Plans.{Part}
use Rattle.image_layout.specs.Fixed.{table_slot_at}
use Rattle.image_layout.specs.Tables.{table_count}
use Rattle.heap_palloc.specs.Choice.{IsThrough, choice_parts}
use Rattle.heap_palloc.proofs.Rereading.{choice_stable}
use Rattle.shown_state.specs.LogicalState.{logical_state}
use Rattle.catalog.specs.Changes.{SameCreationRead, creation, IsCreationOn}
use Rattle.catalog.specs.Creation.{Creation, new_block, table_record, publishing_parts, creation_parts}
use Rattle.catalog.specs.Entries.{HasNames, published_tables}
use Rattle.catalog.specs.Shown.{MayCreateOn, IsUncreated, IsCreated, new_table, shown_table}
use Rattle.catalog.proofs.Published.{tables_before, tables_after}
use Rattle.catalog.proofs.ShownTables.{shown_before, shown_after}
use Rattle.catalog.proofs.Surviving.{creation_plays, creation_gains, creation_cuts, creation_ended}

creation_stable : (c : Creation) (old new : List ℕ) → SameCreationRead c old new → MayCreateOn old c → MayCreateOn new c × (creation_parts new c ≡ creation_parts old c)
creation_stable c old new same on =
    let stable = choice_stable c.choice old new same.choice on.may.may in
    let count = same.count in (
      record {
        may = record {
          count = let few = on.may.count in omega (arith, count, few);
          through = subst (λ (n : ℕ). IsThrough c.lane (table_slot_at n) c.choice) (sym count) on.may.through;
          may = stable.0;
          room = on.may.room;
        };
        rules = same.rules;
        segments = ap (λ (n : ℕ). n % 32768) same.size ∙ on.segments;
        one_or_more = subst (λ (n : ℕ). 32768 ≤ n) (sym same.size) on.one_or_more;
        idle = same.op ∙ on.idle;
        next = subst (λ (n : ℕ). n + 1 < 32 → get_or new (table_slot_at (n + 1)) 0 ≡ 0) (sym count) (λ lt. same.next ∙ on.next lt);
      },
      ap (λ (parts : List Part). parts ++ publishing_parts (new_block c) (table_record c.name c.columns) (table_count new)) stable.1
          ∙ ap (λ (n : ℕ). choice_parts old c.choice ++ publishing_parts (new_block c) (table_record c.name c.columns) n) count,
    )

pub creation_holds : (c : Creation) → HoldsOnWords (creation c)
creation_holds c = record {
  plan = λ base on. creation_plays base c on;
  cuts = λ base on. creation_cuts base c on;
  end = λ base on. record { created = (creation_ended base c on).0; gains = creation_gains base c on; stays = (creation_ended base c on).1 };
  stable = λ old new same on. creation_stable c old new same on;
}

-- ── the tables that the words show ──

module _ (base words : List ℕ) (c : Creation) (is : IsCreationOn base c) where
  pub published_before : IsUncreated base c words → published_tables words ≡ published_tables base
  published_before before = tables_before base c words is.may is.rules is.owners before

  pub published_after : HasNames c.name c.columns → IsCreated base c words → published_tables words ≡ published_tables base ++ new_table c ∷ []
  published_after named after = tables_after base c words is.may named is.rules is.owners after

  pub tables_shown_before : IsUncreated base c words → (logical_state words).tables ≡ (logical_state base).tables
  tables_shown_before before = shown_before base c words is.may is.rules is.owners before

  pub tables_shown_after : HasNames c.name c.columns → IsCreated base c words → (logical_state words).tables ≡ (logical_state base).tables ++ shown_table c ∷ []
  tables_shown_after named after = shown_after base c words is.may named is.rules is.owners after
