use Rattle.std.proofs.Common.{◌≡◌, ℕ, ◌≤◌, List, get_or, sym, subst, arith}
use Rattle.image_layout.specs.Checks.{Keeps}
use Rattle.image_layout.specs.EntryRules.{table_count_rule}
use Rattle.image_layout.proofs.TableSlots.{few_tables}
use Rattle.image_rules.proofs.table_rules.published_tables.Goals as goal

-- the word of the table count
few : (words : List ℕ) (at : ℕ) → at ≡ 515 → Keeps words table_count_rule → get_or words at 0 ≤ 32
few words at is keeps = subst (λ (p : ℕ). get_or words p 0 ≤ 32) (sym is) (few_tables words keeps)

pub overflow_cast-result-2 : goal.overflow_cast-result-2
overflow_cast-result-2 c = let most = few c.args.words.now c.table_count.result.0 c.table_count.ensures c.requires.rule in omega arith

pub returns-clause-within : goal.returns-clause-within
returns-clause-within c = few c.args.words.now c.table_count.result.0 c.table_count.ensures c.requires.rule
