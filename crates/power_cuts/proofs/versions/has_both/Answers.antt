use Rattle.std.proofs.Common.{◌≡◌, ℕ, List, sym, ◌∙◌, subst}
use Rattle.std.specs.Prelude.{None}
use Rattle.image_layout.specs.Checks.{Keeps, first_failing, first_fault}
use Rattle.image_layout.specs.EntryRules.{table_slot_rule}
use Rattle.image_layout.specs.SoundRules.{distinct_name_rule}
use Rattle.pmem_recover.specs.EntryRules.{entry_rules}
use Rattle.power_cuts.proofs.Kept.{keeps_named_tables, keeps_table_slots}
use Rattle.power_cuts.proofs.versions.has_both.Goals as goal

pub distinct_name_fault-requires-clause-slots : goal.distinct_name_fault-requires-clause-slots
distinct_name_fault-requires-clause-slots g c =
    let P : List ℕ → Type 0 = λ words. Keeps words table_slot_rule in
    subst P (c.deref.ensures.value ∙ sym c.deref-in-Ok.ensures.value) (keeps_table_slots c.deref.result.now c.in-Ok.ensures.sound)

pub shows_both-requires : goal.shows_both-requires
shows_both-requires g c =
    let sound = c.in-Ok.ensures.sound in
    let Sound : List ℕ → Type 0 = λ words. first_fault entry_rules words ≡ None in
    let Distinct : List ℕ → Type 0 = λ words. first_failing (distinct_name_rule words) ≡ None in
    keeps_named_tables (g.M.Memory.device c.args.memory.now).cached (subst Sound (c.deref.ensures.value ∙ c.in_ok-words.ensures.words) sound) (subst Distinct (c.deref-in-Ok.ensures.value ∙ c.in_ok-words.ensures.words) (sym c.in-None.ensures))
