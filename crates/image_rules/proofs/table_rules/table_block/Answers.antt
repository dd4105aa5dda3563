use Rattle.std.proofs.Common.{◌≡◌, ℕ, true, get_or, sym, ◌∙◌, ap, subst}
use Rattle.image_layout.specs.Places.{place_in}
use Rattle.image_layout.specs.EntryRules.{is_table_pointer}
use Rattle.image_rules.specs.Parts.{IsTableBlock}
use Rattle.image_layout.proofs.TableSlots.{slot_pointer, pointer_parts}
use Rattle.image_rules.proofs.TableChecks.{is_block, pointed_some}
use Rattle.image_rules.proofs.table_rules.table_block.Goals as goal

pub unwrap-requires : goal.unwrap-requires
unwrap-requires c =
    pointed_some c.pointed_place.result _ c.pointed_place.ensures.none
    (pointer_parts c.args.words.now _
    (subst (λ (p : ℕ). is_table_pointer c.args.words.now (get_or c.args.words.now p 0) ≡ true) (sym c.table_slot.ensures)
    (slot_pointer c.args.words.now c.requires.rule c.args.table c.requires.table c.requires.published))).pointer

pub returns-clause-block : goal.returns-clause-block
returns-clause-block c =
    let place = rw c.unwrap.ensures at c.pointed_place.ensures.place in
    subst (IsTableBlock c.args.words.now) (sym (place ∙ ap (λ (p : ℕ). place_in (get_or c.args.words.now p 0)) c.table_slot.ensures))
    (is_block c.args.words.now c.requires.rule c.args.table c.requires.table c.requires.published c.requires.one_or_more c.requires.segments)
