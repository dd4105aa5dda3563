use Rattle.std.proofs.Common.{◌≡◌, ℕ, true, get_or, sym, subst}
use Rattle.image_layout.specs.Places.{is_pointer_to}
use Rattle.image_rules.proofs.TableChecks.{pointed_some}
use Rattle.image_rules.proofs.EntryChecks.{segment_pointed}
use Rattle.image_rules.proofs.entry_rules.next_segment.Goals as goal

pub unwrap-requires : goal.unwrap-requires
unwrap-requires c =
    pointed_some c.pointed_words.result _ c.pointed_words.ensures.none
    (subst (λ (p : ℕ). is_pointer_to c.args.words.now 256 (get_or c.args.words.now p 0) ≡ true) (sym c.requires.pointer)
    (segment_pointed c.args.words.now c.requires.rule c.args.object c.args.number c.requires.object c.requires.ready))
