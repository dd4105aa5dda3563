use Rattle.std.proofs.Common.{◌≡◌, ◌-◌, ◌+◌, ◌*◌, ◌/◌, ◌%◌, ◌<◌, ◌≤◌, ◌∙◌, ℕ, true, List, ap, sym, subst, get_or, length, arith}
use Rattle.image_layout.specs.Places.{is_pointer}
use Rattle.image_layout.specs.Records.{segment_entry_at}
use Rattle.image_layout.specs.Objects.{ready_count, entry_places}
use Rattle.txn_object.proofs.Rule.{named}
use Rattle.txn_object.proofs.Places.{own_place, more_place, length-entry_places}
use Rattle.txn_object.proofs.Walk.{named_next}
use Rattle.txn_object.proofs.segments.entry_place.Goals as goal

segment_below : (words : List ℕ) (object nth : ℕ) → 60 ≤ nth → nth < length (entry_places words object) → (nth - 60) / 255 < ready_count words object
segment_below words object nth le lt = omega (arith, le, lt, length-entry_places words object)

pub returns-then-nth-lt-OWN_ENTRIES : goal.returns-then-nth-lt-OWN_ENTRIES
returns-then-nth-lt-OWN_ENTRIES g c = c.entry_word.ensures ∙ sym (own_place (g.M.Memory.device c.args.mem.now).cached c.args.object c.args.nth c.if-nth-lt-OWN_ENTRIES.true)

pub pointer_to-requires-clause-segment : goal.pointer_to-requires-clause-segment
pointer_to-requires-clause-segment g c =
    let lt = segment_below (g.M.Memory.device c.args.mem.now).cached c.args.object c.args.nth c.if-nth-lt-OWN_ENTRIES.false c.requires.there in omega (arith, lt)

pub named_place-segment-requires-clause-pointer : goal.named_place-segment-requires-clause-pointer
named_place-segment-requires-clause-pointer g c =
    let words : List ℕ = (g.M.Memory.device c.args.mem.now).cached in
    let lt = segment_below words c.args.object c.args.nth c.if-nth-lt-OWN_ENTRIES.false c.requires.there in
    let is = named words c.args.object (c.requires.rule c.if-nth-lt-OWN_ENTRIES.false) ((c.args.nth - 60) / 255) lt in
    subst (λ (at : ℕ). is_pointer words (get_or words at 0) ≡ true) (sym c.pointer_to.ensures.place) is.is_one

pub returns : goal.returns
returns g c =
    let words : List ℕ = (g.M.Memory.device c.args.mem.now).cached in
    let k = (c.args.nth - 60) / 255 in
    let lt = segment_below words c.args.object c.args.nth c.if-nth-lt-OWN_ENTRIES.false c.requires.there in
    let here = named_next words c.args.object ((c.args.nth - 60) / 255) c.pointer_to.result.0 c.named_place-segment.result.0 c.pointer_to.ensures.place c.named_place-segment.ensures.place in
    let at : 60 + 255 * ((c.args.nth - 60) / 255) + (c.args.nth - 60) % 255 ≡ c.args.nth = omega (arith, c.if-nth-lt-OWN_ENTRIES.false) in
    c.segment_entry.ensures ∙ ap (λ (s : ℕ). segment_entry_at s ((c.args.nth - 60) % 255)) here
    ∙ sym (more_place words c.args.object ((c.args.nth - 60) / 255) ((c.args.nth - 60) % 255) lt (omega arith)) ∙ ap (λ (n : ℕ). get_or (entry_places words c.args.object) n 0) at
