use Rattle.std.proofs.Common.{◌≡◌, ℕ, ◌-◌, ◌/◌, ◌%◌, get_or, refl, sym, ◌∙◌, ap}
use Rattle.image_layout.specs.Fixed.{descriptor_at}
use Rattle.image_layout.specs.Blocks.{says_small, bitmap_of}
use Rattle.image_rules.specs.BuiltOwners.{is_slot_block, is_head_block}
use Rattle.image_rules.proofs.LiveChecks.{none_inside, slot_live, head_live}
use Rattle.image_rules.proofs.owner_rules.is_live.Goals as goal

pub returns-then-is_inside : goal.returns-then-is_inside
returns-then-is_inside c = none_inside c.args.words.now c.args.place c.args.count (c.args.place / 512) refl (sym c.is_inside.ensures ∙ c.if-is_inside.true)

pub returns-then-says_small : goal.returns-then-says_small
returns-then-says_small c =
    let page : ℕ = c.args.place / 512 in
    let at : c.descriptor_place.result ≡ descriptor_at (c.args.place / 512) = c.descriptor_place.ensures in
    c.is_slot_block.ensures
    ∙ ap (λ (k : ℕ). is_slot_block (bitmap_of c.args.words.now (c.args.place / 512)) k (c.args.place % 512) c.args.count)
    (c.new-class.ensures ∙ ap (λ (p : ℕ). get_or c.args.words.now p 0 - 2) at)
    ∙ slot_live c.args.words.now c.args.place c.args.count (c.args.place / 512) refl c.requires.segments c.requires.in_image (sym c.is_inside.ensures ∙ c.if-is_inside.false)
    (ap (λ (p : ℕ). says_small (get_or c.args.words.now p 0)) (sym at) ∙ sym c.says_small.ensures ∙ c.if-says_small.true)

pub returns : goal.returns
returns c =
    let at : c.descriptor_place.result ≡ descriptor_at (c.args.place / 512) = c.descriptor_place.ensures in
    c.is_head_block.ensures
    ∙ ap (λ (p : ℕ). is_head_block (get_or c.args.words.now p 0) (c.args.place % 512) c.args.count) at
    ∙ head_live c.args.words.now c.args.place c.args.count (c.args.place / 512) refl c.requires.segments c.requires.in_image (sym c.is_inside.ensures ∙ c.if-is_inside.false)
    (ap (λ (p : ℕ). says_small (get_or c.args.words.now p 0)) (sym at) ∙ sym c.says_small.ensures ∙ c.if-says_small.false)
