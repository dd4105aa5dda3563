use Rattle.std.proofs.Common.{◌≡◌, ℕ, ◌-◌, ◌*◌, Bool, List, [], ◌∷◌, map, get_or, sym, ◌∙◌, ap}
use Rattle.image_layout.specs.Fixed.{descriptor_at}
use Rattle.image_layout.specs.Blocks.{Block, says_small, says_big, bitmap_of}
use Rattle.image_layout.specs.Checks.{check, first_failing}
use Rattle.image_rules.specs.BuiltOwners.{kept_check, slot_blocks}
use Rattle.image_rules.proofs.Firsts.{lone}
use Rattle.image_rules.proofs.OwnedChecks.{blocks_small, blocks_free, blocks_head}
use Rattle.image_rules.proofs.owner_rules.page_fault.Goals as goal

pub returns-then-says_small : goal.returns-then-says_small
returns-then-says_small c =
    let at : c.descriptor_place.result ≡ descriptor_at c.args.page = c.descriptor_place.ensures in
    c.slot_fault.ensures
    ∙ ap (λ (k : ℕ). first_failing (map (kept_check c.args.owned.now) (slot_blocks c.args.page k (bitmap_of c.args.words.now c.args.page)))) (c.new-class.ensures ∙ ap (λ (p : ℕ). get_or c.args.words.now p 0 - 2) at)
    ∙ ap (λ (bs : List Block). first_failing (map (kept_check c.args.owned.now) bs))
    (sym (blocks_small c.args.words.now c.args.page c.requires.outside (ap (λ (p : ℕ). says_small (get_or c.args.words.now p 0)) (sym at) ∙ sym c.says_small.ensures ∙ c.if-says_small.true)))

pub returns-then-not-says_big : goal.returns-then-not-says_big
returns-then-not-says_big c =
    let at : c.descriptor_place.result ≡ descriptor_at c.args.page = c.descriptor_place.ensures in
    ap (λ (bs : List Block). first_failing (map (kept_check c.args.owned.now) bs))
    (sym (blocks_free c.args.words.now c.args.page c.requires.outside (ap (λ (p : ℕ). says_small (get_or c.args.words.now p 0)) (sym at) ∙ sym c.says_small.ensures ∙ c.if-says_small.false)
    (ap (λ (p : ℕ). says_big (get_or c.args.words.now p 0)) (sym at) ∙ sym c.says_big.ensures ∙ c.if-not-says_big.true)))

pub returns : goal.returns
returns c =
    let at : c.descriptor_place.result ≡ descriptor_at c.args.page = c.descriptor_place.ensures in
    c.then_some.ensures
    ∙ lone (512 * c.args.page) c.is_owned.result
    ∙ ap (λ (b : Bool). first_failing (check (512 * c.args.page) b ∷ [])) c.is_owned.ensures
    ∙ ap (λ (bs : List Block). first_failing (map (kept_check c.args.owned.now) bs))
    (sym (blocks_head c.args.words.now c.args.page c.requires.outside (ap (λ (p : ℕ). says_small (get_or c.args.words.now p 0)) (sym at) ∙ sym c.says_small.ensures ∙ c.if-says_small.false)
    (ap (λ (p : ℕ). says_big (get_or c.args.words.now p 0)) (sym at) ∙ sym c.says_big.ensures ∙ c.if-not-says_big.false)))
