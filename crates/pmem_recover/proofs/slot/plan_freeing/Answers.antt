use Rattle.std.proofs.Common.{◌≡◌, ℕ, inl, inr, [], ◌∷◌, get_or, sym, ◌∙◌, ap, arith}
use Rattle.std.proofs.lemmas.Bool.{eq-eqb, eqb-true, eqb-false, not-true, not-false, both_ways}
use Rattle.image_layout.specs.declared.place.Place.{Place}
use Rattle.pmem_recover.specs.declared.change.WordChange.{WordChange}
use Rattle.image_layout.specs.Fixed.{descriptor_at, lane_op_at, lane_dest_at, lane_block_at}
use Rattle.image_layout.specs.Pointer.{pointer_word}
use Rattle.image_layout.specs.Places.{page_of, place_in}
use Rattle.shown_state.specs.Mending.{free_block}
use Rattle.pmem_recover.specs.Lanes.{release}
use Rattle.pmem_recover.proofs.Freeing.{all_of, parts_of_first, first-six, first-seven, freeing-planned, all-made, change-is}
use Rattle.pmem_recover.proofs.slot.plan_freeing.Given as given
use Rattle.pmem_recover.proofs.slot.plan_freeing.Goals as goal
use Rattle.pmem_recover.proofs.slot.plan_freeing.Goals.{then-block-eq0, else-block-eq0, then-is_page_left, else-is_page_left}

parts_are : (g : given.Over) (c : goal.In_ok-push_parts g) → free_block (g.M.Memory.device c.args.mem.now).cached c.args.at.0 ≡ parts_of_first c.if-is_page_left.count (all_of (g.M.Memory.device c.args.mem.now).cached c.args.at.0)
parts_are g c =
    let words = (g.M.Memory.device c.args.mem.now).cached in
    let block_is = c.named_place-block.ensures.place in
    let value_is : c.release-released.result.value ≡ (release words (place_in (get_or words c.args.at.0 0))).value = ap (λ (r : WordChange). r.value) c.release-released.ensures.change ∙ ap (λ (b : ℕ). (release words b).value) block_is in
    elim c.if-is_page_left.branch [
      | then-is_page_left left ↦ elim c.if-block-eq0.branch [
        | then-block-eq0 w ↦ first-six words c.args.at.0 c.requires.pointer c.if-is_page_left.count left.count-is (inl (omega (arith, w.if-block-eq0.true, block_is)))
        | else-block-eq0 w ↦ first-six words c.args.at.0 c.requires.pointer c.if-is_page_left.count left.count-is
            (inr ((λ e. w.if-block-eq0.false (omega (arith, e, block_is))), (λ e. eqb-false _ 0 (not-true _ (sym w.is_page_left-is ∙ left.if-is_page_left.true)) (value_is ∙ e))))
      ]
      | else-is_page_left left ↦ elim c.if-block-eq0.branch [
        | then-block-eq0 w ↦ absurd (both_ways c.if-block-eq0.is_page_left left.if-is_page_left.false (w.is_page_left-is ∙ eq-eqb _ 0 w.if-block-eq0.true))
        | else-block-eq0 w ↦ first-seven words c.args.at.0 c.requires.pointer c.if-is_page_left.count left.count-is (λ e. w.if-block-eq0.false (omega (arith, e, block_is))) (sym value_is ∙ eqb-true _ 0 (not-false _ (sym w.is_page_left-is ∙ left.if-is_page_left.false)))
      ]
    ]

pub returns : goal.returns
returns g c =
    let words = (g.M.Memory.device c.args.mem.now).cached in
    freeing-planned words c.args.at.0 c.requires.pointer (c.store.result ∷ c.store-2.result ∷ c.store-3.result ∷ c.store-4.result ∷ c.release-released.result ∷ c.store-5.result ∷ c.store-6.result ∷ [])
    c.if-is_page_left.count c.in_ok-plan.plan.left c.push_parts.new.plan.left
    (all-made words c.args.at.0 c.named_place-block.result.0 c.store.result c.store-2.result c.store-3.result c.store-4.result c.release-released.result c.store-5.result c.store-6.result c.named_place-block.ensures.place
    (change-is c.store.result (lane_dest_at 0) (pointer_word c.args.at.0) (ap (λ (p : Place). p.0) c.store.ensures.place ∙ c.lane_dest.ensures) (c.store.ensures.value ∙ c.word.ensures ∙ c.of.ensures))
    (change-is c.store-2.result (lane_block_at 0) (get_or words c.args.at.0 0) (ap (λ (p : Place). p.0) c.store-2.ensures.place ∙ c.lane_block.ensures) (c.store-2.ensures.value ∙ c.load.ensures))
    (change-is c.store-3.result (lane_op_at 0) 2 (ap (λ (p : Place). p.0) c.store-3.ensures.place ∙ c.lane_op.ensures) c.store-3.ensures.value)
    (change-is c.store-4.result c.args.at.0 0 (ap (λ (p : Place). p.0) c.store-4.ensures.place) c.store-4.ensures.value)
    c.release-released.ensures.change
    (change-is c.store-5.result (lane_op_at 0) 0 (ap (λ (p : Place). p.0) c.store-5.ensures.place ∙ c.lane_op-2.ensures) c.store-5.ensures.value)
    (change-is c.store-6.result (descriptor_at (page_of c.named_place-block.result.0)) 0 (ap (λ (p : Place). p.0) c.store-6.ensures.place ∙ c.descriptor.ensures) c.store-6.ensures.value))
    (parts_are g c) c.in_ok-plan.ensures.empty c.in_ok-push_parts.ensures
