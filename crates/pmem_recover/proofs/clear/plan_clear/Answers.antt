use Rattle.std.proofs.Common.{◌≡◌, List, [], ◌∷◌, ◌++◌, map, ◌∙◌, ap, arith}
use Rattle.image_layout.specs.declared.place.Place.{Place}
use Rattle.image_layout.specs.Fixed.{commit_word_at}
use Rattle.image_layout.specs.Objects.{entry_places}
use Rattle.pm_model.specs.Plans.{plan_of, unless_empty}
use Rattle.pm_model.specs.Needed.{needed_stores}
use Rattle.pmem_recover.specs.declared.change.WordChange.{WordChange}
use Rattle.pmem_recover.specs.Changes.{change, change_part}
use Rattle.pmem_recover.proofs.Clearing.{clear-planned, clear-within}
use Rattle.pmem_recover.proofs.clear.plan_clear.Goals as goal

pub push_part-requires-clause-in_image : goal.push_part-requires-clause-in_image
push_part-requires-clause-in_image g c =
    let words = (g.M.Memory.device c.args.mem.now).cached in
    let at : c.commit_word.result.0 ≡ commit_word_at c.args.object = c.commit_word.ensures in
    clear-within words c.in_ok-filled.filled.items (entry_places words c.args.object) c.commit_word.result.0 c.in_ok-part.part.items c.deref-2.result.now c.in_ok-filled.ensures.places
    (omega (arith, at, c.requires.object, (g.met.M.Memory.whole c.args.mem.now).one_or_more))
    (c.in_ok-part.ensures ∙ ap (λ (places : List Place). map (λ at. change at.0 0) places ++ change c.commit_word.result.0 0 ∷ []) c.deref.ensures.value) c.deref-2.ensures.value

pub returns : goal.returns
returns g c =
    let words = (g.M.Memory.device c.args.mem.now).cached in
    clear-planned words c.args.object c.commit_word.result.0 c.in_ok-filled.filled.items c.in_ok-part.part.items c.in_ok-plan.plan.left c.push_part.new.plan.left c.commit_word.ensures c.in_ok-filled.ensures.places
    (c.in_ok-part.ensures ∙ ap (λ (places : List Place). map (λ at. change at.0 0) places ++ change c.commit_word.result.0 0 ∷ []) c.deref.ensures.value) c.in_ok-plan.ensures.empty
    (c.in_ok-push_part.ensures.left ∙ ap (λ (cs : List WordChange). c.in_ok-plan.plan.left ++ plan_of (unless_empty (needed_stores words (change_part cs)))) c.deref-2.ensures.value)
