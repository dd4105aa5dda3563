use Rattle.std.proofs.Common.{◌+◌, ◌*◌, ℕ, [], ◌∷◌, refl, sym, ap}
use Rattle.std.proofs.lemmas.List.{append-nil}
use Rattle.pm_model.specs.Plans.{one_store}
use Rattle.image_layout.specs.Fixed.{descriptor_at}
use Rattle.image_layout.specs.Places.{page_at}
use Rattle.heap_palloc.proofs.Pushed.{pushed-store}
use Rattle.heap_palloc.proofs.parts.push_new_page.Goals as goal

pub returns-clause-left : goal.returns-clause-left
returns-clause-left c =
    let plan = c.args.plan.now.left in
    let page = c.args.page.0 in
    let first = pushed-store plan plan c.push_store.new.self.left [] (512 * c.from.result) 0 (page_at page) 0 (sym (append-nil plan)) c.push_store.ensures.left (ap (λ (n : ℕ). 512 * n) c.from.ensures) refl in
    pushed-store plan c.push_store.new.self.left c.push_store-2.new.self.left (one_store (page_at page) 0 ∷ []) c.descriptor.result.0 (2 + c.from-2.result) (descriptor_at page) (2 + c.args.class) first c.push_store-2.ensures.left
    c.descriptor.ensures (ap (λ (n : ℕ). 2 + n) c.from-2.ensures)
