use Rattle.std.proofs.Common.{◌<◌, ℕ, List, subst, arith, ◌∙◌, length, set}
use Rattle.std.specs.Prelude.{Contains}
use Rattle.std.proofs.lemmas.List.{length-set}
use Rattle.heap_big.specs.Pages.{GainsOne, pages_of}
use Rattle.heap_big.proofs.PageSets.{with_page, with_page-some, inserted, pages_of-rising, used_set}
use Rattle.heap_big.proofs.page_set.PageSet.insert.Goals as goal

pub invariant_of-self : goal.invariant_of-self
invariant_of-self c =
    let at = c.from-at.result in
    let words = c.self.inside.words in
    let small : at < 128 = omega (arith, c.from-at.ensures, c.requires.within) in
    let within : at < length words = omega (arith, small, c.self.told) in
    used_set words c.self.inside.used at (with_page words c.args.page at) within small c.self.invariant (with_page-some words c.args.page at c.self.told c.from-at.ensures)

pub returns-clause-gains : goal.returns-clause-gains
returns-clause-gains c =
    let words = c.self.inside.words in
    let page = c.args.page in
    let new : Contains (pages_of words) page → ⊥ = λ has. c.requires.new (subst (λ (l : List ℕ). Contains l page) c.self.view_is has) in
    subst (λ (l : List ℕ). GainsOne l page (pages_of (set words c.from-at.result (with_page words page c.from-at.result)))) c.self.view_is (inserted words page c.from-at.result c.self.told c.from-at.ensures c.requires.within new)

pub returns-clause-rising : goal.returns-clause-rising
returns-clause-rising c =
    let words = c.self.inside.words in
    pages_of-rising (set words c.from-at.result (with_page words c.args.page c.from-at.result)) (length-set words c.from-at.result (with_page words c.args.page c.from-at.result) ∙ c.self.told)
