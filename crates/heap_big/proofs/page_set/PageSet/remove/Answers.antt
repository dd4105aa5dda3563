use Rattle.std.proofs.Common.{◌≡◌, ◌/◌, ◌<◌, ℕ, List, sym, subst, arith, length, set}
use Rattle.std.specs.Prelude.{Contains}
use Rattle.heap_big.specs.Pages.{GainsOne, pages_of}
use Rattle.heap_big.proofs.PageSets.{without_page, removed, gone, was_some, contains-within, used_cleared, used_kept}
use Rattle.heap_big.proofs.page_set.PageSet.remove.Goals as goal

has : (words view : List ℕ) (page : ℕ) → pages_of words ≡ view → Contains view page → Contains (pages_of words) page
has words view page is there = subst (λ (l : List ℕ). Contains l page) (sym is) there

at_small : (words view : List ℕ) (page at : ℕ) → pages_of words ≡ view → Contains view page → length words ≡ 128 → at ≡ page / 64 → at < 128
at_small words view page at view_is there size is = omega (arith, (contains-within words page (has words view page view_is there)).0, size, is)

pub bounds-self-inside-at : goal.bounds-self-inside-at
bounds-self-inside-at c = at_small c.self.inside.words c.args.self.now c.args.page c.from-at.result c.self.view_is c.requires c.self.told c.from-at.ensures

pub bounds-self-inside-at-2 : goal.bounds-self-inside-at-2
bounds-self-inside-at-2 c = at_small c.self.inside.words c.args.self.now c.args.page c.from-at.result c.self.view_is c.requires c.self.told c.from-at.ensures

pub overflow_shl-self : goal.overflow_shl-self
overflow_shl-self c = at_small c.self.inside.words c.args.self.now c.args.page c.from-at.result c.self.view_is c.requires c.self.told c.from-at.ensures

pub invariant_of-self : goal.invariant_of-self
invariant_of-self c =
    let at = c.from-at.result in
    let words = c.self.inside.words in
    let small = at_small words c.args.self.now c.args.page at c.self.view_is c.requires c.self.told c.from-at.ensures in
    used_cleared words c.self.inside.used at (without_page words c.args.page at) (omega (arith, small, c.self.told)) small c.self.invariant c.if-left-eq0.true

pub invariant_of-self-else-left-eq0 : goal.invariant_of-self-else-left-eq0
invariant_of-self-else-left-eq0 c =
    let at = c.from-at.result in
    let words = c.self.inside.words in
    let small = at_small words c.args.self.now c.args.page at c.self.view_is c.requires c.self.told c.from-at.ensures in
    used_kept words c.self.inside.used at (without_page words c.args.page at) (omega (arith, small, c.self.told)) small c.self.invariant c.if-left-eq0.false
    (was_some words c.args.page at c.self.told c.from-at.ensures (has words c.args.self.now c.args.page c.self.view_is c.requires))

pub returns-then-left-eq0-clause-loses : goal.returns-then-left-eq0-clause-loses
returns-then-left-eq0-clause-loses c =
    let words = c.self.inside.words in
    let at = c.from-at.result in
    subst (λ (l : List ℕ). GainsOne (pages_of (set words at (without_page words c.args.page at))) c.args.page l) c.self.view_is
    (removed words c.args.page at c.self.told c.from-at.ensures (has words c.args.self.now c.args.page c.self.view_is c.requires))

pub returns-else-left-eq0-clause-loses : goal.returns-else-left-eq0-clause-loses
returns-else-left-eq0-clause-loses c =
    let words = c.self.inside.words in
    let at = c.from-at.result in
    subst (λ (l : List ℕ). GainsOne (pages_of (set words at (without_page words c.args.page at))) c.args.page l) c.self.view_is
    (removed words c.args.page at c.self.told c.from-at.ensures (has words c.args.self.now c.args.page c.self.view_is c.requires))

pub returns-then-left-eq0-clause-gone : goal.returns-then-left-eq0-clause-gone
returns-then-left-eq0-clause-gone c =
    let words = c.self.inside.words in
    let there = contains-within words c.args.page (has words c.args.self.now c.args.page c.self.view_is c.requires) in
    gone words c.args.page c.from-at.result c.self.told c.from-at.ensures (omega (arith, there.0, c.self.told))

pub returns-else-left-eq0-clause-gone : goal.returns-else-left-eq0-clause-gone
returns-else-left-eq0-clause-gone c =
    let words = c.self.inside.words in
    let there = contains-within words c.args.page (has words c.args.self.now c.args.page c.self.view_is c.requires) in
    gone words c.args.page c.from-at.result c.self.told c.from-at.ensures (omega (arith, there.0, c.self.told))
