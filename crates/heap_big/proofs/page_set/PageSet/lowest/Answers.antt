use Rattle.std.proofs.Common.{◌≡◌, ◌≢◌, ◌+◌, ◌*◌, ◌<◌, ◌≤◌, ◌^◌, ℕ, List, ◌∷◌, sym, subst, ap, arith, ◌∙◌, length, get_or, refl, ⊎_elim, false, true, w64}
use Rattle.std.proofs.lemmas.Bool.{cases_lt}
use Rattle.std.proofs.lemmas.List.{get_or_past}
use Rattle.std.specs.Int.{bit_at, trailing_zeros, w128}
use Rattle.std.proofs.lemmas.Nat.Bits.{bit_at-trailing_zeros, bit_at-zero}
use Rattle.std.specs.Prelude.{Contains}
use Rattle.heap_big.specs.Pages.{pages_of, IsRising}
use Rattle.heap_big.proofs.Rising.{rising-least}
use Rattle.heap_big.proofs.PageSets.{AreUsed, pages_of-none, pages_of-lowest, pages_of-rising}
use Rattle.heap_big.proofs.page_set.PageSet.lowest.Goals as goal

-- where no bit is set each word is 0
empty : (words : List ℕ) (used : ℕ) → length words ≡ 128 → AreUsed words used → used ≡ 0 → (word : ℕ) → get_or words word 0 ≡ 0
empty words used size are none word = ⊎_elim
    (λ lt. (are word lt).0 (ap (λ (n : ℕ). bit_at n word) none ∙ bit_at-zero word))
    (λ past. get_or_past words word 0 (omega (arith, size, past)))
    (cases_lt word 128)

pub returns-then-self-eq0-clause-none : goal.returns-then-self-eq0-clause-none
returns-then-self-eq0-clause-none c =
    let words = c.self.inside.words in
    (λ none. sym c.self.view_is ∙ pages_of-none words (λ word. empty words c.self.inside.used c.self.told c.self.invariant c.if-self-eq0.true word), λ is. refl)

-- the lowest page, at the lowest bit of the lowest word that isn't 0
found : (words view : List ℕ) (used : ℕ) → length words ≡ 128 → AreUsed words used → pages_of words ≡ view → used ≢ 0 → used < 2 ^ 128 → get_or words (trailing_zeros w128 used) 0 < 2 ^ 64
    → (rest : List ℕ) × (view ≡ (64 * trailing_zeros w128 used + trailing_zeros w64 (get_or words (trailing_zeros w128 used) 0)) ∷ rest)
found words view used size are is some fits small =
    let high = bit_at-trailing_zeros w128 used (omega (arith, some)) fits in
    let at = trailing_zeros w128 used in
    let word = get_or words at 0 in
    let there : word ≢ 0 = λ none. let bit = (are at high.0).1 none in omega (arith, bit, high.1) in
    let low = bit_at-trailing_zeros w64 word (omega (arith, there)) small in
    subst (λ (l : List ℕ). (rest : List ℕ) × (l ≡ (64 * at + trailing_zeros w64 word) ∷ rest)) is
    (pages_of-lowest words at (trailing_zeros w64 word) (omega (arith, high.0, size)) low.0 low.1 low.2
    (λ before lt. (are before (omega (arith, lt, high.0))).0 (high.2 before lt)))

-- the first of rising numbers is the least
least-first : (page : ℕ) (rest : List ℕ) (other : ℕ) → IsRising 0 (page ∷ rest) 8192 → Contains (page ∷ rest) other → page ≤ other
least-first page rest other up has = rising-least page (page ∷ rest) 8192 other (omega arith, up.1) has

pub returns-clause-lowest : goal.returns-clause-lowest
returns-clause-lowest c = found c.self.inside.words c.args.self.now c.self.inside.used c.self.told c.self.invariant c.self.view_is c.if-self-eq0.false (omega arith) (omega arith)

pub returns-clause-none : goal.returns-clause-none
returns-clause-none c = (λ none. absurd (let e : true ≡ false = none in (cc)), λ none. absurd (let some = (returns-clause-lowest c).1 in let e = sym none ∙ some in (cc)))

pub returns-clause-within : goal.returns-clause-within
returns-clause-within c =
    let high = bit_at-trailing_zeros w128 c.self.inside.used (omega arith) (omega arith) in
    let word = get_or c.self.inside.words (trailing_zeros w128 c.self.inside.used) 0 in
    let there : word ≢ 0 = λ none. let bit = (c.self.invariant (trailing_zeros w128 c.self.inside.used) high.0).1 none in omega (arith, bit, high.1) in
    let low = bit_at-trailing_zeros w64 word (omega (arith, there)) (omega arith) in
    omega (arith, high.0, low.0)

pub returns-clause-least : goal.returns-clause-least
returns-clause-least c =
    let first = returns-clause-lowest c in
    let up = subst (λ (l : List ℕ). IsRising 0 l 8192) (c.self.view_is ∙ first.1) (pages_of-rising c.self.inside.words c.self.told) in
    λ other has. least-first _ first.0 other up (subst (λ (l : List ℕ). Contains l other) first.1 has)
