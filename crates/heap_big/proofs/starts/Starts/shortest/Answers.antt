use Rattle.std.proofs.Common.{◌≡◌, ◌≢◌, ◌+◌, ◌-◌, ◌<◌, ◌≤◌, ◌^◌, ◌/◌, ℕ, List, [], length, get_or, refl, sym, subst, ◌∙◌, ⊎_elim, arith, w64, true, false}
use Rattle.std.specs.Prelude.{Contains}
use Rattle.std.specs.Int.{bit_at, trailing_zeros}
use Rattle.std.proofs.lemmas.List.{get_or_default}
use Rattle.std.proofs.lemmas.Bool.{cases_lt}
use Rattle.heap_big.specs.declared.run.Run.{Run}
use Rattle.heap_big.specs.Starts.{HasRun, IsShortest}
use Rattle.heap_big.proofs.Lengths.{none_longer, lowest_bit, bit_below, set_some, shortest_at, first-contains, AreMarked}
use Rattle.heap_big.proofs.starts.Starts.shortest.Goals as goal

-- the set of a length, as it is read
read : (sets : List (List ℕ)) (at : ℕ) (now : List ℕ) → at < 64 → length sets ≡ 64 → now ≡ get_or sets at now → now ≡ get_or sets at []
read sets at now small size is = is ∙ get_or_default sets at now [] (omega (arith, small, size))

module _ (sets view : List (List ℕ)) (used least longer pages : ℕ) (size : length sets ≡ 64) (are : AreMarked sets used) (fits : used < 2 ^ 64) (is : sets ≡ view)
    (shifted : longer ≡ used / 2 ^ least) (low : pages ≤ least + 1) (high : (n : ℕ) → 0 < n → pages ≤ n → least < n) where
  -- where no bit is left each run is shorter
  shorter : longer ≡ 0 → (run : Run) → HasRun view run → run.pages < pages
  shorter none run there =
      let has : HasRun sets run = subst (λ (l : List (List ℕ)). HasRun l run) (sym is) there in
      let le = none_longer sets used size are fits least (sym shifted ∙ none) run has in
      ⊎_elim
      (λ (less : run.pages < pages). less)
      (λ long. absurd (let more = high run.pages has.some long in omega (arith, more, le)))
      (cases_lt run.pages pages)

  at : ℕ
  at = least + trailing_zeros w64 longer

  bit : longer ≢ 0 → bit_at used (least + trailing_zeros w64 longer) ≡ 1
  bit some = rw shifted ((lowest_bit sets used size are fits least (λ e. some (shifted ∙ e))).0)

  before : longer ≢ 0 → (i : ℕ) → least ≤ i → i < least + trailing_zeros w64 longer → bit_at used i ≡ 0
  before some = rw shifted ((lowest_bit sets used size are fits least (λ e. some (shifted ∙ e))).1)

  at_small : longer ≢ 0 → least + trailing_zeros w64 longer < 64
  at_small some = bit_below sets used size are fits (least + trailing_zeros w64 longer) (bit some)

  -- the set there isn't empty
  set_there : longer ≢ 0 → (now : List ℕ) → now ≡ get_or sets (least + trailing_zeros w64 longer) now → now ≢ []
  set_there some now value none =
      set_some sets used size are fits (least + trailing_zeros w64 longer) (bit some) (sym (read sets (least + trailing_zeros w64 longer) now (at_small some) size value) ∙ none)

  shortest : longer ≢ 0 → (now : List ℕ) → now ≡ get_or sets (least + trailing_zeros w64 longer) now → (first : ℕ) → Contains now first → ((other : ℕ) → Contains now other → first ≤ other)
      → IsShortest view pages (record { first = first; pages = least + trailing_zeros w64 longer + 1 })
  shortest some now value first has least_one =
      let same = read sets (least + trailing_zeros w64 longer) now (at_small some) size value in
      subst (λ (l : List (List ℕ)). IsShortest l pages (record { first = first; pages = least + trailing_zeros w64 longer + 1 })) is
      (shortest_at sets used size are fits pages least (least + trailing_zeros w64 longer) first low high (bit some) (before some) (omega arith)
      (subst (λ (l : List ℕ). Contains l first) same has) (λ other there. least_one other (subst (λ (l : List ℕ). Contains l other) (sym same) there)))

pub returns-then-longer-eq0-clause-none : goal.returns-then-longer-eq0-clause-none
returns-then-longer-eq0-clause-none c = (
  λ none. shorter c.self.inside.sets.items c.args.self.now c.self.inside.used (c.max-least.result - 1) c.in_ok-longer.longer c.args.pages (omega (arith, c.self.invariant.size)) c.self.invariant.used (omega arith) c.self.view_is
      c.in_ok-longer.ensures.1 (omega (arith, c.max-least.ensures)) (λ n some le. omega (arith, c.max-least.ensures, some, le)) c.if-longer-eq0.true,
  λ each. refl,
)

pub index-requires : goal.index-requires
index-requires c =
    let lt = at_small c.self.inside.sets.items c.args.self.now c.self.inside.used (c.max-least.result - 1) c.in_ok-longer.longer c.args.pages (omega (arith, c.self.invariant.size)) c.self.invariant.used (omega arith) c.self.view_is
    c.in_ok-longer.ensures.1 (omega (arith, c.max-least.ensures)) (λ n some le. omega (arith, c.max-least.ensures, some, le)) c.if-longer-eq0.false in
    omega (arith, lt, c.self.invariant.size)

pub returns-in_err-first-clause-none : goal.returns-in_err-first-clause-none
returns-in_err-first-clause-none c =
    absurd (set_there c.self.inside.sets.items c.args.self.now c.self.inside.used (c.max-least.result - 1) c.in_ok-longer.longer c.args.pages (omega (arith, c.self.invariant.size)) c.self.invariant.used (omega arith) c.self.view_is
    c.in_ok-longer.ensures.1 (omega (arith, c.max-least.ensures)) (λ n some le. omega (arith, c.max-least.ensures, some, le))
    c.if-longer-eq0.false c.index.result.now c.index.ensures (c.in_err-first.ensures.none.0 refl))

pub returns-clause-shortest : goal.returns-clause-shortest
returns-clause-shortest c =
    shortest c.self.inside.sets.items c.args.self.now c.self.inside.used (c.max-least.result - 1) c.in_ok-longer.longer c.args.pages (omega (arith, c.self.invariant.size)) c.self.invariant.used (omega arith) c.self.view_is
    c.in_ok-longer.ensures.1 (omega (arith, c.max-least.ensures)) (λ n some le. omega (arith, c.max-least.ensures, some, le))
    c.if-longer-eq0.false c.index.result.now c.index.ensures c.in_ok-first.first (first-contains c.index.result.now c.in_ok-first.ensures.lowest.0 c.in_ok-first.first c.in_ok-first.ensures.lowest.1) c.in_ok-first.ensures.least

pub returns-clause-none : goal.returns-clause-none
returns-clause-none c =
    let one = returns-clause-shortest c in
    (λ none. absurd (let e : true ≡ false = none in (cc)), λ each. absurd (let less = each (record { first = c.in_ok-first.first; pages = c.max-least.result - 1 + trailing_zeros w64 c.in_ok-longer.longer + 1 }) one.is_one in omega (arith, less, one.fits)))
