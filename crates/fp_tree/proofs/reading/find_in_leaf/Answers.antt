use Rattle.std.proofs.Common.{◌≡◌, ◌∙◌, ℕ, ◌+◌, List, get_or, sym, ap, subst, arith, w64}
use Rattle.std.specs.Prelude.{IsTrue}
use Rattle.std.specs.Int.{trailing_zeros}
use Rattle.std.proofs.lemmas.Nat.Bits.{bit_at-trailing_zeros}
use Rattle.image_layout.specs.Records.{code_at, key_at}
use Rattle.fp_tree.specs.Standing.{is_key}
use Rattle.fp_tree.proofs.Search.{begins, compared, fewer_left, found_here, goes_on, marked_slot, not_here, some_left, used_bit}
use Rattle.fp_tree.proofs.reading.find_in_leaf.Goals as goal

pub loop-left-init : goal.loop-left-init
loop-left-init g c =
    begins (g.M.Memory.device c.args.mem.now).cached c.first_words.result c.args.leaf.0 c.args.probe.now c.fingerprint.result c.matches-left.result c.args.steps.now c.first_words.ensures c.fingerprint.ensures c.matches-left.ensures

pub load-requires : goal.load-requires
load-requires g c =
    let left : ℕ = c.loop-left.left in
    let fits = c.loop-left.invariant.fits in
    let bit = (bit_at-trailing_zeros w64 left (omega (arith, c.loop-left-test.true)) (omega (arith, fits))).1 in
    let lt = marked_slot left (trailing_zeros w64 left) fits bit in
    omega (arith, lt, c.key_place-at.ensures, c.requires.within)

pub overflow_add-at : goal.overflow_add-at
overflow_add-at g c =
    let left : ℕ = c.loop-left.left in
    let fits = c.loop-left.invariant.fits in
    let bit = (bit_at-trailing_zeros w64 left (omega (arith, c.loop-left-test.true)) (omega (arith, fits))).1 in
    let lt = marked_slot left (trailing_zeros w64 left) fits bit in
    let most = (g.met.M.Memory.whole c.args.mem.now).most in
    omega (arith, lt, most, c.key_place-at.ensures, c.requires.within)

pub load-requires-then-is_eq : goal.load-requires-then-is_eq
load-requires-then-is_eq g c =
    let left : ℕ = c.loop-left.left in
    let fits = c.loop-left.invariant.fits in
    let bit = (bit_at-trailing_zeros w64 left (omega (arith, c.loop-left-test.true)) (omega (arith, fits))).1 in
    let lt = marked_slot left (trailing_zeros w64 left) fits bit in
    omega (arith, lt, c.key_place-at.ensures, c.requires.within)

pub overflow_cast-result : goal.overflow_cast-result
overflow_cast-result g c =
    let words : List ℕ = (g.M.Memory.device c.args.mem.now).cached in
    let left : ℕ = c.loop-left.left in
    let slot : ℕ = trailing_zeros w64 left in
    let fits = c.loop-left.invariant.fits in
    let bit = (bit_at-trailing_zeros w64 left (omega (arith, c.loop-left-test.true)) (omega (arith, fits))).1 in
    let lt = marked_slot left slot fits bit in
    let used = used_bit words c.args.leaf.0 c.args.probe.now c.args.steps.now left slot c.loop-left.steps bit c.loop-left.invariant in
    let place : c.key_place-at.result.0 + 1 ≡ code_at c.args.leaf.0 slot = omega (arith, c.key_place-at.ensures) in
    let code = c.requires.sound.codes slot lt used in
    let is = c.load-then-is_eq.ensures ∙ ap (λ (w : ℕ). get_or words w 0) place in
    omega (arith, is, code)

pub returns-then-is_eq-clause-found : goal.returns-then-is_eq-clause-found
returns-then-is_eq-clause-found g c =
    let words : List ℕ = (g.M.Memory.device c.args.mem.now).cached in
    let left : ℕ = c.loop-left.left in
    let slot : ℕ = trailing_zeros w64 left in
    let fits = c.loop-left.invariant.fits in
    let bit = (bit_at-trailing_zeros w64 left (omega (arith, c.loop-left-test.true)) (omega (arith, fits))).1 in
    let place : c.key_place-at.result.0 + 1 ≡ code_at c.args.leaf.0 slot = omega (arith, c.key_place-at.ensures) in
    let key : c.load.result ≡ get_or words (key_at c.args.leaf.0 slot) 0 = c.load.ensures ∙ ap (λ (w : ℕ). get_or words w 0) c.key_place-at.ensures in
    found_here words c.args.leaf.0 c.args.probe.now c.args.steps.now left slot c.loop-left.steps c.load-then-is_eq.result bit
    (subst (λ (k : ℕ). IsTrue (is_key words c.args.probe.now k)) key (compared words c.args.probe.now c.load.result c.compare.result c.compare.ensures.below c.compare.ensures.above ∙ sym c.is_eq.ensures ∙ c.if-is_eq.true))
    (c.load-then-is_eq.ensures ∙ ap (λ (w : ℕ). get_or words w 0) place) c.loop-left.invariant

pub returns-then-is_eq-clause-steps : goal.returns-then-is_eq-clause-steps
returns-then-is_eq-clause-steps g c =
    let words : List ℕ = (g.M.Memory.device c.args.mem.now).cached in
    let left : ℕ = c.loop-left.left in
    let fits = c.loop-left.invariant.fits in
    let bit = (bit_at-trailing_zeros w64 left (omega (arith, c.loop-left-test.true)) (omega (arith, fits))).1 in
    some_left words c.args.leaf.0 c.args.probe.now c.args.steps.now left (trailing_zeros w64 left) c.loop-left.steps c.compare.new.steps bit c.compare.ensures.step c.loop-left.invariant

pub without-left-requires : goal.without-left-requires
without-left-requires g c =
    let left : ℕ = c.loop-left.left in
    let fits = c.loop-left.invariant.fits in
    let bit = (bit_at-trailing_zeros w64 left (omega (arith, c.loop-left-test.true)) (omega (arith, fits))).1 in
    let lt = marked_slot left (trailing_zeros w64 left) fits bit in
    omega (arith, lt)

pub loop-left-smaller : goal.loop-left-smaller
loop-left-smaller g c =
    let left : ℕ = c.loop-left.left in
    let fits = c.loop-left.invariant.fits in
    let bit = (bit_at-trailing_zeros w64 left (omega (arith, c.loop-left-test.true)) (omega (arith, fits))).1 in
    fewer_left left c.without-left.result (trailing_zeros w64 left) fits bit c.without-left.ensures.clear c.without-left.ensures.others

pub loop-left-preserved : goal.loop-left-preserved
loop-left-preserved g c =
    let words : List ℕ = (g.M.Memory.device c.args.mem.now).cached in
    let left : ℕ = c.loop-left.left in
    let slot : ℕ = trailing_zeros w64 left in
    let fits = c.loop-left.invariant.fits in
    let bit = (bit_at-trailing_zeros w64 left (omega (arith, c.loop-left-test.true)) (omega (arith, fits))).1 in
    let key : c.load.result ≡ get_or words (key_at c.args.leaf.0 slot) 0 = c.load.ensures ∙ ap (λ (w : ℕ). get_or words w 0) c.key_place-at.ensures in
    goes_on words c.args.leaf.0 c.args.probe.now c.args.steps.now left c.without-left.result slot c.loop-left.steps c.compare.new.steps bit
    (ap (λ (k : ℕ). is_key words c.args.probe.now k) (sym key) ∙ compared words c.args.probe.now c.load.result c.compare.result c.compare.ensures.below c.compare.ensures.above ∙ sym c.is_eq.ensures ∙ c.if-is_eq.false)
    c.without-left.ensures.value c.without-left.ensures.clear c.without-left.ensures.others c.compare.ensures.step c.loop-left.invariant

pub returns-clause-none : goal.returns-clause-none
returns-clause-none g c =
    not_here (g.M.Memory.device c.args.mem.now).cached c.args.leaf.0 c.args.probe.now c.args.steps.now c.loop-left.left c.loop-left.steps c.requires.kind c.requires.prints (omega (arith, c.loop-left-test.false)) c.loop-left.invariant
