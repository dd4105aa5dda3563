use Rattle.std.proofs.Common.{◌≡◌, ℕ, ◌-◌, ◌++◌, ◌+◌, ◌*◌, List, take, drop, length, true, false, sym, ap, subst, ◌∙◌, arith}
use Rattle.std.specs.Prelude.{replicate}
use Rattle.std.proofs.lemmas.Bool.{eqb-true, eqb-false}
use Rattle.std.proofs.lemmas.List.{take_rest}
use Rattle.pm_image.specs.Spelling.{is_blank, pages_spelling, stored}
use Rattle.pm_image.specs.Fault.{number_at, words_in, is_page}
use Rattle.pm_image.proofs.Words.{IsBytes, IsBytes-rest}
use Rattle.pm_image.proofs.Reading.{ReadSoFar, begins, number_at_zero, is_short, is_bad, is_below, is_above, is_blank_page, goes_on, last_words, length-zeros, is_trailing, is_done, kept}
use Rattle.pm_image.proofs.decoding.read_pages.Goals as goal
use Rattle.pm_image.proofs.decoding.read_pages.Goals.{then-page-low-via-then-page-low, then-page-low-via-else-page-low+then-limit-page}

pub loop-at-init : goal.loop-at-init
loop-at-init c =
    subst (λ (words : List ℕ). ReadSoFar c.args.items.now words c.args.items.now c.args.count 0 0 (64 * c.args.segments)) (sym c.in_ok-words.ensures.items)
    (begins c.args.items.now c.args.count (64 * c.args.segments))

pub returns-then-rest-lt-ITEM_BYTES-clause-exact : goal.returns-then-rest-lt-ITEM_BYTES-clause-exact
returns-then-rest-lt-ITEM_BYTES-clause-exact c =
    is_short c.args.items.now c.loop-at.words.items c.loop-at.rest.now c.args.count c.loop-at.at c.loop-at.low (64 * c.args.segments)
    c.loop-at.invariant c.loop-at-test.true c.if-rest-lt-ITEM_BYTES.true

pub returns-then-page-low-clause-exact : goal.returns-then-page-low-clause-exact
returns-then-page-low-clause-exact c =
    let limit : ℕ = 64 * c.args.segments in
    let rest = c.loop-at.rest.now in
    let is : c.read_u32-page.result ≡ number_at 0 rest = c.read_u32-page.ensures ∙ sym (number_at_zero rest) in
    let bad : is_page c.loop-at.low limit rest ≡ false =
    elim c.then-page-low.branch [
      | then-page-low-via-then-page-low w ↦ is_below c.loop-at.low limit rest (omega (arith, is, w.if-page-low.true))
      | then-page-low-via-else-page-low+then-limit-page w ↦ is_above c.loop-at.low limit rest (omega (arith, is, w.if-limit-page.true))
    ] in
    is_bad c.args.items.now c.loop-at.words.items rest c.args.count c.loop-at.at c.loop-at.low limit c.loop-at.invariant c.loop-at-test.true c.if-rest-lt-ITEM_BYTES.false bad

pub returns-then-is_blank-clause-exact : goal.returns-then-is_blank-clause-exact
returns-then-is_blank-clause-exact c =
    let limit : ℕ = 64 * c.args.segments in
    let rest = c.loop-at.rest.now in
    let words = c.loop-at.words.items in
    let new = c.push_page.new.words.items in
    let page = c.read_u32-page.result in
    let front : List ℕ = words ++ replicate (512 * page - length words) 0 in
    let page_words : List ℕ = words_in 512 (drop 4 rest) in
    let made : new ≡ front ++ page_words = c.in_ok-push_page.ensures ∙ ap (λ (bytes : List ℕ). front ++ words_in 512 bytes) (take_rest rest 4) in
    let last : take (length new - 512 * page) (drop (512 * page) new) ≡ page_words = last_words front page_words new (512 * page) (length-zeros words c.loop-at.low page c.loop-at.invariant.size c.if-page-low.false) made in
    let blank : is_blank page_words ≡ true =
    sym (ap is_blank last)
    ∙ ap (λ (ws : List ℕ). is_blank (take (length ws - 512 * page) (drop (512 * page) ws))) (sym c.deref.ensures.value)
    ∙ sym c.is_blank.ensures ∙ c.if-is_blank.true in
    is_bad c.args.items.now words rest c.args.count c.loop-at.at c.loop-at.low limit c.loop-at.invariant c.loop-at-test.true c.if-rest-lt-ITEM_BYTES.false
    (is_blank_page c.loop-at.low limit rest blank)

pub loop-at-preserved : goal.loop-at-preserved
loop-at-preserved c =
    let limit : ℕ = 64 * c.args.segments in
    let rest = c.loop-at.rest.now in
    let words = c.loop-at.words.items in
    let new = c.push_page.new.words.items in
    let page = c.read_u32-page.result in
    let front : List ℕ = words ++ replicate (512 * page - length words) 0 in
    let page_words : List ℕ = words_in 512 (drop 4 rest) in
    let is : page ≡ number_at 0 rest = c.read_u32-page.ensures ∙ sym (number_at_zero rest) in
    let made : new ≡ front ++ page_words = c.in_ok-push_page.ensures ∙ ap (λ (bytes : List ℕ). front ++ words_in 512 bytes) (take_rest rest 4) in
    let last : take (length new - 512 * page) (drop (512 * page) new) ≡ page_words = last_words front page_words new (512 * page) (length-zeros words c.loop-at.low page c.loop-at.invariant.size c.if-page-low.false) made in
    let filled : is_blank page_words ≡ false =
    sym (ap is_blank last)
    ∙ ap (λ (ws : List ℕ). is_blank (take (length ws - 512 * page) (drop (512 * page) ws))) (sym c.deref.ensures.value)
    ∙ sym c.is_blank.ensures ∙ c.if-is_blank.false in
    let fits : IsBytes rest = IsBytes-rest c.args.items.now (pages_spelling (stored c.loop-at.low 0 words)) rest c.loop-at.invariant.spelled (λ i. omega (arith, c.type_inv.items i)) in
    subst (λ (bytes : List ℕ). ReadSoFar c.args.items.now new bytes c.args.count (c.loop-at.at + 1) (page + 1) limit) (sym (take_rest rest 4100))
    (goes_on c.args.items.now words rest new c.args.count c.loop-at.at c.loop-at.low limit page c.loop-at.invariant c.loop-at-test.true fits c.if-rest-lt-ITEM_BYTES.false is c.if-page-low.false c.if-limit-page.false filled made)

pub returns-then-not-is_empty-clause-exact : goal.returns-then-not-is_empty-clause-exact
returns-then-not-is_empty-clause-exact c =
    is_trailing c.args.items.now c.loop-at.words.items c.loop-at.rest.now c.args.count c.loop-at.at c.loop-at.low (64 * c.args.segments) c.loop-at.invariant c.loop-at-test.false c.loop-at.auto.at-end
    (eqb-false (length c.loop-at.rest.now) 0 (sym c.is_empty.ensures ∙ c.if-not-is_empty.true))

pub returns-clause-exact : goal.returns-clause-exact
returns-clause-exact c =
    (is_done c.args.items.now c.loop-at.words.items c.loop-at.rest.now c.args.count c.loop-at.at c.loop-at.low (64 * c.args.segments) c.loop-at.invariant c.loop-at-test.false
    (eqb-true (length c.loop-at.rest.now) 0 (sym c.is_empty.ensures ∙ c.if-not-is_empty.false))).0

pub returns-clause-count : goal.returns-clause-count
returns-clause-count c =
    let was = c.loop-at.invariant in
    ap length (kept c.loop-at.words.items c.push_zeros.new.words.items c.loop-at.low (64 * c.args.segments) was.room was.size c.in_ok-push_zeros.ensures.items)
    ∙ omega (arith, was.counted, c.loop-at-test.false, c.loop-at.auto.at-end)

pub returns-clause-pages : goal.returns-clause-pages
returns-clause-pages c =
    let was = c.loop-at.invariant in
    let limit : ℕ = 64 * c.args.segments in
    (is_done c.args.items.now c.loop-at.words.items c.loop-at.rest.now c.args.count c.loop-at.at c.loop-at.low limit was c.loop-at-test.false
    (eqb-true (length c.loop-at.rest.now) 0 (sym c.is_empty.ensures ∙ c.if-not-is_empty.false))).1
    ∙ ap pages_spelling (sym (kept c.loop-at.words.items c.push_zeros.new.words.items c.loop-at.low limit was.room was.size c.in_ok-push_zeros.ensures.items))
