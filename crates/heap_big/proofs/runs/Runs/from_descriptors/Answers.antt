use Rattle.std.proofs.Common.{◌≡◌, ℕ, ◌*◌, ◌/◌, ◌%◌, true, zero, suc, List, inl, inr, ⊎_elim, length, get_or, replicate, ap, ◌∙◌, refl, arith}
use Rattle.std.specs.Prelude.{Contains}
use Rattle.heap_big.specs.declared.run.Run.{Run}
use Rattle.std.specs.Int.{bit_at}
use Rattle.std.proofs.lemmas.Nat.Bits.{bit_at-zero}
use Rattle.heap_big.specs.Pages.{has_page, pages_of}
use Rattle.heap_big.specs.Index.{runs_of}
use Rattle.heap_big.specs.Runs.{HasPage}
use Rattle.heap_big.specs.Descriptors.{EndsAt}
use Rattle.heap_big.proofs.Bits.{bit_read}
use Rattle.heap_big.proofs.Grouping.{runs_order, free_same, well_formed}
use Rattle.heap_big.proofs.Maximal.{contains_maximal}
use Rattle.heap_big.proofs.Scans.{scanned_next}
use Rattle.heap_big.proofs.runs.Runs.from_descriptors.Goals as goal

-- no page is free yet
none_free : (words : List ℕ) (count : ℕ) → words ≡ replicate count 0 → (page : ℕ) → has_page words page ≡ true → ⊥
none_free words count is page hit =
    let zero = get_or-replicate count (page / 64) in
    let one = (bit_read words page (page / 64) refl).0 hit in
    let none = ap (λ (l : List ℕ). bit_at (get_or l (page / 64) 0) (page % 64)) is ∙ ap (λ (w : ℕ). bit_at w (page % 64)) zero ∙ bit_at-zero (page % 64) in
    omega (arith, one, none)
  where
    get_or-replicate : (n k : ℕ) → let none : ℕ = 0 in get_or (replicate n none) k 0 ≡ none
    get_or-replicate zero k = refl
    get_or-replicate (suc n) zero = refl
    get_or-replicate (suc n) (suc k) = get_or-replicate n k

no_run : (words : List ℕ) (count : ℕ) → words ≡ replicate count 0 → (run : Run) → Contains (runs_of (pages_of words)) run → ⊥
no_run words count is run has =
    let maximal = contains_maximal (64 * length words) (runs_of (pages_of words)) run (runs_order words) has in
    none_free words count is run.first ((free_same words run.first).1 (maximal.inside run.first (omega arith, omega (arith, maximal.in_segment.some))))

pub invariant_of-index : goal.invariant_of-index
invariant_of-index c = record {
  small = omega (arith, c.requires.small, c.in_ok-vec.ensures.len);
  starts = λ run. (λ has. absurd (c.in_ok-new.ensures run has), λ has. absurd (no_run c.in_ok-vec.field-0.items (length c.args.descriptors.now / 64) (c.in_ok-vec.ensures.items_if_clones_equal (λ y same. same)) run has));
}

pub loop-page-init : goal.loop-page-init
loop-page-init c =
    let words = c.in_ok-vec.field-0.items in
    let zeros = c.in_ok-vec.ensures.items_if_clones_equal (λ y same. same) in
    record {
      well_formed = well_formed words;
      page_count = omega (arith, c.requires.whole, c.in_ok-vec.ensures.len);
      ends = inl refl;
      apart = λ other has. omega (arith, has.1);
      pages = λ other. (
        λ known. absurd (⊎_elim (λ free. none_free words (length c.args.descriptors.now / 64) zeros other ((free_same words other).1 free)) (λ has. omega (arith, has.1)) known),
        λ below. absurd (omega (arith, below.0)),
      );
      left = refl;
    }

pub loop-page-preserved : goal.loop-page-preserved
loop-page-preserved c =
    scanned_next c.args.descriptors.now c.loop-page.page c.loop-page.inside _ _ c.loop-page.index c.scan-pending.new.self c.loop-page.pending c.scan-pending.result c.loop-page-test.true refl c.loop-page.invariant
    (record {
      free_page = c.scan-pending.ensures.free;
      inside_block = c.scan-pending.ensures.inside;
      used_page = c.scan-pending.ensures.used;
      ends = c.scan-pending.ensures.pending;
      apart = c.scan-pending.ensures.apart;
      page_count = c.scan-pending.ensures.page_count;
      well_formed = c.scan-pending.ensures.well_formed;
    })
    c.left_behind-inside.ensures

-- where the last segment ends no run is pending
none_open : (pending : Run) (page other : ℕ) → EndsAt pending page → page % 64 ≡ 0 → HasPage pending other → ⊥
none_open pending page other (inl none) ends has = omega (arith, none, has.0, has.1)
none_open pending page other (inr some) ends has = omega (arith, some.1, ends, has.0, has.1)

pub returns-clause-pages : goal.returns-clause-pages
returns-clause-pages c = λ page. (
  λ free. ((c.loop-page.invariant.pages page).0 (inl free)).1,
  λ free. ⊎_elim (λ known. known) (λ has. absurd (none_open c.loop-page.pending c.loop-page.page page c.loop-page.invariant.ends (let end : c.loop-page.page ≡ length c.args.descriptors.now = omega arith in ap (λ (n : ℕ). n % 64) end ∙ c.requires.whole) has)) ((c.loop-page.invariant.pages page).1 (omega (arith, free.within), free)),
)
