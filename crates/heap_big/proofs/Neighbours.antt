-- The free runs on both sides of a run, by the bits of its segment.
use Rattle.std.proofs.Common.{◌≡◌, ℕ, ◌+◌, ◌-◌, ◌/◌, ◌%◌, ◌<◌, ◌≤◌, true, List, length, set, get_or, refl, ap, ◌∙◌, arith, bit_or}
use Rattle.std.specs.Int.{bit_at}
use Rattle.heap_big.specs.declared.run.Run.{Run}
use Rattle.heap_big.specs.Runs.{end_of, HasPage, IsInSegment}
use Rattle.heap_big.specs.Pages.{has_page}
use Rattle.heap_big.proofs.Bits.{mask_of, bit_read, bits_added}
use Rattle.heap_big.proofs.Changes.{IsBetween}

-- two runs of free pages that touch a run on its left and on its right, each as long as it can be
pub record AreNeighbours (word : ℕ) (run left right : Run) : Type 0 where
  pub left_end : end_of left ≡ run.first
  pub left_short : left.pages ≤ run.first % 64
  pub left_free : (page : ℕ) → run.first % 64 - left.pages ≤ page → page < run.first % 64 → bit_at word page ≡ 1
  pub left_whole : left.pages < run.first % 64 → bit_at word (run.first % 64 - left.pages - 1) ≡ 0
  pub right_begin : right.first ≡ end_of run
  pub right_short : run.first % 64 + run.pages + right.pages ≤ 64
  pub right_free : (page : ℕ) → run.first % 64 + run.pages ≤ page → page < run.first % 64 + run.pages + right.pages → bit_at word page ≡ 1
  pub right_whole : run.first % 64 + run.pages + right.pages < 64 → bit_at word (run.first % 64 + run.pages + right.pages) ≡ 0

module _ (words : List ℕ) (run left right : Run) (at : ℕ) (in_segment : IsInSegment run) (is : at ≡ run.first / 64) (within : at < length words) (beside : AreNeighbours (get_or words at 0) run left right) where
  read : (page bit : ℕ) → page / 64 ≡ at → page % 64 ≡ bit → bit_at (get_or words at 0) bit ≡ 1 → has_page words page ≡ true
  read page bit same place one = (bit_read words page at same).1 (ap (bit_at (get_or words at 0)) place ∙ one)

  gone : (page bit : ℕ) → page / 64 ≡ at → page % 64 ≡ bit → bit_at (get_or words at 0) bit ≡ 0 → has_page words page ≡ true → ⊥
  gone page bit same place none hit = let one = (bit_read words page at same).0 hit in let here = ap (bit_at (get_or words at 0)) place in omega (arith, one, here, none)

  pub between : ((page : ℕ) → HasPage run page → has_page words page ≡ true → ⊥)
      → IsBetween (λ page. has_page words page ≡ true) (λ page. has_page (set words at (bit_or (get_or words at 0) (mask_of run))) page ≡ true) run left right
  between not_free =
      let some = in_segment.some in
      let size = in_segment.within in
      record {
        pages = bits_added words run at (bit_or (get_or words at 0) (mask_of run)) size is within refl;
        in_segment = in_segment;
        not_free = not_free;
        left_end = beside.left_end;
        left_short = beside.left_short;
        left_free = λ page has. read page (page % 64) (omega (arith, has.0, has.1, beside.left_end, beside.left_short, is)) refl
            (beside.left_free (page % 64) (omega (arith, has.0, has.1, beside.left_end, beside.left_short)) (omega (arith, has.0, has.1, beside.left_end, beside.left_short)));
        left_whole = λ more. gone (left.first - 1) (run.first % 64 - left.pages - 1) (omega (arith, more, beside.left_end, beside.left_short, is)) (omega (arith, more, beside.left_end, beside.left_short)) (beside.left_whole more);
        right_begin = beside.right_begin;
        right_short = beside.right_short;
        right_free = λ page has. read page (page % 64) (omega (arith, has.0, has.1, beside.right_begin, beside.right_short, is)) refl
            (beside.right_free (page % 64) (omega (arith, has.0, has.1, beside.right_begin, beside.right_short)) (omega (arith, has.0, has.1, beside.right_begin, beside.right_short)));
        right_whole = λ more. gone (end_of right) (run.first % 64 + run.pages + right.pages) (omega (arith, more, beside.right_begin, is)) (omega (arith, more, beside.right_begin)) (beside.right_whole more);
      }
