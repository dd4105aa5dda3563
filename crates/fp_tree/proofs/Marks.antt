-- What the heap reads of an image: its descriptors, and the bitmaps of small pages.
use Rattle.std.proofs.Common.{◌≡◌, ◌⊎◌, inl, inr, ⊎_elim, ℕ, ◌+◌, ◌%◌, ◌<◌, ◌≤◌, true, List, length, get_or, sym, ◌∙◌, ap, arith}
use Rattle.std.specs.Prelude.{Contains}
use Rattle.std.proofs.lemmas.Bool.{cases_lt}
use Rattle.image_layout.specs.Blocks.{Block, is_small_page, live_blocks}
use Rattle.image_layout.specs.Fixed.{descriptor_at}
use Rattle.image_layout.specs.Places.{page_at, page_of}
use Rattle.heap_palloc.specs.Calls.{KeepsHeapRules}
use Rattle.heap_palloc.proofs.Dests.{dest_place}
use Rattle.heap_palloc.proofs.LiveBlocks.{SameHeap}
use Rattle.tree_cuts.specs.Tree.{AreApart}

-- a descriptor, or the bitmap of a small page
abbrev pub IsMark : List ℕ → ℕ → Type 0
IsMark words w = (w % 32768 < 64) ⊎ ((is_small_page words (page_of w) ≡ true) × (w % 512 ≡ 0))

-- a word is among these, or not
apart_or : (first count w : ℕ) → AreApart first count w 1 ⊎ ((first ≤ w) × (w < first + count))
apart_or first count w = ⊎_elim (λ low. inl (inr (omega (arith, low)))) (λ from. ⊎_elim (λ to. inr (from, to)) (λ high. inl (inl high)) (cases_lt w (first + count))) (cases_lt w first)

-- a live block has none
pub no_mark : (words : List ℕ) → length words % 32768 ≡ 0 → 32768 ≤ length words → KeepsHeapRules words → (block : Block) → Contains (live_blocks words) block → (place many : ℕ) → block.first ≤ place → place + many ≤ block.first + block.words → (w : ℕ) → IsMark words w → AreApart place many w 1
no_mark words segments some rules block live place many from to w mark = ⊎_elim
    (λ apart. apart)
    (λ (low, high).
    let is = (dest_place words segments some rules w (inr (block, live, omega (arith, from, low), omega (arith, to, high)))).owner_is in
    let off = is.no_descriptor in
    absurd (⊎_elim (λ header. omega (arith, header, off)) (λ bitmap. is.no_bitmap bitmap.0 bitmap.1) mark))
    (apart_or place many w)

pub same_marks : (old new : List ℕ) → length new ≡ length old → ((w : ℕ) → IsMark old w → get_or new w 0 ≡ get_or old w 0) → SameHeap old new
same_marks old new size marks = record {
  size = size;
  pages = λ page. record {
    descriptor = marks (descriptor_at page) (inl (omega arith));
    bitmap = λ small. marks (page_at page) (inr ((let here : page ≡ page_of (page_at page) = omega arith in ap (is_small_page old) (sym here) ∙ small), omega arith));
  };
}
