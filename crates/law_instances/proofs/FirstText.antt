-- A text over a formatted image, and blocks of the image with two commits that may be freed.
use Rattle.std.proofs.Common.{◌≡◌, inr, ℕ, ◌+◌, ◌%◌, ◌<◌, ◌≤◌, true, false, List, length, get_or, refl, arith}
use Rattle.std.specs.Prelude.{IsUtf8}
use Rattle.std.proofs.lemmas.Bool.{le-leb}
use Rattle.std.specs.Int.{bit_at}
use Rattle.image_layout.specs.Blocks.{bitmap_of, descriptor_of, is_inside, is_small_page}
use Rattle.image_layout.specs.Fixed.{lane_op_at}
use Rattle.image_layout.specs.Fresh.{fresh_words}
use Rattle.image_layout.specs.Pointer.{pointer_word}
use Rattle.image_layout.specs.Trees.{text_at, text_words}
use Rattle.image_layout.proofs.FreshImage.{length-fresh_words}
use Rattle.heap_palloc.specs.Choice.{MayRelease, of_pages, of_slot}
use Rattle.heap_palloc.specs.Law.{pages_by, slot_by, IsIdle}
use Rattle.shown_state.specs.CommitLaws.{two_commit_image}
use Rattle.text_block.specs.Blocks.{IsTextBlock}
use Rattle.text_block.specs.Changes.{IsWritten, MayWrite}
use Rattle.text_block.proofs.ChangeHolds.{writing_holds}
use Rattle.text_block.proofs.ReadBack.{text_back, text_sound}
use Rattle.law_instances.specs.FirstText.{first_text, texted_words}

module _ (segments : ℕ) (text : List ℕ) (some : 0 < segments) (short : length text ≤ 2000) where
  pub may_write : MayWrite (fresh_words segments) (first_text text)
  may_write = record {
    fits = record { short = short; one_segment = le-leb (2056 % 32768 + text_words (length text)) 32768 (omega (arith, short)); within = omega (arith, short) };
    in_image = omega (arith, short, some, length-fresh_words segments);
  }

  pub is_written : IsWritten (first_text text) (fresh_words segments) (texted_words segments text)
  is_written = (writing_holds (first_text text)).end (fresh_words segments) may_write

  pub reads_back : IsUtf8 text → text_at (texted_words segments text) 2056 ≡ text
  reads_back utf8 = text_back (first_text text) (fresh_words segments) (texted_words segments text) utf8 is_written

  pub stands : IsUtf8 text → IsTextBlock (texted_words segments text) 2056
  stands utf8 = text_sound (first_text text) (fresh_words segments) (texted_words segments text) utf8 is_written

-- ── freeing ──

size_is : length two_commit_image ≡ 32768
unfolding two_commit_image
size_is = refl

lane_idle : get_or two_commit_image (lane_op_at 1) 0 ≡ 0
unfolding two_commit_image
lane_idle = refl

-- a word of the table's block, through lane 1
idle : (owner : ℕ) → 2056 < owner → owner < 2100 → IsIdle two_commit_image 1 owner
idle owner from to = record {
  lane_is = omega arith;
  op = lane_idle;
  owner_is = record {
    in_image = let size = size_is in omega (arith, size, to);
    outside_lanes = inr (omega (arith, from));
    no_descriptor = omega (arith, from, to);
    no_bitmap = λ small e. omega (arith, e, from, to);
  };
}

names_slot : get_or two_commit_image 2061 0 ≡ pointer_word 4616
unfolding two_commit_image
names_slot = refl

nine_is_small : is_small_page two_commit_image 9 ≡ true
unfolding two_commit_image is_inside
nine_is_small = refl

nine_is : descriptor_of two_commit_image 9 ≡ 5
unfolding two_commit_image
nine_is = refl

first_slot : bit_at (bitmap_of two_commit_image 9) 0 ≡ 1
unfolding two_commit_image
first_slot = refl

pub frees_slot : MayRelease two_commit_image (of_slot (slot_by 1 2061 9 3 0))
frees_slot = record {
  idle = idle 2061 (omega arith) (omega arith);
  owned = names_slot;
  page_is = record {
    page_is = record { in_image = let size = size_is in omega (arith, size); behind_header = omega arith; behind_fixed = omega arith };
    class_is = omega arith;
    small = nine_is_small;
    descriptor = nine_is;
  };
  slot_is = omega arith;
  set = first_slot;
}

names_pages : get_or two_commit_image 2065 0 ≡ pointer_word 2560
unfolding two_commit_image
names_pages = refl

five_is : descriptor_of two_commit_image 5 ≡ 17
unfolding two_commit_image
five_is = refl

five_outside : is_inside two_commit_image 5 ≡ false
unfolding two_commit_image is_inside
five_outside = refl

pub frees_pages : MayRelease two_commit_image (of_pages (pages_by 1 2065 5 1))
frees_pages = record {
  idle = idle 2065 (omega arith) (omega arith);
  owned = names_pages;
  run = record {
    page_is = record { in_image = let size = size_is in omega (arith, size); behind_header = omega arith; behind_fixed = omega arith };
    in_image = let size = size_is in omega (arith, size);
    in_segment = omega arith;
    some = omega arith;
    not_inside = five_outside;
  };
  head = five_is;
  clean = λ k from to. absurd (omega (arith, from, to));
}
