-- A text that was written reads back.
use Rattle.std.proofs.Common.{◌≡◌, ℕ, suc, ◌+◌, ◌*◌, ◌/◌, ◌%◌, ◌^◌, ◌<◌, List, length, get_or, sym, ◌∙◌, ap, subst, arith}
use Rattle.std.specs.Prelude.{IsTrue, IsUtf8}
use Rattle.std.proofs.lemmas.List.{ext_get_or}
use Rattle.std.proofs.lemmas.List.FromFn.{get_or-map-range_with_len, length-map-range_with_len}
use Rattle.image_layout.specs.Places.{packed_byte, is_in_segment}
use Rattle.image_layout.specs.Trees.{text_at, text_length, text_words}
use Rattle.image_layout.proofs.TextOrder.{byte_of_text, length_of_text}
use Rattle.shown_state.specs.Packed.{packed_word, packed_words}
use Rattle.text_block.specs.Blocks.{text_record, IsTextBlock}
use Rattle.text_block.specs.Changes.{Writing, IsWritten}
use Rattle.text_block.proofs.Bytes.{utf8_bytes}
use Rattle.text_block.proofs.Packing.{packed_back}

pub length-text_record : (bytes : List ℕ) → length (text_record bytes) ≡ text_words (length bytes)
length-text_record bytes = let size = length-map-range_with_len (packed_word bytes) 0 ((length bytes + 7) / 8) in omega (arith, size)

packed_at : (bytes : List ℕ) (count word : ℕ) → word < count → get_or (packed_words bytes count) word 0 ≡ packed_word bytes word
packed_at bytes count word lt = get_or-map-range_with_len (packed_word bytes) 0 count word word 0 lt (omega arith)

module _ (w : Writing) (base words : List ℕ) (utf8 : IsUtf8 w.text) (is : IsWritten w base words) where
  length_back : text_length words w.at ≡ length w.text
  length_back =
      let here : w.at ≡ w.at + 0 = omega arith in
      ap (λ (p : ℕ). get_or words p 0) here ∙ is.each 0 (omega arith)

  word_back : (word : ℕ) → word < (length w.text + 7) / 8 → get_or words (w.at + 1 + word) 0 ≡ packed_word w.text word
  word_back word lt =
      let here : w.at + 1 + word ≡ w.at + suc word = omega arith in
      ap (λ (p : ℕ). get_or words p 0) here ∙ is.each (suc word) (omega (arith, lt)) ∙ packed_at w.text ((length w.text + 7) / 8) word lt

  byte_back : (k : ℕ) → k < length w.text → packed_byte words (w.at + 1) k ≡ get_or w.text k 0
  byte_back k lt =
      ap (λ (word : ℕ). word / 2 ^ (8 * (k % 8)) % 256) (word_back (k / 8) (omega (arith, lt)))
      ∙ packed_back w.text (utf8_bytes w.text utf8) k

  pub text_back : text_at words w.at ≡ w.text
  text_back =
      let size : length (text_at words w.at) ≡ length w.text = length_of_text words w.at ∙ length_back in
      ext_get_or 0 (text_at words w.at) w.text size
      (λ k lt. byte_of_text words w.at k (omega (arith, lt, size, length_back)) ∙ byte_back k (omega (arith, lt, size)))

  pub text_sound : IsTextBlock words w.at
  text_sound = record {
    placed = record {
      in_image = let size = is.kept.size in omega (arith, size, is.may.in_image);
      short = omega (arith, length_back, is.may.fits.short);
      one_segment = subst (λ (n : ℕ). IsTrue (is_in_segment w.at (text_words n))) (sym length_back) is.may.fits.one_segment;
    };
    utf8 = subst IsUtf8 (sym text_back) utf8;
  }
