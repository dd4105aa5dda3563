-- A formatted image, place by place.
use Rattle.std.proofs.Common.{◌≡◌, ℕ, ◌+◌, ◌*◌, ◌<◌, List, length, get_or, arith}
use Rattle.std.proofs.lemmas.List.FromFn.{length-map-range_with_len, get_or-map-range_with_len, fill_by_all}
use Rattle.image_layout.specs.Fresh.{fresh_word, fresh_words}

pub length-fresh_words : (segments : ℕ) → length (fresh_words segments) ≡ 32768 * segments
unfolding fresh_words
length-fresh_words segments = length-map-range_with_len fresh_word 0 (32768 * segments)

pub get_or-fresh_words : (segments w : ℕ) → w < 32768 * segments → get_or (fresh_words segments) w 0 ≡ fresh_word w
unfolding fresh_words
get_or-fresh_words segments w lt = get_or-map-range_with_len fresh_word 0 (32768 * segments) w w 0 lt (zero_add w)
  where
    zero_add : (n : ℕ) → 0 + n ≡ n
    zero_add n = omega arith

-- words that are so at each place
pub fresh_words_is : (segments : ℕ) (words : List ℕ) → length words ≡ 32768 * segments → ((w : ℕ) → w < 32768 * segments → get_or words w 0 ≡ fresh_word w) → words ≡ fresh_words segments
unfolding fresh_words
fresh_words_is segments words size each = fill_by_all fresh_word words (32768 * segments) 0 size each
