-- The order of two texts, byte by byte.
use Rattle.std.proofs.Common.{◌≡◌, ℕ, ◌+◌, ◌<◌, ◌≤◌, Bool, true, false, ◌||◌, ltb, List, [], ◌∷◌, length, drop, get_or, ◌⊎◌, refl, sym, ◌∙◌, arith, inl, inr}
use Rattle.std.specs.Ordering.{is_gt, is_lt, is_ne, nat_cmp}
use Rattle.std.specs.declared.cmp.Ordering.{Ordering}
use Rattle.std.proofs.lemmas.Bool.{cases_lt, eq-eqb, le-ltb, lt-ltb, ne_eqb}
use Rattle.std.proofs.lemmas.List.{drop_all, drop_more}
use Rattle.std.proofs.lemmas.List.FromFn.{get_or-map-range_with_len, length-map-range_with_len}
use Rattle.image_layout.specs.Places.{packed_byte}
use Rattle.image_layout.specs.Trees.{text_at, text_below, text_length}

-- two texts compare as they do behind their first bytes, so many of them
pub record Alike (text bytes : List ℕ) (count : ℕ) : Type 0 where
  pub less : text_below (drop count text) (drop count bytes) ≡ text_below text bytes
  pub greater : text_below (drop count bytes) (drop count text) ≡ text_below bytes text

pub alike_at_first : (text bytes : List ℕ) → Alike text bytes 0
alike_at_first text bytes = record { less = refl; greater = refl }

or_false : (test : Bool) → (test || false) ≡ test
or_false true = refl
or_false false = refl

below_same : (x y : ℕ) (xs ys : List ℕ) → x ≡ y → text_below (x ∷ xs) (y ∷ ys) ≡ text_below xs ys
below_same x y xs ys is = rw (le-ltb x y (omega (arith, is)), eq-eqb x y is) refl

below_other : (x y : ℕ) (xs ys : List ℕ) → (x ≡ y → ⊥) → text_below (x ∷ xs) (y ∷ ys) ≡ ltb x y
below_other x y xs ys isn't = rw (ne_eqb x y isn't) (or_false (ltb x y))

behind_same : (text bytes : List ℕ) (at : ℕ) → at < length text → at < length bytes → get_or text at 0 ≡ get_or bytes at 0
    → text_below (drop at text) (drop at bytes) ≡ text_below (drop (at + 1) text) (drop (at + 1) bytes)
behind_same text bytes at lt lt' same =
    rw (drop_more text at 0 lt, drop_more bytes at 0 lt') (below_same (get_or text at 0) (get_or bytes at 0) (drop (at + 1) text) (drop (at + 1) bytes) same)

behind_other : (text bytes : List ℕ) (at : ℕ) → at < length text → at < length bytes → (get_or text at 0 ≡ get_or bytes at 0 → ⊥)
    → text_below (drop at text) (drop at bytes) ≡ ltb (get_or text at 0) (get_or bytes at 0)
behind_other text bytes at lt lt' other =
    rw (drop_more text at 0 lt, drop_more bytes at 0 lt') (below_other (get_or text at 0) (get_or bytes at 0) (drop (at + 1) text) (drop (at + 1) bytes) other)

pub alike_more : (text bytes : List ℕ) (at : ℕ) → at < length text → at < length bytes → get_or text at 0 ≡ get_or bytes at 0 → Alike text bytes at → Alike text bytes (at + 1)
alike_more text bytes at lt lt' same was = record {
  less = sym (behind_same text bytes at lt lt' same) ∙ was.less;
  greater = sym (behind_same bytes text at lt' lt (sym same)) ∙ was.greater;
}

equal_bytes : (x y : ℕ) (order : Ordering) → order ≡ nat_cmp x y → is_ne order ≡ false → x ≡ y
equal_bytes x y order is same = grind (arith, is, same)

other_bytes : (x y : ℕ) (order : Ordering) → order ≡ nat_cmp x y → is_ne order ≡ true → x ≡ y → ⊥
other_bytes x y order is other same = grind (arith, is, other, same)

less_order : (x y : ℕ) (order : Ordering) → order ≡ nat_cmp x y → is_lt order ≡ ltb x y
less_order x y order is = grind (arith, is)

greater_order : (x y : ℕ) (order : Ordering) → order ≡ nat_cmp x y → is_gt order ≡ ltb y x
greater_order x y order is = grind (arith, is)

pub goes_on : (text bytes : List ℕ) (at : ℕ) (order : Ordering) → at < length text → at < length bytes → order ≡ nat_cmp (get_or text at 0) (get_or bytes at 0) → is_ne order ≡ false
    → Alike text bytes at → Alike text bytes (at + 1)
goes_on text bytes at order lt lt' is same was = alike_more text bytes at lt lt' (equal_bytes (get_or text at 0) (get_or bytes at 0) order is same) was

pub decided_less : (text bytes : List ℕ) (at : ℕ) (order : Ordering) → at < length text → at < length bytes → order ≡ nat_cmp (get_or text at 0) (get_or bytes at 0) → is_ne order ≡ true
    → Alike text bytes at → is_lt order ≡ text_below text bytes
decided_less text bytes at order lt lt' is other was =
    less_order (get_or text at 0) (get_or bytes at 0) order is ∙ sym (behind_other text bytes at lt lt' (other_bytes (get_or text at 0) (get_or bytes at 0) order is other)) ∙ was.less

pub decided_greater : (text bytes : List ℕ) (at : ℕ) (order : Ordering) → at < length text → at < length bytes → order ≡ nat_cmp (get_or text at 0) (get_or bytes at 0) → is_ne order ≡ true
    → Alike text bytes at → is_gt order ≡ text_below bytes text
decided_greater text bytes at order lt lt' is other was =
    greater_order (get_or text at 0) (get_or bytes at 0) order is
    ∙ sym (behind_other bytes text at lt' lt (λ same. other_bytes (get_or text at 0) (get_or bytes at 0) order is other (sym same))) ∙ was.greater

nothing_below : (text : List ℕ) → text_below text [] ≡ false
nothing_below [] = refl
nothing_below (byte ∷ bytes) = refl

text_ends : (text bytes : List ℕ) (at : ℕ) → at < length bytes → ((length text ≤ at) ⊎ (length bytes ≤ at)) → length text ≤ at
text_ends text bytes at more (inl end) = end
text_ends text bytes at more (inr end) = absurd (omega (arith, more, end))

-- one of them has ended
ended_below : (text bytes : List ℕ) (at : ℕ) → at ≤ length text → at ≤ length bytes → ((length text ≤ at) ⊎ (length bytes ≤ at)) → text_below (drop at text) (drop at bytes) ≡ ltb (length text) (length bytes)
ended_below text bytes at le le' end =
    elim (cases_lt at (length bytes)) [
      | inl more ↦ rw (drop_all at text (text_ends text bytes at more end), drop_more bytes at 0 more) (sym (lt-ltb (length text) (length bytes) (omega (arith, more, text_ends text bytes at more end))))
      | inr none ↦ rw (drop_all at bytes none) (nothing_below (drop at text) ∙ sym (le-ltb (length text) (length bytes) (omega (arith, le, none))))
    ]

other_way : {A B : Type 0} → A ⊎ B → B ⊎ A
other_way (inl a) = inr a
other_way (inr b) = inl b

pub ends_less : (text bytes : List ℕ) (at : ℕ) (order : Ordering) → at ≤ length text → at ≤ length bytes → ((length text ≤ at) ⊎ (length bytes ≤ at)) → order ≡ nat_cmp (length text) (length bytes)
    → Alike text bytes at → is_lt order ≡ text_below text bytes
ends_less text bytes at order le le' end is was = less_order (length text) (length bytes) order is ∙ sym (ended_below text bytes at le le' end) ∙ was.less

pub ends_greater : (text bytes : List ℕ) (at : ℕ) (order : Ordering) → at ≤ length text → at ≤ length bytes → ((length text ≤ at) ⊎ (length bytes ≤ at)) → order ≡ nat_cmp (length text) (length bytes)
    → Alike text bytes at → is_gt order ≡ text_below bytes text
ends_greater text bytes at order le le' end is was = greater_order (length text) (length bytes) order is ∙ sym (ended_below bytes text at le' le (other_way end)) ∙ was.greater

pub length_of_text : (words : List ℕ) (place : ℕ) → length (text_at words place) ≡ text_length words place
unfolding text_at
length_of_text words place = length-map-range_with_len (packed_byte words (place + 1)) 0 (text_length words place)

pub byte_of_text : (words : List ℕ) (place at : ℕ) → at < text_length words place → get_or (text_at words place) at 0 ≡ packed_byte words (place + 1) at
unfolding text_at
byte_of_text words place at lt = get_or-map-range_with_len (packed_byte words (place + 1)) 0 (text_length words place) at at 0 lt (omega arith)
