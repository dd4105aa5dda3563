-- The chunks of an array: how many words the first ones have, and in which of them an index lies.
use Rattle.std.proofs.Common.{◌≡◌, ⊎_elim, ℕ, zero, suc, ◌+◌, ◌-◌, ◌*◌, ◌/◌, ◌%◌, ◌^◌, ◌<◌, ◌≤◌, min, Bool, true, false, cond, leb, fold, refl, ◌∙◌, ap, arith, pow_mono, pow-suc, lt_of_not-le}
use Rattle.std.specs.Prelude.{count_by}
use Rattle.std.specs.List.{range_with_len}
use Rattle.std.proofs.lemmas.Bool.{cases_lt, le-leb, lt-leb}
use Rattle.image_layout.specs.Arrays.{chunk_pages, chunk_words, capacity_of, chunk_of}

-- ── counting up to a threshold ──

count_from : (p : ℕ → Bool) (c n a s : ℕ) → a ≤ c → c ≤ a + n → ((k : ℕ) → k < c → p k ≡ true) → ((k : ℕ) → c ≤ k → p k ≡ false) → fold (λ t x. t + cond (p x) 1 0) s (range_with_len a n) ≡ s + (c - a)
count_from p c zero a s low high set clear = omega (arith, low, high)
count_from p c (suc n) a s low high set clear = ⊎_elim
    (λ lt. ap (λ (b : Bool). fold (λ t x. t + cond (p x) 1 0) (s + cond b 1 0) (range_with_len (a + 1) n)) (set a lt)
    ∙ count_from p c n (a + 1) (s + 1) (omega (arith, lt)) (omega (arith, high)) set clear ∙ omega (arith, lt))
    (λ le. ap (λ (b : Bool). fold (λ t x. t + cond (p x) 1 0) (s + cond b 1 0) (range_with_len (a + 1) n)) (clear a le)
    ∙ none n (a + 1) (s + 0) (omega (arith, le)) ∙ omega (arith, le, low))
    (cases_lt a c)
  where
    none : (m b t : ℕ) → c ≤ b → fold (λ u x. u + cond (p x) 1 0) t (range_with_len b m) ≡ t
    none zero b t le = refl
    none (suc m) b t le = ap (λ (v : Bool). fold (λ u x. u + cond (p x) 1 0) (t + cond v 1 0) (range_with_len (b + 1) m)) (clear b le) ∙ none m (b + 1) (t + 0) (omega (arith, le)) ∙ omega arith

pub count_threshold : (p : ℕ → Bool) (c n : ℕ) → c ≤ n → ((k : ℕ) → k < c → p k ≡ true) → ((k : ℕ) → c ≤ k → p k ≡ false) → count_by p (range_with_len 0 n) ≡ c
count_threshold p c n high set clear = count_from p c n 0 0 (omega arith) (omega (arith, high)) set clear ∙ omega arith

-- ── the words of the first chunks ──

pub capacity_next : (chunk : ℕ) → capacity_of (chunk + 1) ≡ capacity_of chunk + chunk_words chunk
capacity_next chunk = let one : chunk + 1 ≡ suc chunk = omega arith in ap capacity_of one

pub capacity-rises : (a b : ℕ) → a ≤ b → capacity_of a ≤ capacity_of b
capacity-rises a zero le = ap_le a (omega (arith, le))
  where
    ap_le : (n : ℕ) → n ≡ 0 → capacity_of n ≤ 0
    ap_le zero e = omega arith
    ap_le (suc n) e = absurd (omega (arith, e))
capacity-rises a (suc b) le = ⊎_elim
    (λ lt. let rest = capacity-rises a b (omega (arith, lt)) in omega (arith, rest))
    (λ ge. let same : a ≡ suc b = omega (arith, le, ge) in let e = ap capacity_of same in omega (arith, e))
    (cases_lt a (suc b))

-- the chunk that reaches over an index
pub chunk_is : (chunk index : ℕ) → chunk < 12 → capacity_of chunk ≤ index → index < capacity_of (chunk + 1) → chunk_of index ≡ chunk
unfolding chunk_of
chunk_is chunk index lt low high = count_threshold (λ k. leb (capacity_of (k + 1)) index) chunk 12 (omega (arith, lt))
    (λ k below. le-leb (capacity_of (k + 1)) index (let rises = capacity-rises (k + 1) chunk (omega (arith, below)) in omega (arith, rises, low)))
    (λ k from. lt-leb (capacity_of (k + 1)) index (let rises = capacity-rises (chunk + 1) (k + 1) (omega (arith, from)) in omega (arith, rises, high)))

-- chunk 5 and those behind it are of one size
pub large_pages : (chunk : ℕ) → 5 ≤ chunk → chunk_pages chunk ≡ 32
large_pages chunk le = let five : min chunk 5 ≡ 5 = omega (arith, le) in ap (λ (k : ℕ). 2 ^ k) five

pub large_capacity : (k : ℕ) → capacity_of (k + 5) ≡ 512 * (31 + 32 * k)
large_capacity zero = refl
large_capacity (suc k) =
    let rest = large_capacity k in
    let pages = large_pages (k + 5) (omega arith) in
    let one : suc k + 5 ≡ k + 5 + 1 = omega arith in
    let next = ap capacity_of one ∙ capacity_next (k + 5) in
    omega (arith, rest, pages, next)

-- and those before it have 2, 4, 8 .. pages less 1
pub small_capacity : (chunk : ℕ) → chunk ≤ 5 → capacity_of chunk ≡ 512 * (2 ^ chunk - 1)
small_capacity zero le = refl
small_capacity (suc zero) le = refl
small_capacity (suc (suc zero)) le = refl
small_capacity (suc (suc (suc zero))) le = refl
small_capacity (suc (suc (suc (suc zero)))) le = refl
small_capacity (suc (suc (suc (suc (suc zero))))) le = refl
small_capacity (suc (suc (suc (suc (suc (suc k)))))) le = absurd (omega (arith, le))

pub shifted_capacity : (chunk : ℕ) → chunk < 5 → 512 * (1 * 2 ^ chunk % 4294967296 - 1) ≡ capacity_of chunk
shifted_capacity zero lt = refl
shifted_capacity (suc zero) lt = refl
shifted_capacity (suc (suc zero)) lt = refl
shifted_capacity (suc (suc (suc zero))) lt = refl
shifted_capacity (suc (suc (suc (suc zero)))) lt = refl
shifted_capacity (suc (suc (suc (suc (suc k))))) lt = absurd (omega (arith, lt))

pub even_capacity : (chunk : ℕ) → 5 ≤ chunk → 512 * (32 * chunk - 129) ≡ capacity_of chunk
even_capacity chunk le = let large = large_capacity (chunk - 5) in let is : chunk - 5 + 5 ≡ chunk = omega (arith, le) in let same = ap capacity_of is in omega (arith, large, same, le)

pub capacity_most : (chunks : ℕ) → chunks ≤ 12 → capacity_of chunks ≤ 130560
capacity_most chunks le = capacity-rises chunks 12 le

-- ── the chunk of an index, by its page ──

pub log_low : (log : ℕ) → 2 ^ log < 32 → log < 5
log_low log lt = lt_of_not-le (λ (le : 5 ≤ log). let p : 32 ≤ 2 ^ log = pow_mono le in omega (arith, p, lt))

pub small_chunk : (index log : ℕ) → index / 512 < 31 → 2 ^ log ≤ index / 512 + 1 → index / 512 + 1 < 2 * 2 ^ log → log < 5 → chunk_of index ≡ log
small_chunk index log few low high most =
    let before = small_capacity log (omega (arith, most)) in
    let after = small_capacity (log + 1) (omega (arith, most)) in
    let one : log + 1 ≡ suc log = omega arith in
    let double : 2 ^ (log + 1) ≡ 2 ^ log * 2 = ap (λ (k : ℕ). 2 ^ k) one ∙ pow-suc 2 log in
    chunk_is log index (omega (arith, most)) (omega (arith, before, low)) (omega (arith, after, high, double))

pub large_chunk : (index : ℕ) → 31 ≤ index / 512 → index < capacity_of 12 → chunk_of index ≡ (index / 512 + 1) / 32 + 4
large_chunk index many within =
    let k = (index / 512 + 1) / 32 - 1 in
    let most : index < 130560 = within in
    let before = large_capacity k in
    let after = large_capacity (k + 1) in
    let same : k + 5 ≡ (index / 512 + 1) / 32 + 4 = omega (arith, many) in
    let one : k + 5 + 1 ≡ k + 1 + 5 = omega arith in
    let next = ap capacity_of one in
    chunk_is (k + 5) index (omega (arith, most)) (omega (arith, before, many)) (omega (arith, after, next, many)) ∙ same

-- an index below the capacity lies in a chunk below the count
pub chunk_below : (index count : ℕ) → count ≤ 12 → index < capacity_of count → (chunk_of index < count) × (capacity_of (chunk_of index) ≤ index) × (index < capacity_of (chunk_of index + 1))
chunk_below index zero le lt = absurd (omega (arith, lt))
chunk_below index (suc count) le lt = ⊎_elim
    (λ before. let rest = chunk_below index count (omega (arith, le)) before in (omega (arith, rest.0), rest.1, rest.2))
    (λ here.
    let is = chunk_is count index (omega (arith, le)) here (omega (arith, lt, capacity_next count)) in
    let low = ap capacity_of is in
    let one : chunk_of index + 1 ≡ suc count = omega (arith, is) in
    let high = ap capacity_of one in
    (omega (arith, is), omega (arith, here, low), omega (arith, lt, high)))
    (cases_lt index (capacity_of count))
