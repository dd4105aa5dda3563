-- Reading the items of an image one after the other.
use Rattle.std.proofs.Common.{◌≡◌, ℕ, suc, ◌+◌, ◌-◌, ◌*◌, ◌<◌, ◌≤◌, true, false, cond, not, ◌&&◌, eqb, ltb, leb, List, [], ◌∷◌, ◌++◌, length, take, drop, Some, None, refl, sym, ap, ◌∙◌, append_assoc, arith}
use Rattle.std.specs.Prelude.{replicate}
use Rattle.std.proofs.lemmas.Bool.{lt-ltb, le-ltb, le-leb, lt-leb, ne_eqb, eq-eqb, and_left, and_right}
use Rattle.std.proofs.lemmas.List.{append-nil, nil_from_length, length-append, length-drop, length-replicate, take-append-drop, take_rest, drop_at}
use Rattle.std.proofs.lemmas.List.Concat.{flat_map-append}
use Rattle.byteorder.specs.Endian.{little_number}
use Rattle.pm_image.specs.declared.error.ImageError.TheVariants.{BadPage, Truncated, Trailing}
use Rattle.pm_image.specs.Spelling.{Page, is_blank, stored, page_spelling, pages_spelling, number_spelling, words_spelling}
use Rattle.pm_image.specs.Fault.{number_at, words_in, is_page, items_fault}
use Rattle.pm_image.proofs.Words.{IsBytes, IsBytes-drop, bytes_back_4, append_both, take_both, words_spelling-words_in, length-words_in}
use Rattle.pm_image.proofs.Stored.{is_blank-replicate, stored-append_blank, stored_push, stored-zero}

-- the words of the pages below `low` come from the items before the item `at`
pub record ReadSoFar (items words rest : List ℕ) (count at low limit : ℕ) : Type 0 where
  pub room : low ≤ limit
  pub size : length words ≡ 512 * low
  pub counted : length (stored low 0 words) ≡ at
  pub spelled : items ≡ pages_spelling (stored low 0 words) ++ rest
  pub fault : items_fault (count - at) at low limit rest ≡ items_fault count 0 0 limit items

pub begins : (items : List ℕ) (count limit : ℕ) → ReadSoFar items [] items count 0 0 limit
begins items count limit =
    let nothing : stored 0 0 [] ≡ [] = stored-zero 0 0 [] refl in
    record {
      room = omega arith;
      size = refl;
      counted = ap length nothing;
      spelled = ap (λ (ps : List Page). pages_spelling ps ++ items) (sym nothing);
      fault = ap (λ (n : ℕ). items_fault n 0 0 limit items) (omega arith);
    }

pub number_at_zero : (bytes : List ℕ) → number_at 0 bytes ≡ little_number 4 bytes
unfolding number_at
number_at_zero bytes = refl

pub items_fault-suc : (n count at low limit : ℕ) (rest : List ℕ) → n ≡ suc count → items_fault n at low limit rest
    ≡ cond (ltb (length rest) 4100) (Some Truncated) (cond (is_page low limit rest) (items_fault count (at + 1) (number_at 0 rest + 1) limit (drop 4100 rest)) (Some (BadPage at)))
unfolding items_fault
items_fault-suc n count at low limit rest e = ap (λ (k : ℕ). items_fault k at low limit rest) e

pub items_fault-zero : (n at low limit : ℕ) (rest : List ℕ) → n ≡ 0 → items_fault n at low limit rest ≡ cond (eqb (length rest) 0) None (Some (Trailing (20 + 4100 * at)))
unfolding items_fault
items_fault-zero n at low limit rest e = ap (λ (k : ℕ). items_fault k at low limit rest) e

pub is_short : (items words rest : List ℕ) (count at low limit : ℕ) → ReadSoFar items words rest count at low limit → at < count → length rest < 4100
    → items_fault count 0 0 limit items ≡ Some Truncated
is_short items words rest count at low limit was lt short =
    sym was.fault ∙ items_fault-suc (count - at) (count - (at + 1)) at low limit rest (omega arith) ∙ rw (lt-ltb (length rest) 4100 short) refl

pub is_bad : (items words rest : List ℕ) (count at low limit : ℕ) → ReadSoFar items words rest count at low limit → at < count → 4100 ≤ length rest → is_page low limit rest ≡ false
    → items_fault count 0 0 limit items ≡ Some (BadPage at)
is_bad items words rest count at low limit was lt long bad =
    sym was.fault ∙ items_fault-suc (count - at) (count - (at + 1)) at low limit rest (omega arith) ∙ rw (le-ltb (length rest) 4100 long, bad) refl

pub is_below : (low limit : ℕ) (rest : List ℕ) → number_at 0 rest < low → is_page low limit rest ≡ false
unfolding is_page
is_below low limit rest lt = rw (lt-leb low (number_at 0 rest) lt) refl

pub is_above : (low limit : ℕ) (rest : List ℕ) → limit ≤ number_at 0 rest → is_page low limit rest ≡ false
unfolding is_page
is_above low limit rest le =
    and_left (leb low (number_at 0 rest) && ltb (number_at 0 rest) limit) (not (is_blank (words_in 512 (drop 4 rest))))
    (and_right (leb low (number_at 0 rest)) (ltb (number_at 0 rest) limit) (le-ltb (number_at 0 rest) limit le))

pub is_blank_page : (low limit : ℕ) (rest : List ℕ) → is_blank (words_in 512 (drop 4 rest)) ≡ true → is_page low limit rest ≡ false
unfolding is_page
is_blank_page low limit rest blank =
    and_right (leb low (number_at 0 rest) && ltb (number_at 0 rest) limit) (not (is_blank (words_in 512 (drop 4 rest)))) (ap not blank)

pub is_good_page : (low limit : ℕ) (rest : List ℕ) → low ≤ number_at 0 rest → number_at 0 rest < limit → is_blank (words_in 512 (drop 4 rest)) ≡ false → is_page low limit rest ≡ true
unfolding is_page
is_good_page low limit rest le lt filled = rw (le-leb low (number_at 0 rest) le, lt-ltb (number_at 0 rest) limit lt, filled) refl

-- an item is the spelling of its page
pub item_spelled : (rest : List ℕ) → IsBytes rest → 4100 ≤ length rest
    → rest ≡ page_spelling (record { number = number_at 0 rest; words = words_in 512 (drop 4 rest) }) ++ drop 4100 rest
unfolding page_spelling number_spelling
item_spelled rest fits long =
    let number : number_spelling (number_at 0 rest) ≡ take 4 rest = ap number_spelling (number_at_zero rest) ∙ bytes_back_4 rest fits (omega arith) in
    let words : words_spelling (words_in 512 (drop 4 rest)) ≡ take 4096 (drop 4 rest) = words_spelling-words_in 512 (drop 4 rest) (IsBytes-drop 4 rest fits) (omega (arith, length-drop 4 rest)) in
    let both = append_both (number_spelling (number_at 0 rest)) (take 4 rest) (words_spelling (words_in 512 (drop 4 rest))) (take 4096 (drop 4 rest)) number words ∙ take_both 4 4096 rest in
    sym (take-append-drop 4100 rest) ∙ ap (λ (front : List ℕ). front ++ drop 4100 rest) (sym both)

pub goes_on : (items words rest new : List ℕ) (count at low limit page : ℕ) → ReadSoFar items words rest count at low limit → at < count → IsBytes rest → 4100 ≤ length rest
    → page ≡ number_at 0 rest → low ≤ page → page < limit → is_blank (words_in 512 (drop 4 rest)) ≡ false
    → new ≡ (words ++ replicate (512 * page - length words) 0) ++ words_in 512 (drop 4 rest)
    → ReadSoFar items new (drop 4100 rest) count (at + 1) (page + 1) limit
goes_on items words rest new count at low limit page was lt fits long is le below filled made =
    let zeros : List ℕ = replicate (512 * page - length words) 0 in
    let page_words : List ℕ = words_in 512 (drop 4 rest) in
    let first : Page = record { number = page; words = page_words } in
    let size : length (words ++ zeros) ≡ 512 * page = omega (arith, was.size, length-append words zeros, length-replicate {A = ℕ} (512 * page - length words) 0) in
    let page_size : length page_words ≡ 512 = length-words_in 512 (drop 4 rest) in
    let kept : stored page 0 (words ++ zeros) ≡ stored low 0 words = stored-append_blank page low words zeros le was.size (is_blank-replicate (512 * page - length words)) in
    let pages : stored (page + 1) 0 new ≡ stored low 0 words ++ first ∷ [] =
    ap (stored (page + 1) 0) made ∙ stored_push page (words ++ zeros) page_words size page_size filled ∙ ap (λ (ps : List Page). ps ++ first ∷ []) kept in
    let item : rest ≡ page_spelling first ++ drop 4100 rest =
    item_spelled rest fits long ∙ ap (λ (n : ℕ). page_spelling (record { number = n; words = page_words }) ++ drop 4100 rest) (sym is) in
    let spelled : items ≡ pages_spelling (stored (page + 1) 0 new) ++ drop 4100 rest =
    was.spelled
    ∙ ap (λ (bytes : List ℕ). pages_spelling (stored low 0 words) ++ bytes) item
    ∙ sym (append_assoc (pages_spelling (stored low 0 words)) (page_spelling first) (drop 4100 rest))
    ∙ ap (λ (bytes : List ℕ). (pages_spelling (stored low 0 words) ++ bytes) ++ drop 4100 rest) (sym (append-nil (page_spelling first)))
    ∙ ap (λ (bytes : List ℕ). bytes ++ drop 4100 rest) (sym (flat_map-append page_spelling (stored low 0 words) (first ∷ [])))
    ∙ ap (λ (ps : List Page). pages_spelling ps ++ drop 4100 rest) (sym pages) in
    let good : is_page low limit rest ≡ true = is_good_page low limit rest (omega arith) (omega arith) filled in
    let one : items_fault (count - at) at low limit rest ≡ items_fault (count - (at + 1)) (at + 1) (page + 1) limit (drop 4100 rest) =
    items_fault-suc (count - at) (count - (at + 1)) at low limit rest (omega arith)
    ∙ rw (le-ltb (length rest) 4100 long, good) (ap (λ (n : ℕ). items_fault (count - (at + 1)) (at + 1) (n + 1) limit (drop 4100 rest)) (sym is)) in
    record {
      room = omega arith;
      size = omega (arith, ap length made, length-append (words ++ zeros) page_words, size, page_size);
      counted = omega (arith, ap length pages, length-append (stored low 0 words) (first ∷ []), was.counted);
      spelled = spelled;
      fault = sym one ∙ was.fault;
    }

-- the words that were added last
pub last_words : (front page new : List ℕ) (n : ℕ) → length front ≡ n → new ≡ front ++ page → take (length new - n) (drop n new) ≡ page
last_words front page new n len e = take_rest new n ∙ ap (drop n) e ∙ drop_at front page n len

pub length-zeros : (words : List ℕ) (low page : ℕ) → length words ≡ 512 * low → low ≤ page → length (words ++ replicate (512 * page - length words) 0) ≡ 512 * page
length-zeros words low page size le =
    let zeros : List ℕ = replicate (512 * page - length words) 0 in
    omega (arith, size, length-append words zeros, length-replicate {A = ℕ} (512 * page - length words) 0)

-- the zeros at the end are no stored page
pub kept : (words new : List ℕ) (low limit : ℕ) → low ≤ limit → length words ≡ 512 * low → new ≡ words ++ replicate (512 * limit - length words) 0 → stored limit 0 new ≡ stored low 0 words
kept words new low limit room size made =
    ap (stored limit 0) made ∙ stored-append_blank limit low words (replicate (512 * limit - length words) 0) room size (is_blank-replicate (512 * limit - length words))

pub is_trailing : (items words rest : List ℕ) (count at low limit : ℕ) → ReadSoFar items words rest count at low limit → count ≤ at → at ≤ count → (length rest ≡ 0 → ⊥)
    → items_fault count 0 0 limit items ≡ Some (Trailing (20 + 4100 * count))
is_trailing items words rest count at low limit was le ge more =
    sym was.fault ∙ items_fault-zero (count - at) at low limit rest (omega arith) ∙ rw (ne_eqb (length rest) 0 more) (ap (λ (n : ℕ). Some (Trailing (20 + 4100 * n))) (omega arith))

pub is_done : (items words rest : List ℕ) (count at low limit : ℕ) → ReadSoFar items words rest count at low limit → count ≤ at → length rest ≡ 0
    → (items_fault count 0 0 limit items ≡ None) × (items ≡ pages_spelling (stored low 0 words))
is_done items words rest count at low limit was le none = (
  sym was.fault ∙ items_fault-zero (count - at) at low limit rest (omega arith) ∙ rw (eq-eqb (length rest) 0 none) refl,
  was.spelled ∙ ap (λ (bytes : List ℕ). pages_spelling (stored low 0 words) ++ bytes) (nil_from_length rest none) ∙ append-nil (pages_spelling (stored low 0 words)),
)
