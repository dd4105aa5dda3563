-- Bytes without a fault are the spelling of an image.
use Rattle.std.proofs.Common.{◌≡◌, ℕ, zero, suc, ◌+◌, ◌-◌, ◌*◌, ◌^◌, ◌<◌, ◌≤◌, true, false, not, ◌&&◌, eqb, ltb, leb, List, [], ◌++◌, length, drop, All, None, refl, sym, ap, ◌∙◌, arith, inl, inr}
use Rattle.std.specs.Prelude.{replicate}
use Rattle.std.proofs.lemmas.Bool.{ltb-false, ltb-true, leb-true, eqb-true, not-true, and_parts, cases_lt}
use Rattle.std.proofs.lemmas.List.{get_or_past}
use Rattle.std.proofs.lemmas.List.Elements.{All-append, All-nil, All-replicate, All-cons, All-get_or}
use Rattle.byteorder.specs.Endian.{little_number}
use Rattle.byteorder.specs.Numbers.{little_from-lt}
use Rattle.pm_image.specs.declared.error.ImageError.TheVariants.{BadPage, Truncated, Trailing}
use Rattle.pm_image.specs.Spelling.{IsImage, is_blank, stored, pages_spelling, spelling}
use Rattle.pm_image.specs.Fault.{number_at, words_in, is_page, items_fault, first_fault}
use Rattle.pm_image.proofs.Words.{IsBytes, IsBytes-drop}
use Rattle.pm_image.proofs.Reading.{ReadSoFar, begins, goes_on, kept, is_done, items_fault-suc, items_fault-zero, length-zeros}
use Rattle.pm_image.proofs.Found.{header_found, image_found}
use Rattle.pm_image.proofs.Again.{guard_none, guard_some, fields_of}

IsBytes-from_all : (bytes : List ℕ) → All (λ byte. byte < 256) bytes → IsBytes bytes
IsBytes-from_all bytes each i =
    elim (cases_lt i (length bytes)) [
      | inl lt ↦ All-get_or (λ byte. byte < 256) bytes i 0 lt each
      | inr le ↦ rw (get_or_past bytes i 0 le) (omega arith)
    ]

-- each word has 64 bits
abbrev Fit : List ℕ → Type 0
Fit words = All (λ word. word < 2 ^ 64) words

zeros-fit : (n : ℕ) → Fit (replicate n 0)
zeros-fit n = All-replicate (λ word. word < 2 ^ 64) n 0 (omega arith)

both_fit : (front back : List ℕ) → Fit front → Fit back → Fit (front ++ back)
both_fit front back = All-append (λ word. word < 2 ^ 64) front back

words_in-fit : (count : ℕ) (bytes : List ℕ) → IsBytes bytes → Fit (words_in count bytes)
unfolding words_in
words_in-fit zero bytes fits = All-nil (λ word. word < 2 ^ 64)
words_in-fit (suc count) bytes fits =
    All-cons (λ word. word < 2 ^ 64) (little_number 8 bytes) (words_in count (drop 8 bytes)) (little_from-lt 0 8 bytes fits) (words_in-fit count (drop 8 bytes) (IsBytes-drop 8 bytes fits))

-- words of which the items are the spelling
record Spelled (items : List ℕ) (count limit : ℕ) : Type 0 where
  pub words : List ℕ
  pub fit : Fit words
  pub size : length words ≡ 512 * limit
  pub counted : length (stored limit 0 words) ≡ count
  pub spelled : items ≡ pages_spelling (stored limit 0 words)

record IsGood (low limit : ℕ) (rest : List ℕ) : Type 0 where
  pub above : low ≤ number_at 0 rest
  pub below : number_at 0 rest < limit
  pub filled : is_blank (words_in 512 (drop 4 rest)) ≡ false

is_good : (low limit : ℕ) (rest : List ℕ) → is_page low limit rest ≡ true → IsGood low limit rest
unfolding is_page
is_good low limit rest good =
    let outer = and_parts (leb low (number_at 0 rest) && ltb (number_at 0 rest) limit) (not (is_blank (words_in 512 (drop 4 rest)))) good in
    let inner = and_parts (leb low (number_at 0 rest)) (ltb (number_at 0 rest) limit) outer.0 in
    record {
      above = leb-true low (number_at 0 rest) inner.0;
      below = ltb-true (number_at 0 rest) limit inner.1;
      filled = not-true (is_blank (words_in 512 (drop 4 rest))) outer.1;
    }

items_found : (n : ℕ) (items words rest : List ℕ) (count at low limit : ℕ) → at + n ≡ count → ReadSoFar items words rest count at low limit → IsBytes rest → Fit words
    → items_fault n at low limit rest ≡ None → Spelled items count limit
items_found zero items words rest count at low limit e was fits fit none =
    let empty = guard_some (eqb (length rest) 0) (Trailing (20 + 4100 * at)) None (sym (items_fault-zero zero at low limit rest refl) ∙ none) in
    let zeros : List ℕ = replicate (512 * limit - length words) 0 in
    let same : stored limit 0 (words ++ zeros) ≡ stored low 0 words = kept words (words ++ zeros) low limit was.room was.size refl in
    record {
      words = words ++ zeros;
      fit = both_fit words zeros fit (zeros-fit (512 * limit - length words));
      size = length-zeros words low limit was.size was.room;
      counted = ap length same ∙ omega (arith, was.counted);
      spelled = (is_done items words rest count at low limit was (omega arith) (eqb-true (length rest) 0 empty.0)).1 ∙ ap pages_spelling (sym same);
    }
items_found (suc n) items words rest count at low limit e was fits fit none =
    let page : ℕ = number_at 0 rest in
    let page_words : List ℕ = words_in 512 (drop 4 rest) in
    let zeros : List ℕ = replicate (512 * page - length words) 0 in
    let new : List ℕ = (words ++ zeros) ++ page_words in
    let long = guard_none (ltb (length rest) 4100) Truncated _ (sym (items_fault-suc (suc n) n at low limit rest refl) ∙ none) in
    let good = guard_some (is_page low limit rest) (BadPage at) _ long.1 in
    let is = is_good low limit rest good.0 in
    let next : ReadSoFar items new (drop 4100 rest) count (at + 1) (page + 1) limit =
    goes_on items words rest new count at low limit page was (omega arith) fits (ltb-false (length rest) 4100 long.0) refl is.above is.below is.filled refl in
    items_found n items new (drop 4100 rest) count (at + 1) (page + 1) limit (omega arith) next (IsBytes-drop 4100 rest fits)
    (both_fit (words ++ zeros) page_words
    (both_fit words zeros fit (zeros-fit (512 * page - length words)))
    (words_in-fit 512 (drop 4 rest) (IsBytes-drop 4 rest fits)))
    good.1

pub image_of : (bytes : List ℕ) → All (λ byte. byte < 256) bytes → first_fault bytes ≡ None → (words : List ℕ) × (IsImage words × (bytes ≡ spelling words))
image_of bytes each none =
    let fits : IsBytes bytes = IsBytes-from_all bytes each in
    let fields = fields_of bytes none in
    let segments : ℕ = number_at 12 bytes in
    let count : ℕ = number_at 16 bytes in
    let items : List ℕ = drop 20 bytes in
    let size = and_parts (leb 1 segments) (leb segments 128) fields.segments in
    let header = header_found bytes fits (ltb-false (length bytes) 20 fields.long) fields.starts (eqb-true (number_at 8 bytes) 1 fields.version) in
    let found = items_found count items [] items count 0 0 (64 * segments) (omega arith) (begins items count (64 * segments)) (IsBytes-drop 20 bytes fits) (All-nil (λ word. word < 2 ^ 64)) fields.items in (
      found.words,
      image_found bytes found.words segments count header (leb-true 1 segments size.0) (leb-true segments 128 size.1) found.fit (omega (arith, found.size)) found.counted found.spelled,
    )
