-- What is spelled is read without a fault, has one spelling, and ends in no part of itself.
use Rattle.std.proofs.Common.{◌≡◌, ℕ, zero, suc, ◌+◌, ◌*◌, ◌/◌, ◌^◌, ◌<◌, ◌≤◌, ◌⊎◌, Bool, true, false, cond, not, ◌&&◌, eqb, nat_eq, ltb, leb, List, [], ◌∷◌, ◌++◌, length, take, drop, Option, Some, None, refl, sym, ap, ◌∙◌, append_assoc, arith, inl, inr}
use Rattle.std.specs.Prelude.{IfOk, Result, Ok, Err}
use Rattle.std.specs.Global.{Vec}
use Rattle.std.specs.List.{starts_with, AllByRecursion}
use Rattle.std.proofs.lemmas.Bool.{lt-ltb, le-ltb, le-leb, eqb-true, cases_lt, cases_Bool, and_parts, not-false}
use Rattle.std.proofs.lemmas.Bool.Decides.{Decides-eqb}
use Rattle.std.proofs.lemmas.List.{take-append-drop, nil_from_length, length-append, length-drop, length-take-le, drop_at, drop-drop, take-append-le, drop-append-le}
use Rattle.std.proofs.lemmas.List.Elements.{recursion_from_All}
use Rattle.std.specs.Cmp.Lexicographic.{pointwise}
use Rattle.std.proofs.lemmas.Slice.Eq.{starts_is}
use Rattle.byteorder.specs.Endian.{little_number}
use Rattle.byteorder.specs.Numbers.{little_from-append, little_number-reads_back}
use Rattle.pm_image.specs.declared.error.ImageError.{ImageError}
use Rattle.pm_image.specs.declared.error.ImageError.TheVariants.{BadMagic, BadVersion, BadSize, BadPage, Truncated, Trailing, NoMemory}
use Rattle.pm_image.specs.Spelling.{Page, IsWhole, IsImage, is_blank, magic, stored, header_spelling, page_spelling, pages_spelling, number_spelling, words_spelling, spelling}
use Rattle.pm_image.specs.Fault.{number_at, words_in, is_page, items_fault, first_fault, Answers, Reads}
use Rattle.pm_image.proofs.Words.{words_in-words_spelling, words_in-append, length-words_spelling}
use Rattle.pm_image.proofs.Header.{length-header_spelling, length-number_spelling, length-magic}
use Rattle.pm_image.proofs.Stored.{stored-suc_blank, stored-suc_filled, stored-zero}
use Rattle.pm_image.proofs.Reading.{items_fault-suc, is_good_page}

abbrev pub AreWords : List ℕ → Type 0
AreWords words = AllByRecursion (λ word. word < 2 ^ 64) words

AreWords-take : (n : ℕ) (words : List ℕ) → AreWords words → AreWords (take n words)
AreWords-take zero words h = tt
AreWords-take (suc n) [] h = tt
AreWords-take (suc n) (word ∷ words) h = (h.0, AreWords-take n words h.1)

AreWords-drop : (n : ℕ) (words : List ℕ) → AreWords words → AreWords (drop n words)
AreWords-drop zero words h = h
AreWords-drop (suc n) [] h = tt
AreWords-drop (suc n) (word ∷ words) h = AreWords-drop n words h.1

-- ---- what is read from a spelling

number_at_spelling : (place number : ℕ) (bytes rest : List ℕ) → drop place bytes ≡ number_spelling number ++ rest → number < 2 ^ 32 → number_at place bytes ≡ number
unfolding number_at number_spelling
number_at_spelling place number bytes rest e fits = ap (little_number 4) e ∙ little_number-reads_back 4 number rest fits

record PageReads (number : ℕ) (page rest bytes : List ℕ) : Type 0 where
  pub number_is : number_at 0 bytes ≡ number
  pub words_are : words_in 512 (drop 4 bytes) ≡ page
  pub rest_is : drop 4100 bytes ≡ rest
  pub long : 4100 ≤ length bytes

page_reads : (number : ℕ) (page rest : List ℕ) → number < 2 ^ 32 → length page ≡ 512 → AreWords page → PageReads number page rest (page_spelling (record { number = number; words = page }) ++ rest)
unfolding page_spelling
page_reads number page rest fits size words =
    let front : List ℕ = number_spelling number in
    let body : List ℕ = words_spelling page in
    let regrouped : (front ++ body) ++ rest ≡ front ++ (body ++ rest) = append_assoc front body rest in
    let after : drop 4 ((front ++ body) ++ rest) ≡ body ++ rest = ap (drop 4) regrouped ∙ drop_at front (body ++ rest) 4 (length-number_spelling number) in
    let len : length (front ++ body) ≡ 4100 = omega (arith, length-append front body, length-number_spelling number, length-words_spelling page, size) in
    record {
      number_is = number_at_spelling 0 number ((front ++ body) ++ rest) (body ++ rest) regrouped fits;
      words_are = ap (words_in 512) after ∙ ap (λ (n : ℕ). words_in n (body ++ rest)) (sym size) ∙ words_in-words_spelling page rest words;
      rest_is = drop_at (front ++ body) rest 4100 len;
      long = omega (arith, length-append (front ++ body) rest, len);
    }

record HeaderReads (segments pages : ℕ) (rest bytes : List ℕ) : Type 0 where
  pub starts : starts_with nat_eq bytes magic ≡ true
  pub version : number_at 8 bytes ≡ 1
  pub segments_are : number_at 12 bytes ≡ segments
  pub pages_are : number_at 16 bytes ≡ pages
  pub rest_is : drop 20 bytes ≡ rest
  pub long : 20 ≤ length bytes

header_reads : (segments pages : ℕ) (rest : List ℕ) → segments < 2 ^ 32 → pages < 2 ^ 32 → HeaderReads segments pages rest (header_spelling segments pages ++ rest)
unfolding header_spelling
header_reads segments pages rest s p =
    let a : List ℕ = number_spelling 1 in
    let b : List ℕ = number_spelling segments in
    let c : List ℕ = number_spelling pages in
    let bytes : List ℕ = (((magic ++ a) ++ b) ++ c) ++ rest in
    let first : bytes ≡ magic ++ (a ++ (b ++ (c ++ rest))) =
    append_assoc ((magic ++ a) ++ b) c rest ∙ append_assoc (magic ++ a) b (c ++ rest) ∙ append_assoc magic a (b ++ (c ++ rest)) in
    let second : drop 8 bytes ≡ a ++ (b ++ (c ++ rest)) = ap (drop 8) first ∙ drop_at magic (a ++ (b ++ (c ++ rest))) 8 length-magic in
    let third : drop 12 bytes ≡ b ++ (c ++ rest) = sym (drop-drop 4 8 bytes) ∙ ap (drop 4) second ∙ drop_at a (b ++ (c ++ rest)) 4 (length-number_spelling 1) in
    let fourth : drop 16 bytes ≡ c ++ rest = sym (drop-drop 4 12 bytes) ∙ ap (drop 4) third ∙ drop_at b (c ++ rest) 4 (length-number_spelling segments) in
    let fifth : drop 20 bytes ≡ rest = sym (drop-drop 4 16 bytes) ∙ ap (drop 4) fourth ∙ drop_at c rest 4 (length-number_spelling pages) in
    record {
      starts = (starts_is Decides-eqb bytes magic (starts_with nat_eq bytes magic) refl).1 (a ++ (b ++ (c ++ rest))) first;
      version = number_at_spelling 8 1 bytes (b ++ (c ++ rest)) second (omega arith);
      segments_are = number_at_spelling 12 segments bytes (c ++ rest) third s;
      pages_are = number_at_spelling 16 pages bytes rest fourth p;
      rest_is = fifth;
      long = omega (arith, length-append (((magic ++ a) ++ b) ++ c) rest, length-header_spelling segments pages);
    }

-- ---- no fault in a spelling

no_items : (at low limit : ℕ) → items_fault 0 at low limit [] ≡ None
unfolding items_fault
no_items at low limit = refl

items_sound : (count at low limit number : ℕ) (words : List ℕ) → low ≤ number → number + count ≤ limit → limit ≤ 2 ^ 32 → length words ≡ 512 * count → AreWords words
    → items_fault (length (stored count number words)) at low limit (pages_spelling (stored count number words)) ≡ None
items_sound zero at low limit number words below room small size fits =
    ap (λ (ps : List Page). items_fault (length ps) at low limit (pages_spelling ps)) (stored-zero zero number words refl) ∙ no_items at low limit
items_sound (suc count) at low limit number words below room small size fits =
    let page : List ℕ = take 512 words in
    let others : List Page = stored count (number + 1) (drop 512 words) in
    let len : length (drop 512 words) ≡ 512 * count = omega (arith, length-drop 512 words, size) in
    let after = AreWords-drop 512 words fits in
    elim (cases_Bool (is_blank page)) [
      | inl blank ↦
          ap (λ (ps : List Page). items_fault (length ps) at low limit (pages_spelling ps)) (stored-suc_blank count number words blank)
          ∙ items_sound count at low limit (number + 1) (drop 512 words) (omega arith) (omega arith) small len after
      | inr filled ↦
          let first : Page = record { number = number; words = page } in
          let bytes : List ℕ = page_spelling first ++ pages_spelling others in
          let reads = page_reads number page (pages_spelling others) (omega arith) (length-take-le 512 words (omega arith)) (AreWords-take 512 words fits) in
          let good : is_page low limit bytes ≡ true =
          is_good_page low limit bytes (omega (arith, reads.number_is)) (omega (arith, reads.number_is)) (ap is_blank reads.words_are ∙ filled) in
          ap (λ (ps : List Page). items_fault (length ps) at low limit (pages_spelling ps)) (stored-suc_filled count number words filled)
          ∙ items_fault-suc (suc (length others)) (length others) at low limit bytes refl
          ∙ rw (le-ltb (length bytes) 4100 reads.long, good) (ap (items_fault (length others) (at + 1) (number_at 0 bytes + 1) limit) reads.rest_is)
          ∙ items_sound count (at + 1) (number_at 0 bytes + 1) limit (number + 1) (drop 512 words) (omega (arith, reads.number_is)) (omega arith) small len after
    ]

-- the parts of a spelling
record Parts (words : List ℕ) (segments : ℕ) : Type 0 where
  pub size : length words ≡ 32768 * segments
  pub some : 1 ≤ segments
  pub most : segments ≤ 128
  pub spelled : spelling words ≡ header_spelling segments (length (stored (64 * segments) 0 words)) ++ pages_spelling (stored (64 * segments) 0 words)
  pub few : length (stored (64 * segments) 0 words) ≤ 64 * segments

length-stored : (count number : ℕ) (words : List ℕ) → length (stored count number words) ≤ count
length-stored zero number words = omega (arith, ap length (stored-zero zero number words refl))
length-stored (suc count) number words =
    let others : List Page = stored count (number + 1) (drop 512 words) in
    let less = length-stored count (number + 1) (drop 512 words) in
    elim (cases_Bool (is_blank (take 512 words))) [
      | inl blank ↦ let e : stored (suc count) number words ≡ others = stored-suc_blank count number words blank in omega (arith, ap length e, less)
      | inr filled ↦ let e : stored (suc count) number words ≡ record { number = number; words = take 512 words } ∷ others = stored-suc_filled count number words filled in omega (arith, ap length e, less)
    ]

parts : (words : List ℕ) → IsWhole words → Parts words (length words / 32768)
unfolding spelling
parts words whole =
    let m : length words / 512 ≡ 64 * (length words / 32768) = omega (arith, whole.segments) in
    record {
      size = omega (arith, whole.segments);
      some = omega (arith, whole.segments, whole.some);
      most = omega (arith, whole.segments, whole.limit);
      spelled = ap (λ (k : ℕ). header_spelling (length words / 32768) (length (stored k 0 words)) ++ pages_spelling (stored k 0 words)) m;
      few = length-stored (64 * (length words / 32768)) 0 words;
    }

fields_pass : (bytes : List ℕ) (segments pages : ℕ) (rest : List ℕ) → HeaderReads segments pages rest bytes → 1 ≤ segments → segments ≤ 128 → pages ≤ 64 * segments
    → first_fault bytes ≡ items_fault pages 0 0 (64 * segments) rest
unfolding first_fault
fields_pass bytes segments pages rest reads some most few =
    rw (
      le-ltb (length bytes) 8 (omega (arith, reads.long)),
      reads.starts,
      le-ltb (length bytes) 12 (omega (arith, reads.long)),
      reads.version,
      le-ltb (length bytes) 16 (omega (arith, reads.long)),
      reads.segments_are,
      le-leb 1 segments some,
      le-leb segments 128 most,
      le-ltb (length bytes) 20 reads.long,
      reads.pages_are,
      le-ltb (64 * segments) pages few,
      reads.rest_is,
    ) refl

pub no_fault : (words : List ℕ) → IsImage words → first_fault (spelling words) ≡ None
no_fault words image =
    let segments : ℕ = length words / 32768 in
    let made = parts words image.whole in
    let pages : List Page = stored (64 * segments) 0 words in
    let reads = header_reads segments (length pages) (pages_spelling pages) (omega (arith, made.most)) (omega (arith, made.few, made.most)) in
    ap first_fault made.spelled
    ∙ fields_pass (header_spelling segments (length pages) ++ pages_spelling pages) segments (length pages) (pages_spelling pages) reads made.some made.most made.few
    ∙ items_sound (64 * segments) 0 0 (64 * segments) 0 words (omega arith) (omega arith) (omega (arith, made.most)) (omega (arith, made.size)) (recursion_from_All (λ word. word < 2 ^ 64) words image.each)

-- ---- one spelling

blank_same : (xs ys : List ℕ) → length xs ≡ length ys → is_blank xs ≡ true → is_blank ys ≡ true → xs ≡ ys
blank_same [] [] len a b = refl
blank_same [] (y ∷ ys) len a b = absurd (omega (arith, len))
blank_same (x ∷ xs) [] len a b = absurd (omega (arith, len))
blank_same (x ∷ xs) (y ∷ ys) len a b =
    let p = and_parts (eqb x 0) (is_blank xs) a in
    let q = and_parts (eqb y 0) (is_blank ys) b in
    let first : x ≡ y = eqb-true x 0 p.0 ∙ sym (eqb-true y 0 q.0) in
    let others : xs ≡ ys = blank_same xs ys (omega (arith, len)) p.1 q.1 in
    cc

-- the first number that is spelled isn't below that of the first page
first_number : (count number : ℕ) (words : List ℕ) → number + count ≤ 2 ^ 32 → length words ≡ 512 * count → AreWords words
    → (length (pages_spelling (stored count number words)) ≡ 0) ⊎ (number ≤ number_at 0 (pages_spelling (stored count number words)))
first_number zero number words small size fits = inl (ap (λ (ps : List Page). length (pages_spelling ps)) (stored-zero zero number words refl))
first_number (suc count) number words small size fits =
    let page : List ℕ = take 512 words in
    let others : List Page = stored count (number + 1) (drop 512 words) in
    let len : length (drop 512 words) ≡ 512 * count = omega (arith, length-drop 512 words, size) in
    elim (cases_Bool (is_blank page)) [
      | inl blank ↦
          let e : stored (suc count) number words ≡ others = stored-suc_blank count number words blank in
          elim (first_number count (number + 1) (drop 512 words) (omega arith) len (AreWords-drop 512 words fits)) [
            | inl none ↦ inl (ap (λ (ps : List Page). length (pages_spelling ps)) e ∙ none)
            | inr above ↦ inr (omega (arith, ap (λ (ps : List Page). number_at 0 (pages_spelling ps)) e, above))
          ]
      | inr filled ↦
          let first : Page = record { number = number; words = page } in
          let e : stored (suc count) number words ≡ first ∷ others = stored-suc_filled count number words filled in
          let reads = page_reads number page (pages_spelling others) (omega arith) (length-take-le 512 words (omega arith)) (AreWords-take 512 words fits) in
          inr (omega (arith, ap (λ (ps : List Page). number_at 0 (pages_spelling ps)) e, reads.number_is))
    ]

apart : (count number : ℕ) (words page rest : List ℕ) → number + suc count ≤ 2 ^ 32 → length words ≡ 512 * count → AreWords words → length page ≡ 512 → AreWords page
    → pages_spelling (stored count (number + 1) words) ≡ page_spelling (record { number = number; words = page }) ++ rest → ⊥
apart count number words page rest small size fits page_size page_fits e =
    let reads = page_reads number page rest (omega arith) page_size page_fits in
    let len = ap length e in
    let number_is = ap (number_at 0) e in
    elim (first_number count (number + 1) words (omega arith) size fits) [
      | inl none ↦ omega (arith, none, len, reads.long)
      | inr above ↦ omega (arith, above, number_is, reads.number_is)
    ]

same_pages : (count number : ℕ) (a b : List ℕ) → number + count ≤ 2 ^ 32 → length a ≡ 512 * count → length b ≡ 512 * count → AreWords a → AreWords b
    → pages_spelling (stored count number a) ≡ pages_spelling (stored count number b) → a ≡ b
same_pages zero number a b small size_a size_b fits_a fits_b e = nil_from_length a size_a ∙ sym (nil_from_length b size_b)
same_pages (suc count) number a b small size_a size_b fits_a fits_b e =
    let page_a : List ℕ = take 512 a in
    let page_b : List ℕ = take 512 b in
    let rest_a : List ℕ = drop 512 a in
    let rest_b : List ℕ = drop 512 b in
    let others_a : List Page = stored count (number + 1) rest_a in
    let others_b : List Page = stored count (number + 1) rest_b in
    let len_a : length rest_a ≡ 512 * count = omega (arith, length-drop 512 a, size_a) in
    let len_b : length rest_b ≡ 512 * count = omega (arith, length-drop 512 b, size_b) in
    let full_a : length page_a ≡ 512 = length-take-le 512 a (omega arith) in
    let full_b : length page_b ≡ 512 = length-take-le 512 b (omega arith) in
    let within_a = AreWords-drop 512 a fits_a in
    let within_b = AreWords-drop 512 b fits_b in
    let joined : page_a ≡ page_b → rest_a ≡ rest_b → a ≡ b =
    λ p q. sym (take-append-drop 512 a) ∙ ap (λ (page : List ℕ). page ++ rest_a) p ∙ ap (λ (rest : List ℕ). page_b ++ rest) q ∙ take-append-drop 512 b in
    let onward = λ (h : pages_spelling others_a ≡ pages_spelling others_b). same_pages count (number + 1) rest_a rest_b (omega arith) len_a len_b within_a within_b h in
    elim (cases_Bool (is_blank page_a)) [
      | inl blank_a ↦ elim (cases_Bool (is_blank page_b)) [
        | inl blank_b ↦
            joined (blank_same page_a page_b (full_a ∙ sym full_b) blank_a blank_b)
            (onward (ap pages_spelling (sym (stored-suc_blank count number a blank_a)) ∙ e ∙ ap pages_spelling (stored-suc_blank count number b blank_b)))
        | inr filled_b ↦
            absurd (apart count number rest_a page_b (pages_spelling others_b) small len_a within_a full_b (AreWords-take 512 b fits_b)
            (ap pages_spelling (sym (stored-suc_blank count number a blank_a)) ∙ e ∙ ap pages_spelling (stored-suc_filled count number b filled_b)))
      ]
      | inr filled_a ↦ elim (cases_Bool (is_blank page_b)) [
        | inl blank_b ↦
            absurd (apart count number rest_b page_a (pages_spelling others_a) small len_b within_b full_a (AreWords-take 512 a fits_a)
            (ap pages_spelling (sym (stored-suc_blank count number b blank_b)) ∙ sym e ∙ ap pages_spelling (stored-suc_filled count number a filled_a)))
        | inr filled_b ↦
            let reads_a = page_reads number page_a (pages_spelling others_a) (omega arith) full_a (AreWords-take 512 a fits_a) in
            let reads_b = page_reads number page_b (pages_spelling others_b) (omega arith) full_b (AreWords-take 512 b fits_b) in
            let first_a : Page = record { number = number; words = page_a } in
            let first_b : Page = record { number = number; words = page_b } in
            let equal : page_spelling first_a ++ pages_spelling others_a ≡ page_spelling first_b ++ pages_spelling others_b =
            ap pages_spelling (sym (stored-suc_filled count number a filled_a)) ∙ e ∙ ap pages_spelling (stored-suc_filled count number b filled_b) in
            joined (sym reads_a.words_are ∙ ap (λ (bytes : List ℕ). words_in 512 (drop 4 bytes)) equal ∙ reads_b.words_are)
            (onward (sym reads_a.rest_is ∙ ap (drop 4100) equal ∙ reads_b.rest_is))
      ]
    ]

pub one_spelling : (a b : List ℕ) → IsImage a → IsImage b → spelling a ≡ spelling b → a ≡ b
one_spelling a b image_a image_b e =
    let n : ℕ = length a / 32768 in
    let m : ℕ = length b / 32768 in
    let made_a = parts a image_a.whole in
    let made_b = parts b image_b.whole in
    let pages_a : List Page = stored (64 * n) 0 a in
    let pages_b : List Page = stored (64 * m) 0 b in
    let reads_a = header_reads n (length pages_a) (pages_spelling pages_a) (omega (arith, made_a.most)) (omega (arith, made_a.few, made_a.most)) in
    let reads_b = header_reads m (length pages_b) (pages_spelling pages_b) (omega (arith, made_b.most)) (omega (arith, made_b.few, made_b.most)) in
    let equal : header_spelling n (length pages_a) ++ pages_spelling pages_a ≡ header_spelling m (length pages_b) ++ pages_spelling pages_b =
    sym made_a.spelled ∙ e ∙ made_b.spelled in
    let same : n ≡ m = sym reads_a.segments_are ∙ ap (number_at 12) equal ∙ reads_b.segments_are in
    let rests : pages_spelling pages_a ≡ pages_spelling (stored (64 * n) 0 b) =
    sym reads_a.rest_is ∙ ap (drop 20) equal ∙ reads_b.rest_is ∙ ap (λ (k : ℕ). pages_spelling (stored (64 * k) 0 b)) (sym same) in
    same_pages (64 * n) 0 a b (omega (arith, made_a.most)) (omega (arith, made_a.size)) (omega (arith, made_b.size, same))
    (recursion_from_All (λ word. word < 2 ^ 64) a image_a.each) (recursion_from_All (λ word. word < 2 ^ 64) b image_b.each) rests

-- ---- a part of what has no fault

pub guard_none : (b : Bool) (e : ImageError) (x : Option ImageError) → cond b (Some e) x ≡ None → (b ≡ false) × (x ≡ None)
guard_none true e x h = absurd cc
guard_none false e x h = (refl, h)

pub guard_some : (b : Bool) (e : ImageError) (x : Option ImageError) → cond b x (Some e) ≡ None → (b ≡ true) × (x ≡ None)
guard_some true e x h = (refl, h)
guard_some false e x h = absurd cc

number_at-append : (place : ℕ) (bytes more : List ℕ) → place + 4 ≤ length bytes → number_at place (bytes ++ more) ≡ number_at place bytes
unfolding number_at
number_at-append place bytes more long =
    ap (little_number 4) (drop-append-le place bytes more (omega arith)) ∙ little_from-append 4 (drop place bytes) more (omega (arith, length-drop place bytes))

is_page-append : (low limit : ℕ) (bytes more : List ℕ) → 4100 ≤ length bytes → is_page low limit (bytes ++ more) ≡ is_page low limit bytes
unfolding is_page
is_page-append low limit bytes more long =
    let number : number_at 0 (bytes ++ more) ≡ number_at 0 bytes = number_at-append 0 bytes more (omega arith) in
    let words : words_in 512 (drop 4 (bytes ++ more)) ≡ words_in 512 (drop 4 bytes) =
    ap (words_in 512) (drop-append-le 4 bytes more (omega arith)) ∙ words_in-append 512 (drop 4 bytes) more (omega (arith, length-drop 4 bytes)) in
    rw (number, words) refl

starts_with-append : (bytes more : List ℕ) → 8 ≤ length bytes → starts_with nat_eq (bytes ++ more) magic ≡ starts_with nat_eq bytes magic
starts_with-append bytes more long = ap (pointwise nat_eq magic) (take-append-le (length magic) bytes more (omega (arith, length-magic)))

items_cut : (count at low limit : ℕ) (bytes more : List ℕ) → 0 < length more → items_fault count at low limit (bytes ++ more) ≡ None → items_fault count at low limit bytes ≡ Some Truncated
unfolding items_fault
items_cut zero at low limit bytes more some h =
    let g = guard_some (eqb (length (bytes ++ more)) 0) (Trailing (20 + 4100 * at)) None h in
    absurd (omega (arith, eqb-true _ _ g.0, length-append bytes more))
items_cut (suc count) at low limit bytes more some h =
    elim (cases_lt (length bytes) 4100) [
      | inl short ↦ rw (lt-ltb (length bytes) 4100 short) refl
      | inr long ↦
          let whole : List ℕ = bytes ++ more in
          let next : List ℕ → Option ImageError = λ bs. items_fault count (at + 1) (number_at 0 bs + 1) limit (drop 4100 bs) in
          let g1 = guard_none (ltb (length whole) 4100) Truncated (cond (is_page low limit whole) (next whole) (Some (BadPage at))) h in
          let g2 = guard_some (is_page low limit whole) (BadPage at) (next whole) g1.1 in
          let good : is_page low limit bytes ≡ true = sym (is_page-append low limit bytes more long) ∙ g2.0 in
          let number : number_at 0 whole ≡ number_at 0 bytes = number_at-append 0 bytes more (omega arith) in
          let rest : drop 4100 whole ≡ drop 4100 bytes ++ more = drop-append-le 4100 bytes more long in
          let h' : items_fault count (at + 1) (number_at 0 bytes + 1) limit (drop 4100 bytes ++ more) ≡ None =
          ap (λ (n : ℕ). items_fault count (at + 1) (n + 1) limit (drop 4100 bytes ++ more)) (sym number)
          ∙ ap (items_fault count (at + 1) (number_at 0 whole + 1) limit) (sym rest) ∙ g2.1 in
          rw (le-ltb (length bytes) 4100 long, good) (items_cut count (at + 1) (number_at 0 bytes + 1) limit (drop 4100 bytes) more some h')
    ]

-- the fields of bytes without a fault
pub record FieldsPass (bytes : List ℕ) : Type 0 where
  pub starts : starts_with nat_eq bytes magic ≡ true
  pub version : eqb (number_at 8 bytes) 1 ≡ true
  pub segments : (leb 1 (number_at 12 bytes) && leb (number_at 12 bytes) 128) ≡ true
  pub long : ltb (length bytes) 20 ≡ false
  pub pages : ltb (64 * number_at 12 bytes) (number_at 16 bytes) ≡ false
  pub items : items_fault (number_at 16 bytes) 0 0 (64 * number_at 12 bytes) (drop 20 bytes) ≡ None

pub fields_of : (bytes : List ℕ) → first_fault bytes ≡ None → FieldsPass bytes
unfolding first_fault
fields_of bytes h =
    let g1 = guard_none (ltb (length bytes) 8) Truncated _ h in
    let g2 = guard_none (not (starts_with nat_eq bytes magic)) BadMagic _ g1.1 in
    let g3 = guard_none (ltb (length bytes) 12) Truncated _ g2.1 in
    let g4 = guard_none (not (eqb (number_at 8 bytes) 1)) BadVersion _ g3.1 in
    let g5 = guard_none (ltb (length bytes) 16) Truncated _ g4.1 in
    let g6 = guard_none (not (leb 1 (number_at 12 bytes) && leb (number_at 12 bytes) 128)) BadSize _ g5.1 in
    let g7 = guard_none (ltb (length bytes) 20) Truncated _ g6.1 in
    let g8 = guard_none (ltb (64 * number_at 12 bytes) (number_at 16 bytes)) BadSize _ g7.1 in
    record {
      starts = not-false (starts_with nat_eq bytes magic) g2.0;
      version = not-false (eqb (number_at 8 bytes) 1) g4.0;
      segments = not-false (leb 1 (number_at 12 bytes) && leb (number_at 12 bytes) 128) g6.0;
      long = g7.0;
      pages = g8.0;
      items = g8.1;
    }

pub cut : (bytes more : List ℕ) → 0 < length more → first_fault (bytes ++ more) ≡ None → first_fault bytes ≡ Some Truncated
unfolding first_fault
cut bytes more some h =
    let fields = fields_of (bytes ++ more) h in
    elim (cases_lt (length bytes) 8) [
      | inl short ↦ rw (lt-ltb (length bytes) 8 short) refl
      | inr le8 ↦
          let starts : starts_with nat_eq bytes magic ≡ true = sym (starts_with-append bytes more le8) ∙ fields.starts in
          elim (cases_lt (length bytes) 12) [
            | inl short ↦ rw (le-ltb (length bytes) 8 le8, starts, lt-ltb (length bytes) 12 short) refl
            | inr le12 ↦
                let n8 : number_at 8 bytes ≡ number_at 8 (bytes ++ more) = sym (number_at-append 8 bytes more (omega arith)) in
                let version : eqb (number_at 8 bytes) 1 ≡ true = ap (λ (n : ℕ). eqb n 1) n8 ∙ fields.version in
                elim (cases_lt (length bytes) 16) [
                  | inl short ↦ rw (le-ltb (length bytes) 8 le8, starts, le-ltb (length bytes) 12 le12, version, lt-ltb (length bytes) 16 short) refl
                  | inr le16 ↦
                      let n12 : number_at 12 bytes ≡ number_at 12 (bytes ++ more) = sym (number_at-append 12 bytes more (omega arith)) in
                      let segments : (leb 1 (number_at 12 bytes) && leb (number_at 12 bytes) 128) ≡ true = ap (λ (n : ℕ). leb 1 n && leb n 128) n12 ∙ fields.segments in
                      elim (cases_lt (length bytes) 20) [
                        | inl short ↦ rw (le-ltb (length bytes) 8 le8, starts, le-ltb (length bytes) 12 le12, version, le-ltb (length bytes) 16 le16, segments, lt-ltb (length bytes) 20 short) refl
                        | inr le20 ↦
                            let n16 : number_at 16 bytes ≡ number_at 16 (bytes ++ more) = sym (number_at-append 16 bytes more (omega arith)) in
                            let pages : ltb (64 * number_at 12 bytes) (number_at 16 bytes) ≡ false =
                            ap (λ (n : ℕ). ltb (64 * n) (number_at 16 bytes)) n12 ∙ ap (λ (n : ℕ). ltb (64 * number_at 12 (bytes ++ more)) n) n16 ∙ fields.pages in
                            let items : items_fault (number_at 16 bytes) 0 0 (64 * number_at 12 bytes) (drop 20 bytes ++ more) ≡ None =
                            ap (λ (n : ℕ). items_fault n 0 0 (64 * number_at 12 bytes) (drop 20 bytes ++ more)) n16
                            ∙ ap (λ (n : ℕ). items_fault (number_at 16 (bytes ++ more)) 0 0 (64 * n) (drop 20 bytes ++ more)) n12
                            ∙ ap (items_fault (number_at 16 (bytes ++ more)) 0 0 (64 * number_at 12 (bytes ++ more))) (sym (drop-append-le 20 bytes more le20))
                            ∙ fields.items in
                            rw (le-ltb (length bytes) 8 le8, starts, le-ltb (length bytes) 12 le12, version, le-ltb (length bytes) 16 le16, segments, le-ltb (length bytes) 20 le20, pages)
                            (items_cut (number_at 16 bytes) 0 0 (64 * number_at 12 bytes) (drop 20 bytes) more some items)
                      ]
                ]
          ]
    ]

-- ---- what a result says

pub reads_spelled : (r : Result (Vec ℕ) ImageError) (bytes words : List ℕ) → Answers r (first_fault bytes) → IfOk r (λ found. IsImage found.items × (bytes ≡ spelling found.items))
    → IsImage words → bytes ≡ spelling words → Reads r words
reads_spelled (Ok found) bytes words answer is image e = one_spelling found.items words is.0 image (sym is.1 ∙ e)
reads_spelled (Err NoMemory) bytes words answer is image e = tt
reads_spelled (Err BadMagic) bytes words answer is image e = let none = ap first_fault e ∙ no_fault words image in cc
reads_spelled (Err BadVersion) bytes words answer is image e = let none = ap first_fault e ∙ no_fault words image in cc
reads_spelled (Err BadSize) bytes words answer is image e = let none = ap first_fault e ∙ no_fault words image in cc
reads_spelled (Err (BadPage at)) bytes words answer is image e = let none = ap first_fault e ∙ no_fault words image in cc
reads_spelled (Err Truncated) bytes words answer is image e = let none = ap first_fault e ∙ no_fault words image in cc
reads_spelled (Err (Trailing at)) bytes words answer is image e = let none = ap first_fault e ∙ no_fault words image in cc
