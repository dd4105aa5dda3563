-- What a plan's law is made of: parts of one store, parts of one value, plans one after the other, and what each cut has.
use Rattle.std.proofs.Common.{◌≡◌, ◌≢◌, ◌⊎◌, inl, inr, ⊎_elim, ℕ, ◌<◌, Bool, true, false, ◌||◌, eqb, List, [], ◌∷◌, ◌++◌, length, get_or, set, refl, sym, ◌∙◌, ap, subst}
use Rattle.std.proofs.lemmas.List.{get_or-set_same, get_or-set_other, length-set}
use Rattle.std.proofs.lemmas.Bool.{cases_eq, cases_Bool, both_ways, eqb-true, ne_eqb, or_cases, or_from}
use Rattle.pm_model.specs.declared.action.Action.{Action}
use Rattle.pm_model.specs.Device.{IsBetween}
use Rattle.pm_model.specs.Plans.{Part, one_store, stores, unless_empty, words_after, footprint, finished, IsPart, IsPlan, EachCut}
use Rattle.pm_model.proofs.Words.{ext_words}
use Rattle.pm_model.proofs.Alone.{length-words_after}
use Rattle.pm_model.proofs.PlanLaw.{words_after-kept}

-- ── a word of a cut ──

-- a word that the part doesn't write stays
pub between-kept : (part : List Action) (words image : List ℕ) (w : ℕ) → IsBetween words (words_after part words) image → footprint part w ≡ false → get_or image w 0 ≡ get_or words w 0
between-kept part words image w between outside = ⊎_elim (λ e. e) (λ e. e ∙ words_after-kept part words w outside) (between.each w)

-- the words before a part and those after it are among its cuts
pub between-start : (old new : List ℕ) → IsBetween old new old
between-start old new = record { size = refl; each = λ w. inl refl }

pub between-end : (part : List Action) (words : List ℕ) → IsBetween words (words_after part words) (words_after part words)
between-end part words = record { size = length-words_after part words; each = λ w. inr refl }

-- ── a part of one store ──

pub store_part : (size place value : ℕ) → place < size → IsPart size (one_store place value)
store_part size place value lt = (tt, lt, λ w hit. refl, tt)

pub footprint-one_store : (place value w : ℕ) → w ≢ place → footprint (one_store place value) w ≡ false
footprint-one_store place value w apart = or_from (eqb w place) false (ne_eqb w place apart) refl

-- the word that it stores
pub one_store-word : (place value : ℕ) (words : List ℕ) → place < length words → get_or (words_after (one_store place value) words) place 0 ≡ value
one_store-word place value words lt = get_or-set_same words place value 0 lt

-- and each other word
pub one_store-other : (place value : ℕ) (words : List ℕ) (w : ℕ) → w ≢ place → get_or (words_after (one_store place value) words) w 0 ≡ get_or words w 0
one_store-other place value words w apart = get_or-set_other words place w value 0 apart

-- A power cut leaves it done or not begun.
pub one_store-cut : (place value : ℕ) (words image : List ℕ) → IsBetween words (set words place value) image → (image ≡ words) ⊎ (image ≡ set words place value)
one_store-cut place value words image between = ⊎_elim
    (λ old. inl (ext_words image words between.size (λ w. ⊎_elim
    (λ (is : w ≡ place). ap (λ (k : ℕ). get_or image k 0) is ∙ old ∙ ap (λ (k : ℕ). get_or words k 0) (sym is))
    (λ apart. kept w apart) (cases_eq w place))))
    (λ new. inr (ext_words image (set words place value) (between.size ∙ sym (length-set words place value)) (λ w. ⊎_elim
    (λ (is : w ≡ place). ap (λ (k : ℕ). get_or image k 0) is ∙ new ∙ ap (λ (k : ℕ). get_or (set words place value) k 0) (sym is))
    (λ apart. kept w apart ∙ sym (get_or-set_other words place w value 0 apart)) (cases_eq w place))))
    (between.each place)
  where
    kept : (w : ℕ) → (w ≡ place → ⊥) → get_or image w 0 ≡ get_or words w 0
    kept w apart = ⊎_elim (λ e. e) (λ e. e ∙ get_or-set_other words place w value 0 apart) (between.each w)

-- so a cut of it has what the words before and after it have
pub cut-one_store : (P : List ℕ → Type 0) (place value : ℕ) (words : List ℕ) → P words → P (set words place value) → (image : List ℕ) → IsBetween words (set words place value) image → P image
cut-one_store P place value words before after image between =
    ⊎_elim (λ (e : image ≡ words). subst P (sym e) before) (λ (e : image ≡ set words place value). subst P (sym e) after) (one_store-cut place value words image between)

-- ── a part that stores one value at many places ──

-- whether a place is among these
abbrev pub is_among : List ℕ → ℕ → Bool
is_among [] w = false
is_among (place ∷ places) w = eqb w place || is_among places w

pub footprint-stores : (value : ℕ) (places : List ℕ) (w : ℕ) → footprint (stores value places) w ≡ is_among places w
footprint-stores value [] w = refl
footprint-stores value (place ∷ places) w = ap (λ (b : Bool). eqb w place || b) (footprint-stores value places w)

-- it is a part where its places stand in the device, each once
abbrev pub AreApartBelow : ℕ → List ℕ → Type 0
AreApartBelow size [] = Unit {0}
AreApartBelow size (place ∷ places) = (place < size) × (is_among places place ≡ false) × AreApartBelow size places

pub stores_part : (size value : ℕ) (places : List ℕ) → AreApartBelow size places → IsPart size (stores value places)
stores_part size value [] apart = tt
stores_part size value (place ∷ places) apart = (
  tt,
  apart.0,
  λ w hit. ap (footprint (stores value places)) (eqb-true w place hit) ∙ footprint-stores value places place ∙ apart.1,
  stores_part size value places apart.2,
)

-- a word at one of the places has the value
pub stores-written : (value : ℕ) (places words : List ℕ) (w : ℕ) → w < length words → is_among places w ≡ true → get_or (words_after (stores value places) words) w 0 ≡ value
stores-written value [] words w lt hit = absurd (both_ways false refl hit)
stores-written value (place ∷ places) words w lt hit = ⊎_elim
    (λ later. stores-written value places (set words place value) w (subst (λ (n : ℕ). w < n) (sym (length-set words place value)) lt) later)
    (λ last. words_after-kept (stores value places) (set words place value) w (footprint-stores value places w ∙ last)
    ∙ ap (λ (k : ℕ). get_or (set words place value) k 0) (here last) ∙ get_or-set_same words place value 0 (subst (λ (k : ℕ). k < length words) (here last) lt))
    (cases_Bool (is_among places w))
  where
    here : is_among places w ≡ false → w ≡ place
    here last = ⊎_elim (λ h. eqb-true w place h) (λ more. absurd (both_ways (is_among places w) last more)) (or_cases (eqb w place) (is_among places w) hit)

-- in a cut each word is the old one, or one of the places with the value
pub stores-cut : (value : ℕ) (places words image : List ℕ) (w : ℕ) → w < length words → IsBetween words (words_after (stores value places) words) image
    → (get_or image w 0 ≡ get_or words w 0) ⊎ ((get_or image w 0 ≡ value) × (is_among places w ≡ true))
stores-cut value places words image w lt between = ⊎_elim
    (λ old. inl old)
    (λ new. ⊎_elim
    (λ hit. inr (new ∙ stores-written value places words w lt hit, hit))
    (λ miss. inl (new ∙ words_after-kept (stores value places) words w (footprint-stores value places w ∙ miss)))
    (cases_Bool (is_among places w)))
    (between.each w)

-- ── one plan after another ──

pub finished-append : (xs ys : List Part) (words : List ℕ) → finished (xs ++ ys) words ≡ finished ys (finished xs words)
finished-append [] ys words = refl
finished-append (part ∷ xs) ys words = finished-append xs ys (words_after part words)

pub length-finished : (parts : List Part) (words : List ℕ) → length (finished parts words) ≡ length words
length-finished [] words = refl
length-finished (part ∷ parts) words = length-finished parts (words_after part words) ∙ length-words_after part words

pub plan-append : (size : ℕ) (xs ys : List Part) → IsPlan size xs → IsPlan size ys → IsPlan size (xs ++ ys)
plan-append size [] ys plan more = more
plan-append size (part ∷ xs) ys plan more = (plan.0, plan-append size xs ys plan.1 more)

pub each_cut-append : (P : List ℕ → Type 0) (xs ys : List Part) (words : List ℕ) → EachCut P xs words → EachCut P ys (finished xs words) → EachCut P (xs ++ ys) words
each_cut-append P [] ys words cuts more = more
each_cut-append P (part ∷ xs) ys words cuts more = (cuts.0, each_cut-append P xs ys (words_after part words) cuts.1 more)

-- ── what each cut has ──

-- what each cut has, the words at the start have
pub each_cut-start : (P : List ℕ → Type 0) (parts : List Part) (words : List ℕ) → EachCut P parts words → P words
each_cut-start P [] words cuts = cuts
each_cut-start P (part ∷ parts) words cuts = cuts.0 words (between-start words (words_after part words))

-- and so have the words at the end
pub each_cut-end : (P : List ℕ → Type 0) (parts : List Part) (words : List ℕ) → EachCut P parts words → P (finished parts words)
each_cut-end P [] words cuts = cuts
each_cut-end P (part ∷ parts) words cuts = each_cut-end P parts (words_after part words) cuts.1

-- what follows from what each cut has
pub each_cut-map : (P Q : List ℕ → Type 0) (parts : List Part) (words : List ℕ) → ((image : List ℕ) → P image → Q image) → EachCut P parts words → EachCut Q parts words
each_cut-map P Q [] words f cuts = f words cuts
each_cut-map P Q (part ∷ parts) words f cuts = (λ image between. f image (cuts.0 image between), each_cut-map P Q parts (words_after part words) f cuts.1)

-- ── a part that may be empty ──

pub each_cut-unless_empty : (P : List ℕ → Type 0) (part : Part) (words : List ℕ) → ((image : List ℕ) → IsBetween words (words_after part words) image → P image) → EachCut P (unless_empty part) words
each_cut-unless_empty P [] words each = each words (between-start words words)
each_cut-unless_empty P (action ∷ part) words each = (each, each (words_after (action ∷ part) words) (between-end (action ∷ part) words))

pub finished-unless_empty : (part : Part) (words : List ℕ) → finished (unless_empty part) words ≡ words_after part words
finished-unless_empty [] words = refl
finished-unless_empty (action ∷ part) words = refl

pub plan-unless_empty : (size : ℕ) (part : Part) → IsPart size part → IsPlan size (unless_empty part)
plan-unless_empty size [] is = tt
plan-unless_empty size (action ∷ part) is = (is, tt)
