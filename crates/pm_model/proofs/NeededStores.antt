-- Only the stores that are needed leave what all of them would, so a cut of them is a cut of all.
use Rattle.std.proofs.Common.{◌≡◌, ◌⊎◌, inl, inr, ⊎_elim, ℕ, ◌<◌, true, false, ◌||◌, eqb, List, [], ◌∷◌, ◌++◌, length, get_or, set, refl, sym, ◌∙◌, ap, subst, arith}
use Rattle.std.proofs.lemmas.List.{get_or-set_same, get_or-set_other, get_or_past, length-set}
use Rattle.std.proofs.lemmas.Bool.{cases_lt, cases_eq, cases_Bool, both_ways, eqb-true, or_cases, or_parts, or_from, cond_both}
use Rattle.pm_model.specs.declared.action.Action.TheVariants.{Store, Flush, Fence, Punch}
use Rattle.pm_model.specs.Device.{IsBetween, writes}
use Rattle.pm_model.specs.Plans.{Part, unless_empty, words_after, footprint, finished, IsPart, IsPlan, EachCut}
use Rattle.pm_model.specs.Needed.{is_stored_later, is_there, needed_stores, needed_parts, Stores, StoresOfParts, AreStores, AllStores}
use Rattle.pm_model.proofs.Words.{ext_words}
use Rattle.pm_model.proofs.Alone.{length-words_after}
use Rattle.pm_model.proofs.PlanLaw.{words_after-kept, words_after-same}
use Rattle.pm_model.proofs.Cuts.{finished-append, plan-append, each_cut-append, each_cut-unless_empty, finished-unless_empty, plan-unless_empty}

-- ── parts of stores ──

pub stores-append : (Q : ℕ → ℕ → Type 0) (xs ys : Part) → Stores Q xs → Stores Q ys → Stores Q (xs ++ ys)
stores-append Q [] ys first later = later
stores-append Q (Store place value ∷ xs) ys first later = (first.0, stores-append Q xs ys first.1 later)
stores-append Q (Flush line ∷ xs) ys first later = absurd first
stores-append Q (Fence ∷ xs) ys first later = absurd first
stores-append Q (Punch page ∷ xs) ys first later = absurd first

pub stores-map : (Q R : ℕ → ℕ → Type 0) (part : Part) → ((place value : ℕ) → Q place value → R place value) → Stores Q part → Stores R part
stores-map Q R [] f is = tt
stores-map Q R (Store place value ∷ part) f is = (f place.0 value is.0, stores-map Q R part f is.1)
stores-map Q R (Flush line ∷ part) f is = absurd is
stores-map Q R (Fence ∷ part) f is = absurd is
stores-map Q R (Punch page ∷ part) f is = absurd is

-- parts of stores one after the other
pub parts-append : (Q : ℕ → ℕ → Type 0) (xs ys : List Part) → StoresOfParts Q xs → StoresOfParts Q ys → StoresOfParts Q (xs ++ ys)
parts-append Q [] ys first later = later
parts-append Q (part ∷ xs) ys first later = (first.0, parts-append Q xs ys first.1 later)

-- ── a word after a part ──

same-stored : (a b : List ℕ) (place value w : ℕ) → length a ≡ length b → w ≡ place → get_or (set a place value) w 0 ≡ get_or (set b place value) w 0
same-stored a b place value w size here = ⊎_elim
    (λ lt. ap (λ (k : ℕ). get_or (set a place value) k 0) here ∙ get_or-set_same a place value 0 lt ∙ sym (get_or-set_same b place value 0 (omega (arith, lt, size)))
    ∙ ap (λ (k : ℕ). get_or (set b place value) k 0) (sym here))
    (λ le. get_or_past (set a place value) w 0 (omega (arith, le, here, length-set a place value)) ∙ sym (get_or_past (set b place value) w 0 (omega (arith, le, here, size, length-set b place value))))
    (cases_lt place (length a))

-- what a part of stores leaves in a word that it stores to doesn't depend on the word before
pub after-hit : (Q : ℕ → ℕ → Type 0) (part : Part) (a b : List ℕ) (w : ℕ) → Stores Q part → length a ≡ length b → footprint part w ≡ true → get_or (words_after part a) w 0 ≡ get_or (words_after part b) w 0
after-hit Q [] a b w is size hit = absurd (both_ways false refl hit)
after-hit Q (Store place value ∷ part) a b w is size hit = ⊎_elim
    (λ later. after-hit Q part (set a place.0 value) (set b place.0 value) w is.1 sizes later)
    (λ last. words_after-same part (set a place.0 value) (set b place.0 value) w sizes (same-stored a b place.0 value w size (eqb-true w place.0 (here last))))
    (cases_Bool (footprint part w))
  where
    sizes : length (set a place.0 value) ≡ length (set b place.0 value)
    sizes = length-set a place.0 value ∙ size ∙ sym (length-set b place.0 value)

    here : footprint part w ≡ false → eqb w place.0 ≡ true
    here last = ⊎_elim (λ e. e) (λ later. absurd (both_ways (footprint part w) last later)) (or_cases (eqb w place.0) (footprint part w) hit)
after-hit Q (Flush line ∷ part) a b w is size hit = absurd is
after-hit Q (Fence ∷ part) a b w is size hit = absurd is
after-hit Q (Punch page ∷ part) a b w is size hit = absurd is

-- a word that a part of stores stores to has the value of one of them
pub after-written : (Q : ℕ → ℕ → Type 0) (part : Part) (words : List ℕ) (w : ℕ) → Stores Q part → w < length words → footprint part w ≡ true → Q w (get_or (words_after part words) w 0)
after-written Q [] words w is lt hit = absurd (both_ways false refl hit)
after-written Q (Store place value ∷ part) words w is lt hit = ⊎_elim
    (λ later. after-written Q part (set words place.0 value) w is.1 (omega (arith, lt, length-set words place.0 value)) later)
    (λ last. last_one last (eqb-true w place.0 (here last)))
    (cases_Bool (footprint part w))
  where
    here : footprint part w ≡ false → eqb w place.0 ≡ true
    here last = ⊎_elim (λ e. e) (λ later. absurd (both_ways (footprint part w) last later)) (or_cases (eqb w place.0) (footprint part w) hit)

    last_one : footprint part w ≡ false → w ≡ place.0 → Q w (get_or (words_after part (set words place.0 value)) w 0)
    last_one last is_here =
        let value_is : get_or (words_after part (set words place.0 value)) w 0 ≡ value =
        words_after-kept part (set words place.0 value) w last ∙ ap (λ (k : ℕ). get_or (set words place.0 value) k 0) is_here ∙ get_or-set_same words place.0 value 0 (omega (arith, lt, is_here)) in
        subst (λ (v : ℕ). Q w v) (sym value_is) (subst (λ (k : ℕ). Q k value) (sym is_here) is.0)
after-written Q (Flush line ∷ part) words w is lt hit = absurd is
after-written Q (Fence ∷ part) words w is lt hit = absurd is
after-written Q (Punch page ∷ part) words w is lt hit = absurd is

-- each word of a cut is the old one, or one that is stored
pub cut-written : (Q : ℕ → ℕ → Type 0) (part : Part) (words image : List ℕ) (w : ℕ) → Stores Q part → w < length words → IsBetween words (words_after part words) image
    → (get_or image w 0 ≡ get_or words w 0) ⊎ Q w (get_or image w 0)
cut-written Q part words image w is lt between = ⊎_elim
    (λ old. inl old)
    (λ new. ⊎_elim
    (λ hit. inr (subst (λ (v : ℕ). Q w v) (sym new) (after-written Q part words w is lt hit)))
    (λ miss. inl (new ∙ words_after-kept part words w miss))
    (cases_Bool (footprint part w)))
    (between.each w)

-- what holds of a word's old value, and of each value that is stored to it, holds of it in each cut
pub cuts-written : (H : ℕ → Type 0) (w : ℕ) (parts : List Part) (words : List ℕ) → w < length words → H (get_or words w 0) → StoresOfParts (λ place value. w ≡ place → H value) parts → EachCut (λ image. H (get_or image w 0)) parts words
cuts-written H w [] words lt old are = old
cuts-written H w (part ∷ parts) words lt old are = (
  λ image between. ⊎_elim (λ same. subst H (sym same) old) (λ stored. stored refl) (cut-written (λ place value. w ≡ place → H value) part words image w are.0 lt between),
  cuts-written H w parts (words_after part words) (omega (arith, lt, length-words_after part words))
      (⊎_elim (λ hit. after-written (λ place value. w ≡ place → H value) part words w are.0 lt hit refl) (λ miss. subst H (sym (words_after-kept part words w miss)) old) (cases_Bool (footprint part w))) are.1,
)

-- ── the stores that are needed ──

footprint-needed : (words : List ℕ) (part : Part) (w : ℕ) → footprint part w ≡ false → footprint (needed_stores words part) w ≡ false
footprint-needed words [] w miss = refl
footprint-needed words (action ∷ part) w miss =
    let parts = or_parts (writes action w) (footprint part w) miss in
    let rest = footprint-needed words part w parts.1 in
    cond_both (is_stored_later part action || is_there words action) (needed_stores words part) (action ∷ needed_stores words part) (λ (xs : Part). footprint xs w ≡ false)
    (λ skip. rest) (λ keep. or_from (writes action w) (footprint (needed_stores words part) w) parts.0 rest)

needed-after : (Q : ℕ → ℕ → Type 0) (words : List ℕ) (part : Part) (x : List ℕ) (w : ℕ) → Stores Q part → length x ≡ length words → get_or x w 0 ≡ get_or words w 0
    → get_or (words_after (needed_stores words part) x) w 0 ≡ get_or (words_after part x) w 0
needed-after Q words [] x w is size same = refl
needed-after Q words (Store place value ∷ part) x w is size same =
    cond_both (footprint part place.0 || eqb (get_or words place.0 0) value) (needed_stores words part) (Store place value ∷ needed_stores words part)
    (λ (xs : Part). get_or (words_after xs x) w 0 ≡ get_or (words_after part (set x place.0 value)) w 0)
    (λ skip. needed-after Q words part x w is.1 size same ∙ ⊎_elim (λ later. skipped later) (λ there. present (eqb-true (get_or words place.0 0) value there))
    (or_cases (footprint part place.0) (eqb (get_or words place.0 0) value) skip))
    (λ keep. kept (or_parts (footprint part place.0) (eqb (get_or words place.0 0) value) keep).0
    (λ apart. needed-after Q words part (set x place.0 value) w is.1 (length-set x place.0 value ∙ size) (get_or-set_other x place.0 w value 0 apart ∙ same)))
  where
    sizes : length x ≡ length (set x place.0 value)
    sizes = sym (length-set x place.0 value)

    skipped : footprint part place.0 ≡ true → get_or (words_after part x) w 0 ≡ get_or (words_after part (set x place.0 value)) w 0
    skipped later = ⊎_elim
        (λ (here : w ≡ place.0). after-hit Q part x (set x place.0 value) w is.1 sizes (ap (footprint part) here ∙ later))
        (λ apart. words_after-same part x (set x place.0 value) w sizes (sym (get_or-set_other x place.0 w value 0 apart)))
        (cases_eq w place.0)

    present : get_or words place.0 0 ≡ value → get_or (words_after part x) w 0 ≡ get_or (words_after part (set x place.0 value)) w 0
    present there = words_after-same part x (set x place.0 value) w sizes (⊎_elim
        (λ (here : w ≡ place.0). ⊎_elim
        (λ lt. same ∙ ap (λ (k : ℕ). get_or words k 0) here ∙ there ∙ sym (ap (λ (k : ℕ). get_or (set x place.0 value) k 0) here ∙ get_or-set_same x place.0 value 0 lt))
        (λ le. get_or_past x w 0 (omega (arith, le, here)) ∙ sym (get_or_past (set x place.0 value) w 0 (omega (arith, le, here, sizes))))
        (cases_lt place.0 (length x)))
        (λ apart. sym (get_or-set_other x place.0 w value 0 apart))
        (cases_eq w place.0))

    kept : footprint part place.0 ≡ false → ((w ≡ place.0 → ⊥) → get_or (words_after (needed_stores words part) (set x place.0 value)) w 0 ≡ get_or (words_after part (set x place.0 value)) w 0)
        → get_or (words_after (needed_stores words part) (set x place.0 value)) w 0 ≡ get_or (words_after part (set x place.0 value)) w 0
    kept last beside = ⊎_elim
        (λ (here : w ≡ place.0). let miss : footprint part w ≡ false = ap (footprint part) here ∙ last in
        words_after-kept (needed_stores words part) (set x place.0 value) w (footprint-needed words part w miss) ∙ sym (words_after-kept part (set x place.0 value) w miss))
        (λ apart. beside apart)
        (cases_eq w place.0)
needed-after Q words (Flush line ∷ part) x w is size same = absurd is
needed-after Q words (Fence ∷ part) x w is size same = absurd is
needed-after Q words (Punch page ∷ part) x w is size same = absurd is

-- they leave what all stores leave
pub needed-whole : (Q : ℕ → ℕ → Type 0) (words : List ℕ) (part : Part) → Stores Q part → words_after (needed_stores words part) words ≡ words_after part words
needed-whole Q words part is = ext_words (words_after (needed_stores words part) words) (words_after part words)
    (length-words_after (needed_stores words part) words ∙ sym (length-words_after part words)) (λ w. needed-after Q words part words w is refl refl)

-- and they are a part
pub needed-part : (size : ℕ) (words : List ℕ) (part : Part) → AreStores size part → IsPart size (needed_stores words part)
needed-part size words [] is = tt
needed-part size words (Store place value ∷ part) is =
    cond_both (footprint part place.0 || eqb (get_or words place.0 0) value) (needed_stores words part) (Store place value ∷ needed_stores words part) (λ (xs : Part). IsPart size xs)
    (λ skip. needed-part size words part is.1)
    (λ keep. (
      tt,
      is.0,
      λ w hit. footprint-needed words part w (ap (footprint part) (eqb-true w place.0 hit) ∙ (or_parts (footprint part place.0) (eqb (get_or words place.0 0) value) keep).0),
      needed-part size words part is.1,
    ))
needed-part size words (Flush line ∷ part) is = absurd is
needed-part size words (Fence ∷ part) is = absurd is
needed-part size words (Punch page ∷ part) is = absurd is

pub needed-finished : (Q : ℕ → ℕ → Type 0) (parts : List Part) (words : List ℕ) → StoresOfParts Q parts → finished (needed_parts words parts) words ≡ finished parts words
needed-finished Q [] words are = refl
needed-finished Q (part ∷ parts) words are =
    let needed = needed_stores words part in
    finished-append (unless_empty needed) (needed_parts (words_after needed words) parts) words
    ∙ ap (finished (needed_parts (words_after needed words) parts)) (finished-unless_empty needed words)
    ∙ needed-finished Q parts (words_after needed words) are.1
    ∙ ap (finished parts) (needed-whole Q words part are.0)

pub needed-cuts : (P : List ℕ → Type 0) (Q : ℕ → ℕ → Type 0) (parts : List Part) (words : List ℕ) → StoresOfParts Q parts → EachCut P parts words → EachCut P (needed_parts words parts) words
needed-cuts P Q [] words are cuts = cuts
needed-cuts P Q (part ∷ parts) words are cuts =
    let needed = needed_stores words part in
    let whole = needed-whole Q words part are.0 in
    let rest = needed-cuts P Q parts (words_after needed words) are.1 (subst (λ (ws : List ℕ). EachCut P parts ws) (sym whole) cuts.1) in
    each_cut-append P (unless_empty needed) (needed_parts (words_after needed words) parts) words
    (each_cut-unless_empty P needed words (λ image between. cuts.0 image (subst (λ (ws : List ℕ). IsBetween words ws image) whole between)))
    (subst (λ (ws : List ℕ). EachCut P (needed_parts (words_after needed words) parts) ws) (sym (finished-unless_empty needed words)) rest)

pub needed-plan : (size : ℕ) (parts : List Part) (words : List ℕ) → AllStores size parts → IsPlan size (needed_parts words parts)
needed-plan size [] words are = tt
needed-plan size (part ∷ parts) words are =
    let needed = needed_stores words part in
    plan-append size (unless_empty needed) (needed_parts (words_after needed words) parts) (plan-unless_empty size needed (needed-part size words part are.0)) (needed-plan size parts (words_after needed words) are.1)
