-- What an object shows depends on its own words alone.
use Rattle.std.proofs.Common.{◌≡◌, ℕ, ◌+◌, ◌<◌, ◌≤◌, false, List, [], ◌∷◌, length, map, get_or, refl, sym, ◌∙◌, ap, subst, arith}
use Rattle.image_layout.specs.Fixed.{state_at, last_at}
use Rattle.pm_model.specs.Plans.{Part, plan_of, part_actions, part_end, words_after, footprint, EachCut}
use Rattle.image_layout.specs.Objects.{ready_count, entry_places}
use Rattle.pm_model.proofs.Alone.{length-words_after}
use Rattle.pm_model.proofs.PlanLaw.{footprint-append, words_after-kept}
use Rattle.pm_model.proofs.Cuts.{between-kept}
use Rattle.txn_object.specs.Entries.{entry_of}
use Rattle.txn_object.specs.Object.{NoEntryFollowsZero}
use Rattle.txn_object.specs.Shown.{Transaction, Shows, HasObject}
use Rattle.txn_object.specs.Spared.{IsOfObject, its_state, its_commit_word, its_count, its_pointer, its_entry, KeepsObject, SparesObject}
use Rattle.txn_object.proofs.Rule.{state_ok}
use Rattle.txn_object.proofs.Runs.{set_words}
use Rattle.txn_object.proofs.Walk.{words_at}
use Rattle.txn_object.proofs.Frames.{SameFrame, pointer_same, ready_pointers_same, frame_places, commit_stays, frame_object}
use Rattle.txn_object.proofs.Entering.{words_at-same}

-- ── parts that leave some words alone ──

pub spared_cuts : (P : List ℕ → Type 0) (Own : ℕ → Type 0) (parts : List Part) (words : List ℕ) → ((w : ℕ) → Own w → footprint (plan_of parts) w ≡ false)
    → ((image : List ℕ) → length image ≡ length words → ((w : ℕ) → Own w → get_or image w 0 ≡ get_or words w 0) → P image) → EachCut P parts words
spared_cuts P Own [] words spares keeps = keeps words refl (λ w own. refl)
spared_cuts P Own (part ∷ parts) words spares keeps =
    let split : (w : ℕ) → Own w → (footprint (part_actions part) w ≡ false) × (footprint (plan_of parts) w ≡ false) = λ w own. footprint-append (part_actions part) (plan_of parts) w (spares w own) in
    let out : (w : ℕ) → Own w → footprint part w ≡ false = λ w own. (footprint-append part (part_end part) w (split w own).0).0 in (
      λ image between. keeps image between.size (λ w own. between-kept part words image w between (out w own)),
      spared_cuts P Own parts (words_after part words) (λ w own. (split w own).1)
          (λ image size same. keeps image (size ∙ length-words_after part words) (λ w own. same w own ∙ words_after-kept part words w (out w own))),
    )

-- ── an object whose words are the same ──

module _ (old new : List ℕ) (object : ℕ) (keeps : KeepsObject old object new) where
  pub keeps_frame : SameFrame old new object
  keeps_frame = record { size = keeps.size; ready = keeps.each _ its_count; pointers = λ k le. keeps.each _ (its_pointer k le) }

  pub keeps_places : entry_places new object ≡ entry_places old object
  keeps_places = frame_places old new object keeps_frame

  pub keeps_shows : (transaction : Transaction) → Shows old object transaction → Shows new object transaction
  keeps_shows transaction shows = record {
    state = keeps.each _ its_state ∙ shows.state;
    commit_word = keeps.each _ its_commit_word ∙ shows.commit_word;
    entries = ap (λ (places : List ℕ). map entry_of (set_words (words_at new places))) keeps_places
        ∙ ap (λ (l : List ℕ). map entry_of (set_words l)) (words_at-same old new (entry_places old object) (λ k lt. keeps.each _ (its_entry k lt)))
        ∙ shows.entries;
  }

  pub keeps_object : get_or old last_at 0 ≤ get_or new last_at 0 → HasObject old object → HasObject new object
  keeps_object last has = frame_object old new object keeps_frame has
      (let ok = state_ok old object has.rule in let same = keeps.each (state_at object) its_state in omega (arith, ok, same))
      (commit_stays old new object keeps_frame has (keeps.each _ its_commit_word) last)

  pub keeps_packed : NoEntryFollowsZero old object → NoEntryFollowsZero new object
  keeps_packed packed nth lt none =
      let below : nth + 1 < length (entry_places old object) = subst (λ (l : List ℕ). nth + 1 < length l) keeps_places lt in
      at (nth + 1) below ∙ packed nth below (sym (at nth (omega (arith, below))) ∙ none)
    where
      at : (n : ℕ) → n < length (entry_places old object) → get_or new (get_or (entry_places new object) n 0) 0 ≡ get_or old (get_or (entry_places old object) n 0) 0
      at n there = ap (λ (l : List ℕ). get_or new (get_or l n 0) 0) keeps_places ∙ keeps.each _ (its_entry n there)

-- the words of an object are at the same places where its count and pointers stay
pub frame_own : (old new : List ℕ) (object : ℕ) → SameFrame old new object → (w : ℕ) → IsOfObject new object w → IsOfObject old object w
frame_own old new object frame w its_state = its_state
frame_own old new object frame w its_commit_word = its_commit_word
frame_own old new object frame w its_count = its_count
frame_own old new object frame w (its_pointer k le) =
    let there : k ≤ ready_count old object = subst (λ (n : ℕ). k ≤ n) frame.ready le in
    subst (IsOfObject old object) (sym (pointer_same old new object (ready_count old object) (ready_pointers_same old new object frame) k there)) (its_pointer k there)
frame_own old new object frame w (its_entry nth lt) =
    let places = frame_places old new object frame in
    subst (λ (l : List ℕ). IsOfObject old object (get_or l nth 0)) (sym places) (its_entry nth (subst (λ (l : List ℕ). nth < length l) places lt))

-- parts that leave it alone leave what it shows
pub spared_shows : (words : List ℕ) (object : ℕ) (transaction : Transaction) (parts : List Part) → SparesObject words object parts → Shows words object transaction
    → EachCut (λ image. Shows image object transaction) parts words
spared_shows words object transaction parts spares shows =
    spared_cuts (λ image. Shows image object transaction) (IsOfObject words object) parts words spares (λ image size same. keeps_shows words image object (record { size = size; each = same }) transaction shows)
