-- The mendings of opening, one after the other: what each of them keeps, all of them keep.
use Rattle.std.proofs.Common.{◌≡◌, ℕ, zero, suc, ◌+◌, ◌%◌, ◌<◌, ◌≤◌, Bool, true, false, not, cond, List, [], ◌∷◌, ◌++◌, length, take, drop, map, refl, sym, ◌∙◌, ap, subst, arith}
use Rattle.std.specs.Prelude.{Option, None, is_none}
use Rattle.std.specs.List.{range_with_len}
use Rattle.std.proofs.lemmas.Bool.{false≢true}
use Rattle.std.proofs.lemmas.List.Elements.{All-nil, All-from_recursion}
use Rattle.pm_model.specs.Device.{Device, IsCrashImage}
use Rattle.image_layout.specs.Places.{below}
use Rattle.pm_model.specs.Plans.{Part, Play, IsPlan, EachCut, IsCrashImageWithin, IsTakenBack, finished, run, at_rest}
use Rattle.pm_model.specs.Needed.{needed_parts, Mending, after_mending}
use Rattle.image_layout.specs.Checks.{Keeps, Fault}
use Rattle.image_layout.specs.EntryRules.{entry_rules, entry_fault, KeepsEntryRules}
use Rattle.pm_model.proofs.Cuts.{finished-append, length-finished, plan-append, each_cut-append, each_cut-end, each_cut-map}
use Rattle.pm_model.proofs.Alone.{IsPlan-size, cached-run, length-words_after, length-durable-run}
use Rattle.pm_model.proofs.PlanLaw.{plan_begins, plan_plays_on, plan_survives_parts}
use Rattle.image_layout.proofs.Faults.{first_fault-none}
use Rattle.shown_state.specs.Mending.{Reached, after_parts, mend_unless, mend, mendings, lane_mending, split_mending, slot_mending, text_mending, last_mending, undo_mending, close_mending, clear_mending, reached_by_opening, version_mending}
use Rattle.shown_state.specs.Fits.{Fits}
use Rattle.shown_state.specs.OpeningParts.{parts_of, opening_parts, IsImage, FitsStill, StepKeeps}
use Rattle.shown_state.specs.StepLaws.{AreIdle, AreJoined, HaveNoNew, AreUndone, AreClosed, AreClear, AreMended, StepsKeep, StepsMakeOpening, StepsKeepCuts, PartsRecover}
use Rattle.shown_state.specs.OpeningParts.{opening_plan}

abbrev going : List ℕ → Reached
going words = record { words = words; stopped = false }

entry-none : (words : List ℕ) → KeepsEntryRules words → entry_fault words ≡ None
entry-none words e = first_fault-none entry_rules words (All-from_recursion (λ rule. Keeps words rule.rule) entry_rules
    (e.magic, (e.version, (e.last, (e.table_count, (e.reserved, (e.descriptors, (e.bitmaps, (e.lanes, (e.table_slots, (e.arrays, (e.trees, (e.names, (e.text_keys, (e.objects, (e.entries, tt))))))))))))))))

-- a mending that leaves the entry rules kept doesn't stop opening
mend-on : (mending : Mending) (words : List ℕ) → KeepsEntryRules (after_mending mending words) → mend_unless false words mending ≡ going (after_mending mending words)
mend-on mending words rules = go (needed_parts words (mending words))
  where
    go : (parts : List Part) → after_parts (after_mending mending words) parts ≡ going (after_mending mending words)
    go [] = refl
    go (part ∷ parts) = ap (λ (fault : Option Fault). record { words = after_mending mending words; stopped = not (is_none fault) }) (entry-none (after_mending mending words) rules)

-- Mendings from these words on: each cut has P, none stops, and their words have R.
pub record Opens (P R : List ℕ → Type 0) (list : List Mending) (words : List ℕ) : Type 0 where
  pub plan : IsPlan (length words) (parts_of list (going words))
  pub reaches : finished (parts_of list (going words)) words ≡ (mend list (going words)).words
  pub goes_on : (mend list (going words)).stopped ≡ false
  pub cuts : EachCut P (parts_of list (going words)) words
  pub end : R (mend list (going words)).words

pub opens-none : (P R : List ℕ → Type 0) (words : List ℕ) → P words → R words → Opens P R [] words
opens-none P R words p r = record { plan = tt; reaches = refl; goes_on = refl; cuts = p; end = r }

pub opens-next : (P R : List ℕ → Type 0) (mending : Mending) (later : List Mending) (words : List ℕ) → ((image : List ℕ) → P image → KeepsEntryRules image)
    → IsPlan (length words) (needed_parts words (mending words)) → EachCut P (needed_parts words (mending words)) words → Opens P R later (after_mending mending words) → Opens P R (mending ∷ later) words
opens-next P R mending later words entry plan cuts rest =
    let parts = needed_parts words (mending words) in
    let next = after_mending mending words in
    let on = sym (mend-on mending words (entry next (each_cut-end P parts words cuts))) in
    record {
      plan = plan-append (length words) parts (parts_of later (mend_unless false words mending)) plan
          (subst (λ (r : Reached). IsPlan (length words) (parts_of later r)) on (IsPlan-size (length next) (length words) (parts_of later (going next)) (length-finished parts words) rest.plan));
      reaches = finished-append parts (parts_of later (mend_unless false words mending)) words
          ∙ subst (λ (r : Reached). finished (parts_of later r) next ≡ (mend later r).words) on rest.reaches;
      goes_on = subst (λ (r : Reached). (mend later r).stopped ≡ false) on rest.goes_on;
      cuts = each_cut-append P parts (parts_of later (mend_unless false words mending)) words cuts (subst (λ (r : Reached). EachCut P (parts_of later r) next) on rest.cuts);
      end = subst (λ (r : Reached). R (mend later r).words) on rest.end;
    }

module _ (start : List ℕ) where
  -- an image that is reached
  pub record Now (Q : List ℕ → Type 0) (words : List ℕ) : Type 0 where
    pub image : IsImage words
    pub still : FitsStill start words
    pub has : Q words

  abbrev P : List ℕ → Type 0
  P = FitsStill start

  entry-of : (image : List ℕ) → P image → KeepsEntryRules image
  entry-of image still = let fits = still.fits in fits.entry

  -- one mending that keeps what fits
  pub step : (Q S R : List ℕ → Type 0) (mending : Mending) (later : List Mending) (words : List ℕ) → Now Q words
      → (IsImage words → Fits words → Q words → StepKeeps S mending words)
      → ((next : List ℕ) → Now S next → Opens P R later next) → Opens P R (mending ∷ later) words
  step Q S R mending later words now keeps rest =
      let still = now.still in
      let kept = keeps now.image still.fits now.has in
      let parts = needed_parts words (mending words) in
      let cuts = each_cut-map (FitsStill words) P parts words (λ image is. record { fits = is.fits; shows = is.shows ∙ still.shows }) kept.cuts in
      let image = now.image in
      opens-next P R mending later words entry-of kept.plan cuts (rest (after_mending mending words) (record {
        image = record {
          segments = ap (λ (n : ℕ). n % 32768) (length-finished parts words) ∙ image.segments;
          one_or_more = let same = length-finished parts words in let most = image.one_or_more in omega (arith, same, most);
        };
        still = each_cut-end P parts words cuts;
        has = kept.goes_on;
      }))

  -- a round of mendings
  pub round : (Q : ℕ → List ℕ → Type 0) (R : List ℕ → Type 0) (mending : ℕ → Mending) (later : List Mending) (all : ℕ)
      → ((n : ℕ) (words : List ℕ) → n < all → IsImage words → Fits words → Q n words → StepKeeps (Q (n + 1)) (mending n) words)
      → ((words : List ℕ) → Now (Q all) words → Opens P R later words)
      → (first count : ℕ) → first + count ≡ all → (words : List ℕ) → Now (Q first) words → Opens P R (map mending (range_with_len first count) ++ later) words
  round Q R mending later all keeps rest first zero is words now = rest words (subst (λ (k : ℕ). Now (Q k) words) (omega (arith, is)) now)
  round Q R mending later all keeps rest first (suc count) is words now =
      step (Q first) (Q (first + 1)) R (mending first) (map mending (range_with_len (first + 1) count) ++ later) words now
      (λ image fits has. keeps first words (omega (arith, is)) image fits has)
      (λ next then. round Q R mending later all keeps rest (first + 1) count (omega (arith, is)) next then)

module _ (keep : StepsKeep) (start : List ℕ) where
  abbrev Ends : List Mending → (List ℕ → Type 0) → Type 0
  Ends list Q = (words : List ℕ) → Now start Q words → Opens (FitsStill start) AreMended list words

  abbrev clears : List Mending
  clears = map clear_mending (below 16) ++ version_mending ∷ []

  abbrev closes : List Mending
  closes = map close_mending (below 16) ++ clears

  abbrev undos : List Mending
  undos = map undo_mending (below 16) ++ closes

  abbrev texts : List Mending
  texts = map text_mending (below 512) ++ last_mending ∷ [] ++ undos

  abbrev splits : List Mending
  splits = map split_mending (below 512) ++ slot_mending ∷ [] ++ texts

  weaken : (Q S : List ℕ → Type 0) (words : List ℕ) → (Q words → S words) → Now start Q words → Now start S words
  weaken Q S words f now = record { image = now.image; still = now.still; has = f now.has }

  version-step : Ends (version_mending ∷ []) (AreClear 16)
  version-step words now = step start (AreClear 16) AreMended AreMended version_mending [] words now (λ image fits has. keep.version words image fits has)
      (λ w done. opens-none (FitsStill start) AreMended w done.still done.has)

  clear-round : Ends clears (AreClear 0)
  clear-round words now = round start AreClear AreMended clear_mending (version_mending ∷ []) 16 (λ n w lt image fits has. keep.clears w n image lt fits has)
      (λ w done. version-step w done) 0 16 refl words now

  close-round : Ends closes (AreClosed 0)
  close-round words now = round start AreClosed AreMended close_mending clears 16 (λ n w lt image fits has. keep.closes w n image lt fits has)
      (λ w done. clear-round w (weaken (AreClosed 16) (AreClear 0) w (λ has. (has, λ object none. absurd (omega (arith, none)))) done)) 0 16 refl words now

  undo-round : Ends undos (AreUndone 0)
  undo-round words now = round start AreUndone AreMended undo_mending closes 16 (λ n w lt image fits has. keep.undos w n image lt fits has)
      (λ w done. close-round w (weaken (AreUndone 16) (AreClosed 0) w (λ has. (has, λ object none. absurd (omega (arith, none)))) done)) 0 16 refl words now

  text-round : Ends texts (HaveNoNew 0)
  text-round words now = round start HaveNoNew AreMended text_mending (last_mending ∷ undos) 512 (λ n w lt image fits has. keep.texts w n image lt fits has)
      (λ w done. step start (HaveNoNew 512) (AreUndone 0) AreMended last_mending undos w done (λ image fits has. keep.last w image fits has) undo-round) 0 512 refl words now

  split-round : Ends splits (AreJoined 0)
  split-round words now = round start AreJoined AreMended split_mending (slot_mending ∷ texts) 512 (λ n w lt image fits has. keep.splits w n image lt fits has)
      (λ w done. step start (AreJoined 512) (HaveNoNew 0) AreMended slot_mending texts w done (λ image fits has. keep.slot w image fits has) text-round) 0 512 refl words now

  lane-round : Ends (map lane_mending (below 16) ++ splits) (AreIdle 0)
  lane-round words now = round start AreIdle AreMended lane_mending splits 16 (λ n w lt image fits has. keep.lanes w n image lt fits has)
      (λ w done. split-round w (weaken (AreIdle 16) (AreJoined 0) w (λ has. (has, All-nil _)) done)) 0 16 refl words now

  mendings-are : map lane_mending (below 16) ++ splits ≡ mendings
  mendings-are = refl

pub steps_make_opening : StepsMakeOpening
unfolding opening_parts reached_by_opening
steps_make_opening keep words image fits =
    let all = subst (λ (list : List Mending). Opens (FitsStill words) AreMended list words) (mendings-are keep words)
    (lane-round keep words words (record { image = image; still = record { fits = fits; shows = refl }; has = λ lane none. absurd (omega (arith, none)) })) in
    record { plan = all.plan; reaches = all.reaches; goes_on = all.goes_on; cuts = all.cuts; end = all.end }

-- ── a cut ──

-- what each cut of the parts of an opening has, each cut on the device has
pub each_on_device : (P : List ℕ → Type 0) (words : List ℕ) (k : ℕ) (image : List ℕ) → IsPlan (length words) (opening_parts words) → EachCut P (opening_parts words) words
    → k ≤ length (opening_plan words) → IsCrashImage (run 0 (take k (opening_plan words)) (at_rest words)) image → P image
each_on_device P words k image plan cuts le left_by =
    let parts = opening_parts words in
    let play : Play = record { own = λ w. true; session = 0; parts = parts; start = words } in
    let d : Device = run 0 (take k (opening_plan words)) (at_rest words) in
    let cached : length d.cached ≡ length words = ap length (cached-run 0 (take k (opening_plan words)) (at_rest words)) ∙ length-words_after (take k (opening_plan words)) words in
    let durable : length d.durable ≡ length words = length-durable-run 0 (take k (opening_plan words)) (at_rest words) in
    let begun = plan_begins play (at_rest words) (record { plan = plan; within = λ w hit. refl })
    (record { cached_size = refl; durable_size = refl; same = λ w own. refl; clean = λ w own. refl }) in
    let playing = plan_plays_on play 0 k (opening_plan words) (at_rest words) begun le in
    let within : IsCrashImageWithin (λ w. true) d image = record { size = left_by.size ∙ durable ∙ sym cached; each = λ w own. left_by.each w } in
    let back : IsTakenBack play image words = record { size = sym (left_by.size ∙ durable); own = λ w own. refl; others = λ w none. absurd (false≢true (sym none)) } in
    plan_survives_parts P parts play (0 + k) (drop k (opening_plan words)) d image words playing within back refl cuts

pub steps_keep_cuts : StepsKeepCuts
steps_keep_cuts keep words k image whole fits le left_by =
    let opens = steps_make_opening keep words whole fits in each_on_device (FitsStill words) words k image opens.plan opens.cuts le left_by

-- ── any words ──

words_after_parts : (words : List ℕ) (parts : List Part) → (after_parts words parts).words ≡ words
words_after_parts words [] = refl
words_after_parts words (part ∷ parts) = refl

parts_reach : (list : List Mending) (reached : Reached) → finished (parts_of list reached) reached.words ≡ (mend list reached).words
parts_reach [] reached = refl
parts_reach (mending ∷ list) reached = go reached.stopped (λ next. parts_reach list next)
  where
    go : (stopped : Bool) → ((next : Reached) → finished (parts_of list next) next.words ≡ (mend list next).words) → finished (cond stopped [] (needed_parts reached.words (mending reached.words)) ++ parts_of list (mend_unless stopped reached.words mending)) reached.words
        ≡ (mend list (mend_unless stopped reached.words mending)).words
    go true rest = rest (record { words = reached.words; stopped = true })
    go false rest =
        let parts = needed_parts reached.words (mending reached.words) in
        let next = mend_unless false reached.words mending in
        finished-append parts (parts_of list next) reached.words
        ∙ ap (λ (words : List ℕ). finished (parts_of list next) words) (sym (words_after_parts (after_mending mending reached.words) parts))
        ∙ rest next

pub parts_recover : PartsRecover
unfolding opening_parts reached_by_opening
parts_recover words = parts_reach mendings (going words)
