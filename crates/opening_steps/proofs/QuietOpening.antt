-- Where no split is logged, opening keeps what fits, through each power cut in it.
use Rattle.std.proofs.Common.{◌≡◌, ℕ, zero, suc, ◌+◌, ◌%◌, ◌<◌, ◌≤◌, List, [], ◌∷◌, ◌++◌, length, get_or, map, take, refl, ◌∙◌, ap, subst, arith}
use Rattle.std.specs.Prelude.{Contains}
use Rattle.std.specs.List.{flat_map, range_with_len}
use Rattle.std.specs.Option.{option_map_or}
use Rattle.std.specs.Prelude.{slice_get}
use Rattle.pm_model.specs.Device.{IsCrashImage}
use Rattle.pm_model.specs.Needed.{after_mending, Mending, needed_parts}
use Rattle.pm_model.specs.Plans.{at_rest, EachCut, finished, Part, run}
use Rattle.pm_model.proofs.Alone.{length-durable-run}
use Rattle.pm_model.proofs.Cuts.{each_cut-end, each_cut-map, length-finished}
use Rattle.image_layout.specs.EntryRules.{KeepsEntryRules}
use Rattle.image_layout.specs.Places.{below}
use Rattle.image_layout.specs.Records.{new_leaf_at, split_leaf_at}
use Rattle.image_layout.specs.SoundRules.{IsSound}
use Rattle.image_layout.specs.Tables.{all_columns}
use Rattle.image_layout.proofs.Members.{Contains-here, Contains-there}
use Rattle.shown_state.specs.Fits.{Fits}
use Rattle.shown_state.specs.LogicalState.{logical_state}
use Rattle.shown_state.specs.Mending.{at_column, clear_mending, close_mending, lane_mending, last_mending, mendings, recovered, reached_by_opening, slot_mending, split_mending, split_parts, text_mending, undo_mending, version_mending}
use Rattle.shown_state.specs.OpeningParts.{FitsStill, IsImage, opening_parts, opening_plan}
use Rattle.shown_state.specs.Recoverable.{IsRecoverable}
use Rattle.shown_state.specs.StepLaws.{AreClear, AreClosed, AreIdle, AreJoined, AreMended, AreUndone, HaveNoNew, NoneIsSplit, OpensStill}
use Rattle.shown_state.proofs.Composed.{each_on_device, Opens, opens-next, opens-none}
use Rattle.shown_state.proofs.Ends.{end_is_sound}
use Rattle.opening_steps.specs.QuietImages.{IsQuiet, StaysPlain, StaysQuiet}
use Rattle.opening_steps.proofs.Clearing.{clears_stay}
use Rattle.opening_steps.proofs.Closing.{closes_stay}
use Rattle.opening_steps.proofs.LaneStep.{lanes_are_plain}
use Rattle.opening_steps.proofs.LastNumber.{last_stays}
use Rattle.opening_steps.proofs.SlotStep.{slot_is_plain}
use Rattle.opening_steps.proofs.SplitLogs.{logs_null}
use Rattle.opening_steps.proofs.Steps.{plain_as_it_is, plain_by, StepIsPlain, StepStays}
use Rattle.opening_steps.proofs.TextStep.{text_is_plain}
use Rattle.opening_steps.proofs.Undoing.{undos_stay}
use Rattle.opening_steps.proofs.VersionStep.{version_stays}

-- ── steps that have nothing to mend ──

none_of : (f : ℕ → List Part) (xs : List ℕ) → ((x : ℕ) → Contains xs x → f x ≡ []) → flat_map f xs ≡ []
none_of f [] each = refl
none_of f (x ∷ xs) each = ap (λ (parts : List Part). parts ++ flat_map f xs) (each x (Contains-here x xs)) ∙ none_of f xs (λ y is. each y (Contains-there x y xs is))

column_none : (words : List ℕ) (parts : List ℕ → ℕ → List Part) → ((column : ℕ) → Contains (all_columns words) column → parts words column ≡ []) → (number : ℕ) → at_column parts number words ≡ []
column_none words parts each number = cases (all_columns words) number each
  where
    cases : (columns : List ℕ) (number : ℕ) → ((column : ℕ) → Contains columns column → parts words column ≡ []) → option_map_or (parts words) (slice_get columns number) [] ≡ []
    cases [] number each = refl
    cases (column ∷ columns) zero each = each column (Contains-here column columns)
    cases (column ∷ columns) (suc number) each = cases columns number (λ c is. each c (Contains-there column c columns is))

split_none : (words : List ℕ) → Fits words → NoneIsSplit 512 words → (number : ℕ) → split_mending number words ≡ []
split_none words fits none number = column_none words (λ w column. split_parts w column (get_or w (split_leaf_at column) 0) (get_or w (new_leaf_at column) 0)) each number
  where
    each : (column : ℕ) → Contains (all_columns words) column → split_parts words column (get_or words (split_leaf_at column) 0) (get_or words (new_leaf_at column) 0) ≡ []
    each column is =
        let null = logs_null words fits none column is in
        ap (λ (leaf : ℕ). split_parts words column leaf (get_or words (new_leaf_at column) 0)) null.0 ∙ ap (λ (new : ℕ). split_parts words column 0 new) null.1

split_is_plain : (words : List ℕ) (number : ℕ) → Fits words → AreJoined 512 words → StepIsPlain (AreJoined 512) (split_mending number) words
split_is_plain words number fits joined = plain_by (AreJoined 512) (split_mending number) words [] (split_none words fits joined.1 number) tt (plain_as_it_is words fits) joined

-- ── one step after the other ──

module _ (start : List ℕ) where
  -- an image that is reached
  record Now (Q : List ℕ → Type 0) (words : List ℕ) : Type 0 where
    pub image : IsImage words
    pub stays : StaysQuiet start words
    pub has : Q words

  -- what each cut has: it fits and shows the same, and no split is logged in it
  pub record Has (image : List ℕ) : Type 0 where
    pub still : FitsStill start image
    pub plain : NoneIsSplit 512 image

  still_after : (words image : List ℕ) → FitsStill start words → FitsStill words image → FitsStill start image
  still_after words image before after = record { fits = after.fits; shows = after.shows ∙ before.shows }

  image_after : (words : List ℕ) (parts : List Part) → IsImage words → IsImage (finished parts words)
  image_after words parts image = record {
    segments = ap (λ (n : ℕ). n % 32768) (length-finished parts words) ∙ image.segments;
    one_or_more = let same = length-finished parts words in let most = image.one_or_more in omega (arith, same, most);
  }

  entry_of : (image : List ℕ) → Has image → KeepsEntryRules image
  entry_of image has = let still = has.still in let fits = still.fits in fits.entry

  abbrev Ends : List Mending → (List ℕ → Type 0) → Type 0
  Ends list Q = (words : List ℕ) → Now Q words → Opens Has AreMended list words

  step : (Q S : List ℕ → Type 0) (mending : Mending) (later : List Mending)
      → ((words : List ℕ) → IsImage words → Fits words → HaveNoNew 512 words → Q words → StepStays S mending words) → Ends later S → Ends (mending ∷ later) Q
  step Q S mending later stays rest words now =
      let so_far = now.stays in
      let before = so_far.still in
      let kept = stays words now.image before.fits so_far.quiet now.has in
      let parts = needed_parts words (mending words) in
      let cuts = each_cut-map (StaysQuiet words) Has parts words (λ image is. let quiet = is.quiet in record { still = still_after words image before is.still; plain = quiet.0.1 }) kept.cuts in
      let last = each_cut-end (StaysQuiet words) parts words kept.cuts in
      opens-next Has AreMended mending later words entry_of kept.plan cuts
      (rest (after_mending mending words) (record {
        image = image_after words parts now.image;
        stays = record { still = still_after words (after_mending mending words) before last.still; quiet = last.quiet };
        has = kept.goes_on;
      }))

  round : (Q : ℕ → List ℕ → Type 0) (mending : ℕ → Mending) (later : List Mending) (all : ℕ)
      → ((n : ℕ) (words : List ℕ) → n < all → IsImage words → Fits words → HaveNoNew 512 words → Q n words → StepStays (Q (n + 1)) (mending n) words) → Ends later (Q all)
      → (first count : ℕ) → first + count ≡ all → Ends (map mending (range_with_len first count) ++ later) (Q first)
  round Q mending later all stays rest first zero is words now = rest words (subst (λ (k : ℕ). Now (Q k) words) (omega (arith, is)) now)
  round Q mending later all stays rest first (suc count) is words now =
      step (Q first) (Q (first + 1)) (mending first) (map mending (range_with_len (first + 1) count) ++ later)
      (λ w image fits quiet has. stays first w (omega (arith, is)) image fits quiet has)
      (λ next then. round Q mending later all stays rest (first + 1) count (omega (arith, is)) next then) words now

  now_so : (Q S : List ℕ → Type 0) (words : List ℕ) → (Q words → S words) → Now Q words → Now S words
  now_so Q S words f now = record { image = now.image; stays = now.stays; has = f now.has }

  abbrev clears : List Mending
  clears = map clear_mending (below 16) ++ version_mending ∷ []

  abbrev closes : List Mending
  closes = map close_mending (below 16) ++ clears

  abbrev undos : List Mending
  undos = map undo_mending (below 16) ++ closes

  abbrev texts : List Mending
  texts = map text_mending (below 512) ++ last_mending ∷ [] ++ undos

  abbrev splits : List Mending
  splits = map split_mending (below 512) ++ slot_mending ∷ [] ++ texts

  version_end : Ends (version_mending ∷ []) (AreClear 16)
  version_end = step (AreClear 16) AreMended version_mending [] (λ w image fits quiet has. version_stays w image fits has)
      (λ w done. let stays = done.stays in let quiet = stays.quiet in opens-none Has AreMended w (record { still = stays.still; plain = quiet.0.1 }) done.has)

  clear_end : Ends clears (AreClear 0)
  clear_end = round AreClear clear_mending (version_mending ∷ []) 16 (λ n w lt image fits quiet has. clears_stay w n image lt fits has) version_end 0 16 refl

  close_end : Ends closes (AreClosed 0)
  close_end = round AreClosed close_mending clears 16 (λ n w lt image fits quiet has. closes_stay w n image lt fits has)
      (λ w done. clear_end w (now_so (AreClosed 16) (AreClear 0) w (λ has. (has, λ object none. absurd (omega (arith, none)))) done)) 0 16 refl

  undo_end : Ends undos (AreUndone 0)
  undo_end = round AreUndone undo_mending closes 16 (λ n w lt image fits quiet has. undos_stay w n image lt fits has)
      (λ w done. close_end w (now_so (AreUndone 16) (AreClosed 0) w (λ has. (has, λ object none. absurd (omega (arith, none)))) done)) 0 16 refl

  last_end : Ends (last_mending ∷ undos) (HaveNoNew 512)
  last_end = step (HaveNoNew 512) (AreUndone 0) last_mending undos (λ w image fits quiet has. last_stays w image fits quiet) undo_end

  -- ── the steps before them, in which lanes may be at work, and tables and texts half made ──

  record EarlyNow (Q : List ℕ → Type 0) (words : List ℕ) : Type 0 where
    pub image : IsImage words
    pub has : Has words
    pub so : Q words

  abbrev EarlyEnds : List Mending → (List ℕ → Type 0) → Type 0
  EarlyEnds list Q = (words : List ℕ) → EarlyNow Q words → Opens Has AreMended list words

  early_step : (Q S : List ℕ → Type 0) (mending : Mending) (later : List Mending)
      → ((words : List ℕ) → IsImage words → Fits words → Q words → StepIsPlain S mending words) → EarlyEnds later S → EarlyEnds (mending ∷ later) Q
  early_step Q S mending later plain rest words now =
      let has = now.has in
      let before = has.still in
      let kept = plain words now.image before.fits now.so in
      let parts = needed_parts words (mending words) in
      let cuts = each_cut-map (StaysPlain words) Has parts words (λ image stays. record { still = still_after words image before stays.still; plain = stays.plain has.plain }) kept.cuts in
      opens-next Has AreMended mending later words entry_of kept.plan cuts
      (rest (after_mending mending words) (record { image = image_after words parts now.image; has = each_cut-end Has parts words cuts; so = kept.goes_on }))

  early_round : (Q : ℕ → List ℕ → Type 0) (mending : ℕ → Mending) (later : List Mending) (all : ℕ)
      → ((n : ℕ) (words : List ℕ) → n < all → IsImage words → Fits words → Q n words → StepIsPlain (Q (n + 1)) (mending n) words) → EarlyEnds later (Q all)
      → (first count : ℕ) → first + count ≡ all → EarlyEnds (map mending (range_with_len first count) ++ later) (Q first)
  early_round Q mending later all plain rest first zero is words now = rest words (subst (λ (k : ℕ). EarlyNow (Q k) words) (omega (arith, is)) now)
  early_round Q mending later all plain rest first (suc count) is words now =
      early_step (Q first) (Q (first + 1)) (mending first) (map mending (range_with_len (first + 1) count) ++ later)
      (λ w image fits so. plain first w (omega (arith, is)) image fits so)
      (λ next then. early_round Q mending later all plain rest (first + 1) count (omega (arith, is)) next then) words now

  text_end : EarlyEnds texts (HaveNoNew 0)
  text_end = early_round HaveNoNew text_mending (last_mending ∷ undos) 512 (λ n w lt image fits clear. text_is_plain w n image fits clear)
      (λ w now. let has = now.has in last_end w (record { image = now.image; stays = record { still = has.still; quiet = now.so }; has = now.so })) 0 512 refl

  abbrev Joined : ℕ → List ℕ → Type 0
  Joined n = AreJoined 512

  split_end : EarlyEnds splits (AreJoined 512)
  split_end = early_round Joined split_mending (slot_mending ∷ texts) 512 (λ n w lt image fits joined. split_is_plain w n fits joined)
      (early_step (AreJoined 512) (HaveNoNew 0) slot_mending texts (λ w image fits joined. slot_is_plain w image fits joined) text_end) 0 512 refl

  lane_end : EarlyEnds (map lane_mending (below 16) ++ splits) (AreIdle 0)
  lane_end = early_round AreIdle lane_mending splits 16 (λ n w lt image fits idle. lanes_are_plain w n image lt fits idle)
      (λ w now. let has = now.has in split_end w (record { image = now.image; has = now.has; so = (now.so, has.plain) })) 0 16 refl

  mendings_are : map lane_mending (below 16) ++ splits ≡ mendings
  mendings_are = refl

-- ── opening ──

module _ (words : List ℕ) (is : IsQuiet words) where
  all_opens : Opens (Has words) AreMended mendings words
  all_opens = subst (λ (list : List Mending). Opens (Has words) AreMended list words) (mendings_are words)
      (lane_end words words (record { image = is.image; has = record { still = record { fits = is.fits; shows = refl }; plain = is.quiet }; so = λ lane none. absurd (omega (arith, none)) }))

  pub quiet_cuts : EachCut (Has words) (opening_parts words) words
  unfolding opening_parts
  quiet_cuts = all_opens.cuts

  pub quiet_opens : OpensStill words
  unfolding opening_parts reached_by_opening
  quiet_opens = record {
    plan = all_opens.plan;
    reaches = all_opens.reaches;
    goes_on = all_opens.goes_on;
    cuts = each_cut-map (Has words) (FitsStill words) (opening_parts words) words (λ image has. has.still) all_opens.cuts;
    end = all_opens.end;
  }

  pub recovered_has : Has words (recovered words)
  recovered_has = subst (Has words) quiet_opens.reaches (each_cut-end (Has words) (opening_parts words) words quiet_cuts)

  recovered_sound : IsSound (recovered words)
  recovered_sound =
      let after = recovered_has in
      let still = after.still in
      let opens = quiet_opens in
      end_is_sound (recovered words) still.fits opens.end.0 opens.end.1

  pub quiet_recovers : IsRecoverable words
  quiet_recovers =
      let after = recovered_has in
      let still = after.still in
      let fits = is.fits in
      record { entry = fits.entry; sound = recovered_sound; shown = still.shows; apart = fits.apart; logs = fits.logs }

pub cut_stays : (words : List ℕ) (k : ℕ) (image : List ℕ) → IsQuiet words → k ≤ length (opening_plan words)
    → IsCrashImage (run 0 (take k (opening_plan words)) (at_rest words)) image → IsQuiet image × (logical_state image ≡ logical_state words)
cut_stays words k image is le left_by =
    let opens = quiet_opens words is in
    let has = each_on_device (Has words) words k image opens.plan (quiet_cuts words is) le left_by in
    let still = has.still in
    let whole = is.image in
    let same = left_by.size ∙ length-durable-run 0 (take k (opening_plan words)) (at_rest words) in (
      record {
        image = record { segments = ap (λ (n : ℕ). n % 32768) same ∙ whole.segments; one_or_more = let most = whole.one_or_more in omega (arith, same, most) };
        fits = still.fits;
        quiet = has.plain;
      },
      still.shows,
    )
