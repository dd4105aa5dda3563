-- An opening that is cut short: what it leaves can be opened anew, and shows the same.
use Rattle.std.proofs.Common.{◌≡◌, ⊎_elim, ℕ, zero, suc, ◌+◌, ◌*◌, ◌/◌, ◌%◌, ◌<◌, ◌≤◌, Bool, true, false, ◌&&◌, not, cond, eqb, leb, ltb, List, [], ◌∷◌, length, get_or, take, drop, map, refl, sym, ◌∙◌, ap, arith}
use Rattle.std.specs.Prelude.{All, filter}
use Rattle.std.specs.List.{range_with_len}
use Rattle.std.proofs.lemmas.Bool.{cases_eq, cond-true, cond_both, eq-eqb, eqb-true, ne_eqb, ltb-true, le-leb, lt-ltb, and_left, or_cases, or_left, or_right, or_from, false≢true}
use Rattle.std.proofs.lemmas.List.Elements.{All-nil, All-cons}
use Rattle.mv_model.specs.declared.limits.TheConstants.{MAX_COMMITS}
use Rattle.pm_model.specs.declared.action.Action.{Action}
use Rattle.pm_model.specs.declared.action.Action.TheVariants.{Store, Flush, Fence, Punch}
use Rattle.pm_model.specs.Device.{Device, acted, IsCrashImage}
use Rattle.image_layout.specs.Fixed.{last_at, state_at, commit_word_at, ready_at, first_segment_at, entry_at, descriptor_at, magic_at, version_at}
use Rattle.image_layout.specs.Fresh.{magic_number}
use Rattle.image_layout.specs.Checks.{Check, check, Keeps}
use Rattle.pm_model.specs.Plans.{Part, Play, IsPlan, plan_of, finished, run, at_rest, EachCut, IsCrashImageWithin, IsTakenBack}
use Rattle.pm_model.proofs.Alone.{plan_settles, cached-run, length-words_after, length-durable-run}
use Rattle.pm_model.proofs.Cuts.{each_cut-map}
use Rattle.image_layout.proofs.Faults.{Holds}
use Rattle.pm_model.proofs.PlanLaw.{plan_begins, plan_plays_on, plan_survives_parts}
use Rattle.engine_core.specs.Stage.{high_at, born_at, ended_at, is_reserved, stage_words}
use Rattle.engine_core.specs.ImageRules.{reserved_rule, is_reserved_page, KeepsEntryRules, IsSound}
use Rattle.engine_core.specs.Opening.{opening_parts, recovered}
use Rattle.engine_core.specs.Recoverable.{IsRecoverable, ShowsStill}
use Rattle.engine_core.proofs.FreshCore.{stage-zero}
use Rattle.engine_core.proofs.StageImage.{length-stage_words, get_or-stage_words}
use Rattle.engine_core.proofs.ImageRules.{entered, objects_kept, entries_kept}
use Rattle.engine_core.proofs.OpeningTrace.{IsReached}
use Rattle.engine_core.proofs.OpeningRounds.{opening-plan, opening-cuts}
use Rattle.engine_core.proofs.FitsCuts.{fits-now, shows-same}
use Rattle.engine_core.proofs.FitsSound.{IsClosed, closed-kept, fits-recoverable, recoverable-fits, stamps-none}

-- ── a cut ──

module _ (words : List ℕ) (size : 32768 ≤ length words) where
  cuts-recoverable : IsRecoverable words → EachCut (ShowsStill words) (opening_parts words) words
  cuts-recoverable recoverable =
      let is = entered words size recoverable.entry in
      let fits = recoverable-fits words size recoverable in
      each_cut-map (IsReached words) (ShowsStill words) (opening_parts words) words
      (λ image reached. (fits-recoverable image (let same = reached.size in omega (arith, same, size)) (fits-now words is fits image reached), shows-same words is fits image reached))
      (opening-cuts words is)

  pub opening-is-plan : KeepsEntryRules words → IsPlan (length words) (opening_parts words)
  opening-is-plan rules = opening-plan words (entered words size rules)

  pub opening-cut : IsRecoverable words → (k : ℕ) (image : List ℕ) → k ≤ length (plan_of (opening_parts words)) → IsCrashImage (run 0 (take k (plan_of (opening_parts words))) (at_rest words)) image → ShowsStill words image
  opening-cut recoverable k image le left_by =
      let play : Play = record { own = λ w. true; session = 0; parts = opening_parts words; start = words } in
      let d : Device = run 0 (take k (plan_of (opening_parts words))) (at_rest words) in
      let cached : length d.cached ≡ length words = ap length (cached-run 0 (take k (plan_of (opening_parts words))) (at_rest words)) ∙ length-words_after (take k (plan_of (opening_parts words))) words in
      let durable : length d.durable ≡ length words = length-durable-run 0 (take k (plan_of (opening_parts words))) (at_rest words) in
      let begun = plan_begins play (at_rest words) (record { plan = opening-is-plan recoverable.entry; within = λ w hit. refl })
      (record { cached_size = refl; durable_size = refl; same = λ w own. refl; clean = λ w own. refl }) in
      let playing = plan_plays_on play 0 k (plan_of (opening_parts words)) (at_rest words) begun le in
      let within : IsCrashImageWithin (λ w. true) d image = record { size = left_by.size ∙ durable ∙ sym cached; each = λ w own. left_by.each w } in
      let back : IsTakenBack play image words = record { size = sym (left_by.size ∙ durable); own = λ w own. refl; others = λ w none. absurd (false≢true (sym none)) } in
      plan_survives_parts (ShowsStill words) (opening_parts words) play (0 + k) (drop k (plan_of (opening_parts words))) d image words playing within back refl (cuts-recoverable recoverable)

-- ── the device after a plan of the opener ──

others-flush_nothing : (xs : List Action) (d : Device) (session w : ℕ) → (session ≡ 0 → ⊥) → d.flushed session w ≡ false → (run 0 xs d).flushed session w ≡ false
others-flush_nothing [] d session w other none = none
others-flush_nothing (Store place value ∷ xs) d session w other none = others-flush_nothing xs (acted 0 (Store place value) d) session w other (and_left (d.flushed session w) (not (eqb w place.0)) none)
others-flush_nothing (Flush line ∷ xs) d session w other none = others-flush_nothing xs (acted 0 (Flush line) d) session w other
    (or_from (d.flushed session w) (eqb session 0 && eqb (w / 8) line) none (and_left (eqb session 0) (eqb (w / 8) line) (ne_eqb session 0 other)))
others-flush_nothing (Fence ∷ xs) d session w other none = others-flush_nothing xs (acted 0 Fence d) session w other (and_left (d.flushed session w) (not (eqb session 0)) none)
others-flush_nothing (Punch page ∷ xs) d session w other none = others-flush_nothing xs (acted 0 (Punch page) d) session w other
    (cond_both (eqb (w / 512) page.0) (eqb session 0) (d.flushed session w) (λ (b : Bool). b ≡ false) (λ hit. ne_eqb session 0 other) (λ miss. none))

rests : (d : Device) (words : List ℕ) → d.cached ≡ words → d.durable ≡ words → ((session w : ℕ) → d.flushed session w ≡ false) → d ≡ at_rest words
rests d words cached durable flushed = λ i. record { cached = cached i; durable = durable i; flushed = λ session w. flushed session w i }

-- a plan that is played on a device at rest leaves one at rest
pub plan-rests : (words : List ℕ) (parts : List Part) → IsPlan (length words) parts → run 0 (plan_of parts) (at_rest words) ≡ at_rest (finished parts words)
plan-rests words parts plan =
    let quiet = plan_settles 0 parts words (at_rest words) plan (record { cached = refl; durable = refl; flushed = λ w. refl }) in
    rests (run 0 (plan_of parts) (at_rest words)) (finished parts words) quiet.cached quiet.durable (λ session w. ⊎_elim
    (λ (own : session ≡ 0). ap (λ (s : ℕ). (run 0 (plan_of parts) (at_rest words)).flushed s w) own ∙ quiet.flushed w)
    (λ other. others-flush_nothing (plan_of parts) (at_rest words) session w other refl)
    (cases_eq session 0))

pub opening-reaches : (words : List ℕ) → 32768 ≤ length words → KeepsEntryRules words → run 0 (plan_of (opening_parts words)) (at_rest words) ≡ at_rest (recovered words)
unfolding recovered
opening-reaches words size rules = plan-rests words (opening_parts words) (opening-is-plan words size rules)

-- ── a formatted image ──

module _ (segments : ℕ) (some : 1 ≤ segments) where
  zero-at : (w : ℕ) → 514 ≤ w → w < 32768 → get_or (stage_words segments) w 0 ≡ 0
  zero-at w low high = stage-zero segments w some low high

  formatted-closed : IsClosed (stage_words segments)
  formatted-closed = record {
    idle = λ object lt. zero-at (state_at object) (omega arith) (omega (arith, lt));
    word = λ object lt. zero-at (commit_word_at object) (omega arith) (omega (arith, lt));
    clear = λ object nth lt within. zero-at (entry_at object nth) (omega arith) (omega (arith, lt, within));
  }

  -- a reserved page of the image
  reserved-holds : (page : ℕ) → page < 64 * segments → is_reserved_page page ≡ true → eqb (get_or (stage_words segments) (descriptor_at page) 0) 8 ≡ true
  reserved-holds page lt reserved =
      let within : descriptor_at page < 32768 * segments = descriptor-in page lt in
      eq-eqb (get_or (stage_words segments) (descriptor_at page) 0) 8 (get_or-stage_words segments (descriptor_at page) within
      ∙ cond-true (is_reserved (descriptor_at page)) 8 (cond (eqb (descriptor_at page) magic_at) magic_number (cond (eqb (descriptor_at page) version_at) 102 0)) (descriptor-reserved page reserved))
    where
      descriptor-in : (page : ℕ) → page < 64 * segments → descriptor_at page < 32768 * segments
      descriptor-in page lt = let q : page / 64 + 1 ≤ segments = omega (arith, lt) in let r : page % 64 < 64 = omega arith in omega (arith, q, r)

      descriptor-reserved : (page : ℕ) → is_reserved_page page ≡ true → is_reserved (descriptor_at page) ≡ true
      descriptor-reserved page hit = ⊎_elim
          (λ first. let none = eqb-true (page % 64) 0 first in or_left (eqb (descriptor_at page % 32768) 0) (ltb (descriptor_at page) 28) (eq-eqb (descriptor_at page % 32768) 0 (omega (arith, none))))
          (λ low. let less = ltb-true page 28 low in or_right (eqb (descriptor_at page % 32768) 0) (ltb (descriptor_at page) 28) (lt-ltb (descriptor_at page) 28 (omega (arith, less))))
          (or_cases (eqb (page % 64) 0) (ltb page 28) hit)

  reserved-all : (first count : ℕ) → first + count ≤ 64 * segments
      → All Holds (map (λ page. check (descriptor_at page) (eqb (get_or (stage_words segments) (descriptor_at page) 0) 8)) (filter is_reserved_page (range_with_len first count)))
  reserved-all first zero le = All-nil Holds
  reserved-all first (suc count) le =
      let f : ℕ → Check = λ page. check (descriptor_at page) (eqb (get_or (stage_words segments) (descriptor_at page) 0) 8) in
      let rest = reserved-all (first + 1) count (omega (arith, le)) in
      cond_both (is_reserved_page first) (first ∷ filter is_reserved_page (range_with_len (first + 1) count)) (filter is_reserved_page (range_with_len (first + 1) count)) (λ (pages : List ℕ). All Holds (map f pages))
      (λ hit. All-cons Holds (f first) (map f (filter is_reserved_page (range_with_len (first + 1) count))) (reserved-holds first (omega (arith, le)) hit) rest)
      (λ miss. rest)

  formatted-reserved : Keeps (stage_words segments) reserved_rule
  unfolding reserved_rule
  formatted-reserved = record { checks = reserved-all 0 (length (stage_words segments) / 512) (let size = length-stage_words segments in omega (arith, size)) }

  formatted-entry : KeepsEntryRules (stage_words segments)
  formatted-entry =
      let words = stage_words segments in
      let magic : get_or words magic_at 0 ≡ magic_number = get_or-stage_words segments magic_at (omega (arith, some)) in
      let version : get_or words version_at 0 ≡ 102 = get_or-stage_words segments version_at (omega (arith, some)) in
      let last = zero-at last_at (omega arith) (omega arith) in
      let closed = formatted-closed in
      record {
        magic = record { checks = All-cons Holds (check magic_at (eqb (get_or words magic_at 0) magic_number)) [] (eq-eqb (get_or words magic_at 0) magic_number magic) (All-nil Holds) };
        version = record { checks = All-cons Holds (check version_at (eqb (get_or words version_at 0) 102)) [] (eq-eqb (get_or words version_at 0) 102 version) (All-nil Holds) };
        last = record { checks = All-cons Holds (check last_at (leb (get_or words last_at 0) MAX_COMMITS)) [] (le-leb (get_or words last_at 0) MAX_COMMITS (omega (arith, last))) (All-nil Holds) };
        reserved = formatted-reserved;
        objects = objects_kept words (λ object lt. let idle = closed.idle object lt in let word = closed.word object lt in record {
          state = omega (arith, idle);
          commit = omega (arith, word);
          most = omega (arith, word);
          ready = zero-at (ready_at object) (omega arith) (omega (arith, lt));
          first = zero-at (first_segment_at object) (omega arith) (omega (arith, lt));
        });
        entries = entries_kept words (λ object nth lt within opened. let idle = closed.idle object lt in absurd (omega (arith, idle, opened)));
      }

  pub formatted-sound : IsSound (stage_words segments)
  formatted-sound = record {
    entry = formatted-entry;
    closed = closed-kept (stage_words segments) formatted-closed;
    stamps = stamps-none (stage_words segments) (zero-at high_at (omega arith) (omega arith)) (λ row lt. zero-at (born_at row) (omega arith) (omega (arith, lt))) (λ row lt. zero-at (ended_at row) (omega arith) (omega (arith, lt)));
  }
