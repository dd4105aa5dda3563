-- A core over the words of an image that was opened.
use Rattle.std.proofs.Common.{◌≡◌, inl, ⊎_elim, ℕ, ◌<◌, ◌≤◌, true, List, [], length, get_or, None, Some, Option, refl, sym, ◌∙◌, ap, subst, arith}
use Rattle.std.specs.Prelude.{option_map}
use Rattle.std.proofs.lemmas.Bool.{cases_eq}
use Rattle.std.proofs.lemmas.List.Elements.{All-nil}
use Rattle.mv_model.specs.declared.reply.Entry.{Entry}
use Rattle.pm_model.specs.declared.action.Action.{Action}
use Rattle.pm_model.specs.Device.{Device, IsCrashImage}
use Rattle.pm_model.specs.Plans.{at_rest, run, plan_of}
use Rattle.image_layout.specs.Fixed.{state_at}
use Rattle.image_layout.specs.Checks.{Fault, Keeps, first_failing, first_fault, or_else}
use Rattle.image_layout.proofs.Faults.{all_hold, first_failing-none}
use Rattle.engine_core.specs.StageRules.{IsStage}
use Rattle.engine_core.specs.Kept.{IsGivenBelow, IsKept, IsSafe, ShowsAfter}
use Rattle.engine_core.specs.ImageRules.{entry_rules, closing_rules, KeepsEntryRules, IsSound, closed_rule, stamp_rule}
use Rattle.engine_core.specs.Opening.{opening_fault, opening_parts, recovered}
use Rattle.engine_core.specs.Opened.{told}
use Rattle.engine_core.specs.Recoverable.{Fits, IsRecoverable}
use Rattle.engine_core.specs.declared.rules.Broken.{Broken}
use Rattle.engine_core.specs.declared.flight.Flight.{Flight}
use Rattle.engine_core.specs.declared.flight.Flight.TheVariants as flight
use Rattle.engine_core.specs.declared.transactions.Transactions.{Transactions}
use Rattle.engine_core.proofs.Recoveries.{fits-now}
use Rattle.engine_core.specs.LogicalState.{next_row}
use Rattle.engine_core.proofs.FreshCore.{logical-idle}
use Rattle.engine_core.proofs.ImageRules.{entered}
use Rattle.engine_core.proofs.FitsSound.{closed-is, closed-kept, stamped-is, closed-end, list_entry, accepted-none, entry_list, sound-fits, fits-recoverable}
use Rattle.engine_core.proofs.FitsCuts.{rules-now}
use Rattle.engine_core.proofs.OpeningRounds.{opening-end}
use Rattle.engine_core.proofs.OpeningCuts.{opening-reaches}
use Rattle.side_by_side.specs.SideBySide.{idle}
use Rattle.side_by_side.proofs.Joining.{holds-rests, playing-rests}
use Rattle.image_layout.proofs.Faults.{keeps_all, first_fault-none}

-- a sound image is a stage without a transaction
stage-sound : (words : List ℕ) → 32768 ≤ length words → IsSound words → IsStage words None
stage-sound words size sound =
    let closed = closed-is words sound.closed in
    let stamped = stamped-is words sound.stamps in
    let whole = entered words size sound.entry in
    let high = stamped.high in
    record {
      size = size;
      last = whole.last;
      reads = omega arith;
      few = omega arith;
      room = omega (arith, high);
      born = λ row lt. (stamped.born_is row lt).0;
      unborn = λ row low lt. ⊎_elim (λ e. e) (λ some. let less = (stamped.born_is row lt).1 some in absurd (omega (arith, less, low))) (cases_eq _ 0);
      ended = λ row lt. ⊎_elim (λ none. omega (arith, none)) (λ by. let most = by.most in most) (stamped.ended_is row lt);
      state = closed.idle 0 (omega arith);
      commit_word = closed.word 0 (omega arith);
      entries = λ nth lt. absurd (omega (arith, lt));
      free = λ nth low lt. closed.clear 0 nth (omega arith) lt;
      others = λ object low lt. closed.idle object lt;
    }

-- no object is open
idle-objects : (words : List ℕ) → IsStage words None → (object : ℕ) → object < 16 → get_or words (state_at object) 0 ≡ 0
idle-objects words stage object lt = ⊎_elim
    (λ (is : object ≡ 0). ap (λ (k : ℕ). get_or words (state_at k) 0) is ∙ stage.state)
    (λ apart. stage.others object (omega (arith, apart)) lt)
    (cases_eq object 0)

-- A core begins on a device at rest whose words fit together, with no transaction open.
kept-rests : (words : List ℕ) → Fits words → IsStage words None → IsKept (at_rest words) words [] (record { begun = 0; running = None }) [] flight.Idle 0 0 0
kept-rests words fits stage = record {
  plans = λ session. idle session words;
  base = words;
  playing = playing-rests 17 words;
  others = λ session w apart. refl;
  plan = refl;
  legal = record { follows = tt; numbered = λ session. refl };
  represents = logical-idle words (idle-objects words stage);
  stage = stage;
  safe = holds-rests 17 (IsSafe words [] []) words (λ left none. record {
    fits = fits;
    shows = inl refl;
    decided = All-nil (λ entry. left entry.session ≡ 0 → ShowsAfter words [] words);
    least = omega arith;
    given = All-nil (IsGivenBelow left (next_row words));
    most = omega arith;
  });
  answers = All-nil (λ entry. entry.answered ≡ true);
  alone = tt;
  count = refl;
  begun = omega arith;
  bounded = refl;
  actions = omega arith;
  done = record { actions = []; planned = refl; count = refl; device = refl };
  timed = tt;
}

kept-sound : (words : List ℕ) → 32768 ≤ length words → IsSound words → IsKept (at_rest words) words [] (record { begun = 0; running = None }) [] flight.Idle 0 0 0
kept-sound words size sound = kept-rests words (sound-fits words sound) (stage-sound words size sound)

recovered-size : (words : List ℕ) → 32768 ≤ length words → KeepsEntryRules words → 32768 ≤ length (recovered words)
recovered-size words size rules = let end = opening-end words (entered words size rules) in let reached = end.reached in let same = reached.size in omega (arith, same, size)

entry-none : (words : List ℕ) → 32768 ≤ length words → KeepsEntryRules words → first_fault entry_rules words ≡ None
entry-none words size rules = first_fault-none entry_rules words (entry_list words size rules)

closing-stamp : (words : List ℕ) (place : ℕ) → Keeps words closed_rule → first_failing (stamp_rule words) ≡ Some place → first_fault closing_rules words ≡ Some (record { rule = 27; place = place })
closing-stamp words place closed stamps =
    let none = first_failing-none (closed_rule words) closed.checks in
    ap (λ (p : Option ℕ). or_else (option_map (λ w. record { rule = 18; place = w }) p) (or_else (option_map (λ w. record { rule = 27; place = w }) (first_failing (stamp_rule words))) None)) none
    ∙ ap (λ (p : Option ℕ). or_else (option_map (λ w. record { rule = 27; place = w }) p) None) stamps

-- ── what the code has found ──

-- no rule of each image is broken
pub rules-none : (words : List ℕ) → 32768 ≤ length words → (broken : Option Broken) → told broken ≡ first_fault entry_rules words → broken ≡ None → KeepsEntryRules words
rules-none words size broken is none = list_entry words size (keeps_all entry_rules words (sym is ∙ ap told none))

-- and the words that opening leaves have no bad stamp: they are sound
pub opened-sound : (words : List ℕ) → 32768 ≤ length words → KeepsEntryRules words → None ≡ first_failing (stamp_rule (recovered words)) → IsSound (recovered words)
opened-sound words size rules none = record {
  entry = let is = entered words size rules in let end = opening-end words is in rules-now words is (recovered words) end.reached;
  closed = closed-kept (recovered words) (closed-end words size rules);
  stamps = record { checks = all_hold (stamp_rule (recovered words)) (sym none) };
}

pub kept-opened : (words opened : List ℕ) (d : Device) → 32768 ≤ length words → KeepsEntryRules words → d ≡ at_rest (recovered words) → None ≡ first_failing (stamp_rule d.cached) → opened ≡ d.cached
    → IsKept d opened [] (record { begun = 0; running = None }) [] flight.Idle 0 0 0
kept-opened words opened d size rules is none same =
    let cached : d.cached ≡ recovered words = ap (λ (e : Device). e.cached) is in
    let sound = opened-sound words size rules (none ∙ ap (λ (ws : List ℕ). first_failing (stamp_rule ws)) cached) in
    subst (λ (e : Device). IsKept e opened [] (record { begun = 0; running = None }) [] flight.Idle 0 0 0) (sym is)
    (subst (λ (ws : List ℕ). IsKept (at_rest (recovered words)) ws [] (record { begun = 0; running = None }) [] flight.Idle 0 0 0) (sym (same ∙ cached))
    (kept-sound (recovered words) (recovered-size words size rules) sound))

pub accepted-opened : (words : List ℕ) (d : Device) → 32768 ≤ length words → KeepsEntryRules words → d ≡ at_rest (recovered words) → None ≡ first_failing (stamp_rule d.cached) → opening_fault words ≡ None
accepted-opened words d size rules is none =
    let cached : d.cached ≡ recovered words = ap (λ (e : Device). e.cached) is in
    accepted-none words size rules (opened-sound words size rules (none ∙ ap (λ (ws : List ℕ). first_failing (stamp_rule ws)) cached))

pub device-opened : (before after : Device) → 32768 ≤ length before.cached → KeepsEntryRules before.cached → before ≡ at_rest before.cached → after ≡ at_rest (recovered before.cached) → after ≡ run 0 (plan_of (opening_parts before.cached)) before
device-opened before after size rules rests is =
    is ∙ sym (opening-reaches before.cached size rules) ∙ ap (λ (d : Device). run 0 (plan_of (opening_parts before.cached)) d) (sym rests)

-- ── refusals ──

pub refused-entry : (words : List ℕ) (broken : Option Broken) (it : Broken) → told broken ≡ first_fault entry_rules words → broken ≡ Some it → opening_fault words ≡ Some (record { rule = it.rule; place = it.place })
refused-entry words broken it is some = ap (λ (f : Option Fault). or_else f (first_fault closing_rules (recovered words))) (sym is ∙ ap told some)

pub refused-stamp : (words : List ℕ) (d : Device) (place : ℕ) → 32768 ≤ length words → KeepsEntryRules words → d ≡ at_rest (recovered words) → Some place ≡ first_failing (stamp_rule d.cached) → opening_fault words ≡ Some (record { rule = 27; place = place })
refused-stamp words d place size rules is some =
    let cached : d.cached ≡ recovered words = ap (λ (e : Device). e.cached) is in
    let none = entry-none words size rules in
    let stamps : first_failing (stamp_rule (recovered words)) ≡ Some place = ap (λ (ws : List ℕ). first_failing (stamp_rule ws)) (sym cached) ∙ sym some in
    ap (λ (f : Option Fault). or_else f (first_fault closing_rules (recovered words))) none ∙ closing-stamp (recovered words) place (closed-kept (recovered words) (closed-end words size rules)) stamps

pub never-refused : (words : List ℕ) (fault : Fault) → 32768 ≤ length words → opening_fault words ≡ Some fault → IsRecoverable words → ⊥
never-refused words fault size is recoverable = none-some fault (sym (accepted-none words size recoverable.entry recoverable.sound) ∙ is)
  where
    none-some : (fault : Fault) → None ≡ Some fault → ⊥
    none-some fault e = cc

-- ── what a cut leaves ──

pub recoverable-now : (d : Device) (opened : List ℕ) (history : List Entry) (now : Transactions) (left : List Action) (in_flight : Flight) (events played started : ℕ) → IsKept d opened history now left in_flight events played started
    → 32768 ≤ length d.cached → length d.durable ≡ length d.cached → (image : List ℕ) → IsCrashImage d image → IsRecoverable image
recoverable-now d opened history now left in_flight events played started kept size same image cut =
    fits-recoverable image (let whole = cut.size in omega (arith, size, same, whole)) (fits-now d opened history now left in_flight events played started kept image cut)
