-- Which images are recoverable: exactly those that fit. Sound images are, and opening leaves them as they are.
use Rattle.std.proofs.Common.{◌≡◌, ◌≢◌, ◌⊎◌, inl, inr, ⊎_elim, ℕ, zero, suc, ◌+◌, ◌<◌, ◌≤◌, Bool, true, false, not, ◌&&◌, ◌||◌, cond, eqb, leb, ltb, List, [], ◌∷◌, ◌++◌, length, get_or, map, refl, sym, ◌∙◌, ap, subst, arith}
use Rattle.std.specs.Prelude.{All, Option, None}
use Rattle.std.specs.List.{flat_map, range_with_len}
use Rattle.std.proofs.lemmas.Bool.{cases_eq, cases_lt, cond-true, cond-false, cond_both, eq-eqb, eqb-true, ne_eqb, leb-true, le-leb, ltb-true, lt-ltb, le-ltb, and_parts, and_from, and_left, or_cases, or_left, or_right}
use Rattle.std.proofs.lemmas.List.Elements.{All-nil, All-cons, All-head, All-tail, All-append, All-from_recursion, recursion_from_All}
use Rattle.mv_model.specs.declared.limits.TheConstants.{MAX_COMMITS}
use Rattle.mv_model.specs.State.{State, Table}
use Rattle.image_layout.specs.Fixed.{last_at, state_at, commit_word_at, entry_at}
use Rattle.image_layout.specs.Places.{below}
use Rattle.image_layout.specs.Checks.{Check, check, Keeps, Numbered, Fault, first_fault, or_else}
use Rattle.pm_model.specs.declared.action.Action.TheVariants.{Store, Flush, Fence, Punch}
use Rattle.pm_model.specs.Plans.{Part, one_store, stores, finished, footprint, unless_empty}
use Rattle.image_layout.proofs.Faults.{Holds, keeps_all, first_fault-none, or_else-parts}
use Rattle.txn_object.specs.declared.entry.EntryKind.{EntryKind}
use Rattle.txn_object.specs.declared.entry.EntryKind.TheVariants.{Created, Ended}
use Rattle.engine_core.specs.Stage.{high_at, born_at, ended_at}
use Rattle.engine_core.specs.LogicalState.{commit_count, next_row, logical_state}
use Rattle.engine_core.specs.ImageRules.{dead, entry_rules, closing_rules, KeepsEntryRules, closed_rule, closed_checks, stamp_rule, row_checks, is_born, is_ended, IsSound}
use Rattle.pm_model.specs.Needed.{needed_stores, needed_parts, Stores, Mending}
use Rattle.engine_core.specs.Opening.{past_created, undo_part, last_mending, undo_mending, close_mending, clear_mending, mendings, parts_of, opening_parts, recovered, opening_fault}
use Rattle.engine_core.specs.Recoverable.{IsRecoverable, IsUndecided, IsBornBy, IsEndedBy, Fits}
use Rattle.engine_core.proofs.Greatest.{state, commit, entry, open_past, idle_is, last-count, count-le, high-next, next-le, high-used}
use Rattle.engine_core.proofs.ImageRules.{entered, each-flat, all-flat, each-check, all-checks}
use Rattle.pm_model.proofs.NeededStores.{stores-append}
use Rattle.engine_core.proofs.OpeningTrace.{born, ended, IsDeadNow, IsFreeNow}
use Rattle.engine_core.proofs.OpeningRounds.{opening-end, clear_part}
use Rattle.engine_core.proofs.UndoParts.{stores-run}
use Rattle.engine_core.proofs.FitsCuts.{fits-now, shows-same, rules-now}

-- ── no transaction is open ──

pub record IsClosed (words : List ℕ) : Type 0 where
  pub idle : (object : ℕ) → object < 16 → get_or words (state_at object) 0 ≡ 0
  pub word : (object : ℕ) → object < 16 → get_or words (commit_word_at object) 0 ≡ 0
  pub clear : (object nth : ℕ) → object < 16 → nth < 60 → get_or words (entry_at object nth) 0 ≡ 0

pub closed-is : (words : List ℕ) → Keeps words closed_rule → IsClosed words
unfolding closed_rule
closed-is words keeps =
    let each = λ (object : ℕ) (lt : object < 16). each-flat (closed_checks words) 0 16 keeps.checks object (omega arith) (omega (arith, lt)) in
    record {
      idle = λ object lt. eqb-true (state words object) 0 (All-head Holds (check (state_at object) (eqb (state words object) 0)) (others object) (each object lt));
      word = λ object lt. eqb-true (commit words object) 0 (All-head Holds (check (commit_word_at object) (eqb (commit words object) 0)) (entries object)
          (All-tail Holds (check (state_at object) (eqb (state words object) 0)) (others object) (each object lt)));
      clear = λ object nth lt within. eqb-true (entry words object nth) 0 (each-check (λ k. check (entry_at object k) (eqb (entry words object k) 0)) 0 60
          (All-tail Holds (check (commit_word_at object) (eqb (commit words object) 0)) (entries object)
          (All-tail Holds (check (state_at object) (eqb (state words object) 0)) (others object) (each object lt))) nth (omega arith) (omega (arith, within)));
    }
  where
    entries : ℕ → List Check
    entries object = map (λ k. check (entry_at object k) (eqb (entry words object k) 0)) (below 60)

    others : ℕ → List Check
    others object = check (commit_word_at object) (eqb (commit words object) 0) ∷ map (λ k. check (entry_at object k) (eqb (entry words object k) 0)) (below 60)

pub closed-kept : (words : List ℕ) → IsClosed words → Keeps words closed_rule
unfolding closed_rule
closed-kept words is = record {
  checks = all-flat (closed_checks words) 0 16 (λ object le lt. let number : object < 16 = omega (arith, lt) in
      let entries = map (λ k. check (entry_at object k) (eqb (entry words object k) 0)) (below 60) in
      All-cons Holds (check (state_at object) (eqb (state words object) 0)) (check (commit_word_at object) (eqb (commit words object) 0) ∷ entries) (eq-eqb (state words object) 0 (is.idle object number))
      (All-cons Holds (check (commit_word_at object) (eqb (commit words object) 0)) entries (eq-eqb (commit words object) 0 (is.word object number))
      (all-checks (λ k. check (entry_at object k) (eqb (entry words object k) 0)) 0 60 (λ nth from within. eq-eqb (entry words object nth) 0 (is.clear object nth number (omega (arith, within)))))));
}

-- it has no more commits and rows than its numbers say
pub count-idle : (words : List ℕ) → ((object : ℕ) → object < 16 → get_or words (state_at object) 0 ≡ 0) → commit_count words ≡ get_or words last_at 0
count-idle words idle =
    let least = last-count words in
    let most = count-le words (get_or words last_at 0) (omega arith) (λ object lt. let e = idle_is words object (commit words object) (idle object lt) in omega (arith, e)) in
    omega (arith, least, most)

pub next-idle : (words : List ℕ) → ((object : ℕ) → object < 16 → get_or words (state_at object) 0 ≡ 0) → next_row words ≡ get_or words high_at 0
next-idle words idle =
    let least = high-next words in
    let most = next-le words (get_or words high_at 0) (omega arith) (λ object lt. let e : open_past words object ≡ 0 = ap (λ (s : ℕ). cond (eqb s 1) (past words object) 0) (idle object lt) in omega (arith, e)) in
    omega (arith, least, most)
  where
    past : List ℕ → ℕ → ℕ
    past ws object = past_created ws object

-- ── the stamps of a row ──

abbrev commit_test : ℕ → ℕ → Bool
commit_test last stamp = leb 1 stamp && leb stamp last

abbrev born_test : ℕ → ℕ → ℕ → ℕ → Bool
born_test row high last b = cond (ltb row high) ((eqb b 0 || eqb b dead) || commit_test last b) (eqb b 0)

abbrev ended_test : ℕ → ℕ → ℕ → ℕ → ℕ → Bool
ended_test row high last b e = eqb e 0 || (((ltb row high && commit_test last b) && commit_test last e) && leb b e)

born-from : (row high last b : ℕ) → (b ≤ last) ⊎ (b ≡ dead) → (b ≢ 0 → row < high) → born_test row high last b ≡ true
born-from row high last b stamp given = ⊎_elim
    (λ (none : b ≡ 0). cond_both (ltb row high) ((eqb b 0 || eqb b dead) || commit_test last b) (eqb b 0) (λ (t : Bool). t ≡ true)
    (λ hit. or_left (eqb b 0 || eqb b dead) (commit_test last b) (or_left (eqb b 0) (eqb b dead) (eq-eqb b 0 none))) (λ miss. eq-eqb b 0 none))
    (λ some. cond-true (ltb row high) ((eqb b 0 || eqb b dead) || commit_test last b) (eqb b 0) (lt-ltb row high (given some)) ∙ ⊎_elim
    (λ le. or_right (eqb b 0 || eqb b dead) (commit_test last b) (and_from (leb 1 b) (leb b last) (le-leb 1 b (omega (arith, some))) (le-leb b last le)))
    (λ is. or_left (eqb b 0 || eqb b dead) (commit_test last b) (or_right (eqb b 0) (eqb b dead) (eq-eqb b dead is))) stamp)
    (cases_eq b 0)

born-to : (row high last b : ℕ) → born_test row high last b ≡ true → ((b ≤ last) ⊎ (b ≡ dead)) × (b ≢ 0 → row < high)
born-to row high last b is = ⊎_elim
    (λ lt. (
      ⊎_elim (λ early. ⊎_elim (λ none. let z = eqb-true b 0 none in inl (omega (arith, z))) (λ d. inr (eqb-true b dead d)) (or_cases (eqb b 0) (eqb b dead) early))
          (λ by. let both = and_parts (leb 1 b) (leb b last) by in inl (leb-true b last both.1))
          (or_cases (eqb b 0 || eqb b dead) (commit_test last b) (sym (cond-true (ltb row high) ((eqb b 0 || eqb b dead) || commit_test last b) (eqb b 0) (lt-ltb row high lt)) ∙ is)),
      λ some. lt,
    ))
    (λ le. let z = eqb-true b 0 (sym (cond-false (ltb row high) ((eqb b 0 || eqb b dead) || commit_test last b) (eqb b 0) (le-ltb row high le)) ∙ is) in (inl (omega (arith, z)), λ some. absurd (some z)))
    (cases_lt row high)

pub record EndedFacts (row high last b e : ℕ) : Type 0 where
  pub given : row < high
  pub first : 1 ≤ b
  pub later : b ≤ e
  pub most : e ≤ last

ended-from : (row high last b e : ℕ) → EndedFacts row high last b e → ended_test row high last b e ≡ true
ended-from row high last b e is =
    let first = is.first in let later = is.later in let most = is.most in
    or_right (eqb e 0) (((ltb row high && commit_test last b) && commit_test last e) && leb b e)
    (and_from ((ltb row high && commit_test last b) && commit_test last e) (leb b e)
    (and_from (ltb row high && commit_test last b) (commit_test last e)
    (and_from (ltb row high) (commit_test last b) (lt-ltb row high is.given) (and_from (leb 1 b) (leb b last) (le-leb 1 b first) (le-leb b last (omega (arith, later, most)))))
    (and_from (leb 1 e) (leb e last) (le-leb 1 e (omega (arith, first, later))) (le-leb e last most)))
    (le-leb b e later))

ended-to : (row high last b e : ℕ) → ended_test row high last b e ≡ true → (e ≡ 0) ⊎ EndedFacts row high last b e
ended-to row high last b e is = ⊎_elim
    (λ none. inl (eqb-true e 0 none))
    (λ some.
    let one = and_parts ((ltb row high && commit_test last b) && commit_test last e) (leb b e) some in
    let two = and_parts (ltb row high && commit_test last b) (commit_test last e) one.0 in
    let three = and_parts (ltb row high) (commit_test last b) two.0 in
    inr (record {
      given = ltb-true row high three.0;
      first = leb-true 1 b (and_parts (leb 1 b) (leb b last) three.1).0;
      later = leb-true b e one.1;
      most = leb-true e last (and_parts (leb 1 e) (leb e last) two.1).1;
    }))
    (or_cases (eqb e 0) (((ltb row high && commit_test last b) && commit_test last e) && leb b e) is)

pub record IsStamped (words : List ℕ) : Type 0 where
  pub high : get_or words high_at 0 ≤ 4096
  pub born_is : (row : ℕ) → row < 4096 → ((born words row ≤ get_or words last_at 0) ⊎ (born words row ≡ dead)) × (born words row ≢ 0 → row < get_or words high_at 0)
  pub ended_is : (row : ℕ) → row < 4096 → (ended words row ≡ 0) ⊎ EndedFacts row (get_or words high_at 0) (get_or words last_at 0) (born words row) (ended words row)

pub stamped-is : (words : List ℕ) → Keeps words stamp_rule → IsStamped words
unfolding stamp_rule
stamped-is words keeps =
    let first = check high_at (leb (get_or words high_at 0) 4096) in
    let rows = All-tail Holds first (flat_map (row_checks words) (below 4096)) keeps.checks in
    let each = λ (row : ℕ) (lt : row < 4096). each-flat (row_checks words) 0 4096 rows row (omega arith) (omega (arith, lt)) in
    record {
      high = leb-true (get_or words high_at 0) 4096 (All-head Holds first (flat_map (row_checks words) (below 4096)) keeps.checks);
      born_is = λ row lt. born-to row (get_or words high_at 0) (get_or words last_at 0) (born words row)
          (All-head Holds (check (born_at row) (is_born words row)) (check (ended_at row) (is_ended words row) ∷ []) (each row lt));
      ended_is = λ row lt. ended-to row (get_or words high_at 0) (get_or words last_at 0) (born words row) (ended words row)
          (All-head Holds (check (ended_at row) (is_ended words row)) [] (All-tail Holds (check (born_at row) (is_born words row)) (check (ended_at row) (is_ended words row) ∷ []) (each row lt)));
    }

stamped-kept : (words : List ℕ) → IsStamped words → Keeps words stamp_rule
unfolding stamp_rule
stamped-kept words is = record {
  checks = All-cons Holds (check high_at (leb (get_or words high_at 0) 4096)) (flat_map (row_checks words) (below 4096)) (le-leb (get_or words high_at 0) 4096 is.high)
      (all-flat (row_checks words) 0 4096 (λ row from lt. let within : row < 4096 = omega (arith, lt) in
      let b = is.born_is row within in
      All-cons Holds (check (born_at row) (is_born words row)) (check (ended_at row) (is_ended words row) ∷ []) (born-from row (get_or words high_at 0) (get_or words last_at 0) (born words row) b.0 b.1)
      (All-cons Holds (check (ended_at row) (is_ended words row)) []
      (⊎_elim (λ none. or_left (eqb (ended words row) 0) (((ltb row (get_or words high_at 0) && commit_test (get_or words last_at 0) (born words row)) && commit_test (get_or words last_at 0) (ended words row)) && leb (born words row) (ended words row)) (eq-eqb (ended words row) 0 none))
      (λ by. ended-from row (get_or words high_at 0) (get_or words last_at 0) (born words row) (ended words row) by) (is.ended_is row within))
      (All-nil Holds))));
}

-- an image without a stamp
pub stamps-none : (words : List ℕ) → get_or words high_at 0 ≡ 0 → ((row : ℕ) → row < 4096 → born words row ≡ 0) → ((row : ℕ) → row < 4096 → ended words row ≡ 0) → Keeps words stamp_rule
stamps-none words high borns ends = stamped-kept words (record {
  high = omega (arith, high);
  born_is = λ row lt. let none = borns row lt in (inl (omega (arith, none)), λ some. absurd (some none));
  ended_is = λ row lt. inl (ends row lt);
})

-- ── an image that fits, and in which no transaction is open, is sound ──

no_undecided : (words : List ℕ) → IsClosed words → (kind : EntryKind) (row : ℕ) → IsUndecided words kind row → ⊥
no_undecided words closed kind row is = let idle = closed.idle is.object is.object_is in let opened = is.is_open in omega (arith, idle, opened)

fits-stamped : (words : List ℕ) → IsClosed words → Fits words → IsStamped words
fits-stamped words closed fits =
    let count = count-idle words closed.idle in
    let next = next-idle words closed.idle in
    record {
      high = fits.high;
      born_is = λ row lt. ⊎_elim
          (λ (by : IsBornBy words row). (⊎_elim (λ le. inl (omega (arith, le, count))) (λ e. inr e) by.stamp, λ some. let less = by.given some in omega (arith, less, next)))
          (λ is. absurd (no_undecided words closed Created row is)) (fits.born row lt);
      ended_is = λ row lt. ⊎_elim (λ none. inl none) (λ more. ⊎_elim
          (λ (by : IsEndedBy words row). let given = by.given in let last = by.last in inr (record { given = omega (arith, given, next); first = by.first; later = by.later; most = omega (arith, last, count) }))
          (λ (is : IsUndecided words Ended row × (commit_count words < ended words row)). absurd (no_undecided words closed Ended row is.0)) more) (fits.ended row lt);
    }

pub fits-sound : (words : List ℕ) → IsClosed words → Fits words → IsSound words
fits-sound words closed fits = record { entry = fits.entry; closed = closed-kept words closed; stamps = stamped-kept words (fits-stamped words closed fits) }

pub sound-fits : (words : List ℕ) → IsSound words → Fits words
sound-fits words sound =
    let closed = closed-is words sound.closed in
    let stamped = stamped-is words sound.stamps in
    let count = count-idle words closed.idle in
    let next = next-idle words closed.idle in
    record {
      entry = sound.entry;
      high = stamped.high;
      rows = let high = high-used words in omega (arith, next, high);
      born = λ row lt. let is = stamped.born_is row lt in inl (record {
        stamp = ⊎_elim (λ le. inl (omega (arith, le, count))) (λ e. inr e) is.0;
        given = λ some. let less = is.1 some in omega (arith, less, next);
      });
      ended = λ row lt. ⊎_elim (λ none. inl none)
          (λ (by : EndedFacts row (get_or words high_at 0) (get_or words last_at 0) (born words row) (ended words row)).
          let given = by.given in let most = by.most in inr (inl (record { given = omega (arith, given, next); first = by.first; later = by.later; last = omega (arith, most, count) }))) (stamped.ended_is row lt);
    }

-- ── opening ──

module _ (words : List ℕ) (size : 32768 ≤ length words) where
  pub closed-end : (rules : KeepsEntryRules words) → IsClosed (recovered words)
  closed-end rules =
      let end = opening-end words (entered words size rules) in
      record { idle = end.idle; word = λ object lt. end.commit object lt lt; clear = λ object nth lt within. end.entry object nth lt lt within }

  pub fits-recoverable : Fits words → IsRecoverable words
  fits-recoverable fits =
      let is = entered words size fits.entry in
      let end = opening-end words is in
      record {
        entry = fits.entry;
        sound = fits-sound (recovered words) (closed-end fits.entry) (fits-now words is fits (recovered words) end.reached);
        same = shows-same words is fits (recovered words) end.reached;
      }

  pub recoverable-fits : IsRecoverable words → Fits words
  recoverable-fits recoverable =
      let is = entered words size recoverable.entry in
      let end = opening-end words is in
      let reached = end.reached in
      let settled = end.settled in
      let counted = settled.last in
      let sound = recoverable.sound in
      let stamped = stamped-is (recovered words) sound.stamps in
      let next_now = next-idle (recovered words) end.idle in
      let next_same : next_row (recovered words) ≡ next_row words = ap (λ (s : State). head_next s.tables) recoverable.same in
      let high = stamped.high in
      let low = reached.high_low in
      let most = reached.high_most in
      let few = few-commits sound.entry in
      record {
        entry = recoverable.entry;
        high = omega (arith, high, low);
        rows = omega (arith, next_now, next_same, most);
        born = λ row lt. ⊎_elim
            (λ (same : born (recovered words) row ≡ born words row). let b = stamped.born_is row lt in inl (record {
              stamp = ⊎_elim (λ le. inl (omega (arith, le, same, counted))) (λ e. inr (sym same ∙ e)) b.0;
              given = λ some. let less = b.1 (λ e. some (sym same ∙ e)) in omega (arith, less, next_now, next_same);
            }))
            (λ (gone : IsDeadNow words (recovered words) row). inr gone.undecided)
            (reached.born row lt);
        ended = λ row lt. ⊎_elim
            (λ (same : ended (recovered words) row ≡ ended words row). ⊎_elim
            (λ none. inl (sym same ∙ none))
            (λ (by : EndedFacts row (get_or (recovered words) high_at 0) (get_or (recovered words) last_at 0) (born (recovered words) row) (ended (recovered words) row)).
            let given = by.given in let first = by.first in let later = by.later in let last = by.most in ⊎_elim
            (λ (stays : born (recovered words) row ≡ born words row). inr (inl (record {
              given = omega (arith, given, next_now, next_same);
              first = omega (arith, first, stays);
              later = omega (arith, later, stays, same);
              last = omega (arith, last, same, counted);
            })))
            (λ (gone : IsDeadNow words (recovered words) row). let d = gone.now in absurd (omega (arith, d, later, last, few)))
            (reached.born row lt))
            (stamped.ended_is row lt))
            (λ (gone : IsFreeNow words (recovered words) row). inr (inr (gone.undecided, gone.was)))
            (reached.ended row lt);
      }
    where
      head_next : List Table → ℕ
      head_next [] = 0
      head_next (table ∷ tables) = table.next_row

      few-commits : KeepsEntryRules (recovered words) → get_or (recovered words) last_at 0 ≤ MAX_COMMITS
      few-commits rules = leb-true (get_or (recovered words) last_at 0) MAX_COMMITS (All-head Holds (check last_at (leb (get_or (recovered words) last_at 0) MAX_COMMITS)) [] rules.last.checks)

  -- ── why an image is refused ──

  pub entry_list : KeepsEntryRules words → All (λ rule. Keeps words rule.rule) entry_rules
  entry_list e = All-from_recursion (λ rule. Keeps words rule.rule) entry_rules (e.magic, (e.version, (e.last, (e.reserved, (e.objects, (e.entries, tt))))))

  pub list_entry : All (λ rule. Keeps words rule.rule) entry_rules → KeepsEntryRules words
  list_entry all =
      let (a, (b, (c, (d, (e, (f, g)))))) = recursion_from_All (λ (rule : Numbered). Keeps words rule.rule) entry_rules all in
      record { magic = a; version = b; last = c; reserved = d; objects = e; entries = f }

  pub accepted-none : KeepsEntryRules words → IsSound (recovered words) → opening_fault words ≡ None
  accepted-none rules sound =
      let first = first_fault-none entry_rules words (entry_list rules) in
      let later = first_fault-none closing_rules (recovered words) (All-from_recursion (λ rule. Keeps (recovered words) rule.rule) closing_rules (sound.closed, (sound.stamps, tt))) in
      ap (λ (fault : Option Fault). or_else fault (first_fault closing_rules (recovered words))) first ∙ later

  pub none-accepted : opening_fault words ≡ None → KeepsEntryRules words × IsSound (recovered words)
  none-accepted none =
      let parts = or_else-parts (first_fault entry_rules words) (first_fault closing_rules (recovered words)) none in
      let rules = list_entry (keeps_all entry_rules words parts.0) in
      let (a, (b, c)) = recursion_from_All (λ (rule : Numbered). Keeps (recovered words) rule.rule) closing_rules (keeps_all closing_rules (recovered words) parts.1) in
      let is = entered words size rules in
      let end = opening-end words is in
      (rules, record { entry = rules-now words is (recovered words) end.reached; closed = a; stamps = b })

-- ── a sound image stays ──

-- stores of what is there
needed-none : (words : List ℕ) (part : Part) → Stores (λ place value. get_or words place 0 ≡ value) part → needed_stores words part ≡ []
needed-none words [] is = refl
needed-none words (Store place value ∷ part) is =
    cond-true (footprint part place.0 || eqb (get_or words place.0 0) value) (needed_stores words part) (Store place value ∷ needed_stores words part)
    (or_right (footprint part place.0) (eqb (get_or words place.0 0) value) (eq-eqb (get_or words place.0 0) value is.0)) ∙ needed-none words part is.1
needed-none words (Flush line ∷ part) is = absurd is
needed-none words (Fence ∷ part) is = absurd is
needed-none words (Punch page ∷ part) is = absurd is

-- a mending that stores nothing
abbrev IsIdle : List ℕ → Mending → Type 0
IsIdle words mending = needed_parts words (mending words) ≡ []

idle-parts : (words : List ℕ) (ms : List Mending) → All (IsIdle words) ms → parts_of ms words ≡ []
idle-parts words [] all = refl
idle-parts words (mending ∷ ms) all =
    ap (λ (parts : List Part). parts ++ parts_of ms (finished parts words)) (All-head (IsIdle words) mending ms all) ∙ idle-parts words ms (All-tail (IsIdle words) mending ms all)

one-part : (words : List ℕ) (part : Part) → needed_stores words part ≡ [] → needed_parts words (part ∷ []) ≡ []
one-part words part none = ap (λ (needed : Part). unless_empty needed ++ []) none

idle-round : (words : List ℕ) (mending : ℕ → Mending) (first count : ℕ) → ((object : ℕ) → object < first + count → IsIdle words (mending object)) → All (IsIdle words) (map mending (range_with_len first count))
idle-round words mending first zero each = All-nil (IsIdle words)
idle-round words mending first (suc count) each = All-cons (IsIdle words) (mending first) (map mending (range_with_len (first + 1) count)) (each first (omega arith))
    (idle-round words mending (first + 1) count (λ object lt. each object (omega (arith, lt))))

module _ (words : List ℕ) (sound : IsSound words) where
  closed : IsClosed words
  closed = closed-is words sound.closed

  not-open : (object : ℕ) → object < 16 → eqb (state words object) 1 ≡ false
  not-open object lt = let is = closed in ne_eqb (state words object) 1 (λ e. let idle = is.idle object lt in omega (arith, e, idle))

  last-idle : IsIdle words last_mending
  last-idle = let is = closed in one-part words (one_store last_at (commit_count words)) (needed-none words (one_store last_at (commit_count words)) (sym (count-idle words is.idle), tt))

  undo-idle : (object : ℕ) → object < 16 → IsIdle words (undo_mending object)
  undo-idle object lt = ap (λ (parts : List Part). needed_parts words parts) (cond-false (eqb (state words object) 1 && eqb (commit words object) 0) (undo_part words object ∷ one_store (state_at object) 0 ∷ []) []
      (and_left (eqb (state words object) 1) (eqb (commit words object) 0) (not-open object lt)))

  close-idle : (object : ℕ) → object < 16 → IsIdle words (close_mending object)
  close-idle object lt = ap (λ (parts : List Part). needed_parts words parts) (cond-false (eqb (state words object) 1 && not (eqb (commit words object) 0)) (one_store (state_at object) 0 ∷ []) []
      (and_left (eqb (state words object) 1) (not (eqb (commit words object) 0)) (not-open object lt)))

  clear-idle : (object : ℕ) → object < 16 → IsIdle words (clear_mending object)
  clear-idle object lt = let is = closed in one-part words (clear_part object) (needed-none words (clear_part object)
      (stores-append (λ place value. get_or words place 0 ≡ value) (stores 0 (map (entry_at object) (below 60))) (one_store (commit_word_at object) 0)
      (stores-run (λ place value. get_or words place 0 ≡ value) 0 (entry_at object) 0 60 (λ nth from within. is.clear object nth lt (omega (arith, within))))
      (is.word object lt, tt)))

  pub sound-idle : opening_parts words ≡ []
  unfolding opening_parts
  sound-idle = idle-parts words mendings
      (All-cons (IsIdle words) last_mending (map undo_mending (below 16) ++ map close_mending (below 16) ++ map clear_mending (below 16)) last-idle
      (All-append (IsIdle words) (map undo_mending (below 16) ++ map close_mending (below 16)) (map clear_mending (below 16))
      (All-append (IsIdle words) (map undo_mending (below 16)) (map close_mending (below 16))
      (idle-round words undo_mending 0 16 (λ object lt. undo-idle object (omega (arith, lt)))) (idle-round words close_mending 0 16 (λ object lt. close-idle object (omega (arith, lt)))))
      (idle-round words clear_mending 0 16 (λ object lt. clear-idle object (omega (arith, lt))))))

  pub sound-recovered : recovered words ≡ words
  unfolding recovered
  sound-recovered = ap (λ (parts : List Part). finished parts words) sound-idle

  pub sound-recoverable : IsRecoverable words
  sound-recoverable = record { entry = sound.entry; sound = subst IsSound (sym sound-recovered) sound; same = ap logical_state sound-recovered }
