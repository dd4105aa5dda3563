-- The first fault of an image among all numbered rules: there is none where it is sound, and it is the last rule where
-- the image is intact and of another version.
use Rattle.std.proofs.Common.{◌≡◌, ⊎_elim, ℕ, ◌<◌, ◌≤◌, Bool, true, false, eqb, List, [], ◌∷◌, ◌++◌, get_or, refl, sym, ◌∙◌, ap, subst, arith}
use Rattle.std.specs.Prelude.{◌↔◌, All, IsTrue, Option, None, Some, option_map}
use Rattle.std.proofs.lemmas.Bool.{cases_Bool, eqb-true}
use Rattle.std.proofs.lemmas.List.Elements.{All-nil, All-cons, All-head, All-tail, All-from_recursion}
use Rattle.std.proofs.lemmas.Option.{none-some}
use Rattle.image_layout.specs.Fixed.{version_at}
use Rattle.image_layout.specs.Checks.{check, Keeps, Numbered, numbered, Fault, first_failing, or_else, first_fault}
use Rattle.image_layout.specs.EntryRules.{entry_rules, magic_rule}
use Rattle.image_layout.specs.SoundRules.{idle_rule, split_log_rule, closed_rule, owner_rule, single_owner_rule, owned_rule, order_rule, fingerprint_rule, code_rule, text_rule, spare_slot_rule, stamp_rule, row_code_rule, given_back_rule, distinct_name_rule, latest_version_rule, fault, IsIntact, IsSound}
use Rattle.image_layout.proofs.Faults.{KeepsNumbered, keeps_all, first_fault-none, or_else-parts, fails}
use Rattle.image_rules.proofs.NumberedFaults.{append}

-- the rules of an intact image: 1 to 30
abbrev intact_rules : List Numbered
intact_rules = entry_rules
    ++ (numbered 16 idle_rule ∷ numbered 17 split_log_rule ∷ numbered 18 closed_rule ∷ numbered 19 owner_rule ∷ numbered 20 single_owner_rule ∷ numbered 21 owned_rule
    ∷ numbered 22 order_rule ∷ numbered 23 fingerprint_rule ∷ numbered 24 code_rule ∷ numbered 25 text_rule ∷ numbered 26 spare_slot_rule ∷ numbered 27 stamp_rule
    ∷ numbered 28 row_code_rule ∷ numbered 29 given_back_rule ∷ numbered 30 distinct_name_rule ∷ [])

abbrev version_rules : List Numbered
version_rules = numbered 31 latest_version_rule ∷ []

-- a fault among rules has the number of one of them
abbrev IsUpTo : ℕ → Numbered → Type 0
IsUpTo most rule = rule.number ≤ most

numbers_up : All (IsUpTo 30) intact_rules
numbers_up = All-from_recursion (IsUpTo 30) intact_rules (grind arith)

module _ (words : List ℕ) where
  fault_number : (most : ℕ) (rules : List Numbered) (found : Fault) → All (IsUpTo most) rules → first_fault rules words ≡ Some found → found.rule ≤ most
  fault_number most [] found up is = absurd (none-some found (is))
  fault_number most (rule ∷ rules) found up is =
      one (first_failing (rule.rule words)) (first_fault rules words) is (All-head (IsUpTo most) rule rules up) (fault_number most rules found (All-tail (IsUpTo most) rule rules up))
    where
      one : (place : Option ℕ) (rest : Option Fault) → or_else (option_map (λ p. record { rule = rule.number; place = p }) place) rest ≡ Some found → rule.number ≤ most
          → (rest ≡ Some found → found.rule ≤ most) → found.rule ≤ most
      one None rest is low behind = behind is
      one (Some p) rest is low behind = subst (λ (n : ℕ). n ≤ most) (same_rule rule.number p is) low
        where
          same_rule : (number p : ℕ) → Some (record { rule = number; place = p }) ≡ Some found → number ≡ found.rule
          same_rule number p e = cc

  -- ── intact images ──

  intact_list : IsIntact words → All (KeepsNumbered words) intact_rules
  intact_list i = let e = i.entry in All-from_recursion (KeepsNumbered words) intact_rules (
    e.magic,
    (
      e.version,
      (
        e.last,
        (
          e.table_count,
          (
            e.reserved,
            (
              e.descriptors,
              (
                e.bitmaps,
                (
                  e.lanes,
                  (
                    e.table_slots,
                    (
                      e.arrays,
                      (
                        e.trees,
                        (
                          e.names,
                          (
                            e.text_keys,
                            (
                              e.objects,
                              (
                                e.entries,
                                (i.idle, (i.split_logs, (i.closed, (i.owners, (i.single_owners, (i.owned, (i.order, (i.fingerprints, (i.codes, (i.texts, (i.spare_slots, (i.stamps, (i.row_codes, (i.given_back, (i.names, tt))))))))))))))),
                              ),
                            ),
                          ),
                        ),
                      ),
                    ),
                  ),
                ),
              ),
            ),
          ),
        ),
      ),
    ),
  )

  intact_none : IsIntact words → first_fault intact_rules words ≡ None
  intact_none intact = first_fault-none intact_rules words (intact_list intact)

  none_intact : first_fault intact_rules words ≡ None → IsIntact words
  none_intact none =
      let at : (k : ℕ) → k < 30 → Keeps words (get_or intact_rules k (numbered 0 magic_rule)).rule = λ k lt. keeps_all intact_rules words none k (numbered 0 magic_rule) lt in
      record {
        entry = record {
          magic = at 0 (omega arith);
          version = at 1 (omega arith);
          last = at 2 (omega arith);
          table_count = at 3 (omega arith);
          reserved = at 4 (omega arith);
          descriptors = at 5 (omega arith);
          bitmaps = at 6 (omega arith);
          lanes = at 7 (omega arith);
          table_slots = at 8 (omega arith);
          arrays = at 9 (omega arith);
          trees = at 10 (omega arith);
          names = at 11 (omega arith);
          text_keys = at 12 (omega arith);
          objects = at 13 (omega arith);
          entries = at 14 (omega arith);
        };
        idle = at 15 (omega arith);
        split_logs = at 16 (omega arith);
        closed = at 17 (omega arith);
        owners = at 18 (omega arith);
        single_owners = at 19 (omega arith);
        owned = at 20 (omega arith);
        order = at 21 (omega arith);
        fingerprints = at 22 (omega arith);
        codes = at 23 (omega arith);
        texts = at 24 (omega arith);
        spare_slots = at 25 (omega arith);
        stamps = at 26 (omega arith);
        row_codes = at 27 (omega arith);
        given_back = at 28 (omega arith);
        names = at 29 (omega arith);
      }

  -- ── the version ──

  abbrev is_latest : Bool
  is_latest = eqb (get_or words version_at 0) 2

  latest : is_latest ≡ true → Keeps words latest_version_rule
  unfolding latest_version_rule
  latest hit = record { checks = All-cons (λ c. IsTrue c.holds) (check version_at is_latest) [] hit (All-nil (λ c. IsTrue c.holds)) }

  latest_hit : Keeps words latest_version_rule → is_latest ≡ true
  unfolding latest_version_rule
  latest_hit keeps = All-head (λ c. IsTrue c.holds) (check version_at is_latest) [] keeps.checks

  version_none : is_latest ≡ true → first_fault version_rules words ≡ None
  version_none hit = first_fault-none version_rules words (All-cons (KeepsNumbered words) (numbered 31 latest_version_rule) [] (latest hit) (All-nil (KeepsNumbered words)))

  abbrev version_fault : Option Fault
  version_fault = Some (record { rule = 31; place = 513 })

  version_some : is_latest ≡ false → first_fault version_rules words ≡ version_fault
  unfolding latest_version_rule
  version_some miss = ap (λ (p : Option ℕ). or_else (option_map (λ at. record { rule = 31; place = at }) p) None) (fails (check version_at is_latest) [] miss)

  -- ── all of them ──

  parts : fault words ≡ or_else (first_fault intact_rules words) (first_fault version_rules words)
  parts = append intact_rules version_rules words

  behind : IsIntact words → fault words ≡ first_fault version_rules words
  behind intact = parts ∙ ap (λ (f : Option Fault). or_else f (first_fault version_rules words)) (intact_none intact)

  pub sound_iff : (fault words ≡ None) ↔ IsSound words
  sound_iff = (to, from)
    where
      to : fault words ≡ None → IsSound words
      to none =
          let both = or_else-parts (first_fault intact_rules words) (first_fault version_rules words) (sym parts ∙ none) in
          record {
            intact = none_intact both.0;
            latest = keeps_all version_rules words both.1 0 (numbered 31 latest_version_rule) (omega arith);
          }

      from : IsSound words → fault words ≡ None
      from sound = behind sound.intact ∙ version_none (latest_hit sound.latest)

  -- a fault at the last rule is behind all others
  none_before : fault words ≡ version_fault → first_fault intact_rules words ≡ None
  none_before is = by (first_fault intact_rules words) refl
    where
      by : (f : Option Fault) → first_fault intact_rules words ≡ f → f ≡ None
      by None e = refl
      by (Some found) e =
          let low : found.rule ≤ 30 = fault_number 30 intact_rules found numbers_up e in
          let same : Some found ≡ version_fault = sym (parts ∙ ap (λ (f : Option Fault). or_else f (first_fault version_rules words)) e) ∙ is in
          let high : found.rule ≡ 31 = rule_of found same in
          absurd (omega (arith, low, high))
        where
          rule_of : (found : Fault) → Some found ≡ version_fault → found.rule ≡ 31
          rule_of found same = cc

  pub version_iff : (fault words ≡ version_fault) ↔ (IsIntact words × (IsSound words → ⊥))
  version_iff = (to, from)
    where
      to : fault words ≡ version_fault → IsIntact words × (IsSound words → ⊥)
      to is = (none_intact (none_before is), λ sound. none-some (record { rule = 31; place = 513 }) (sym (sound_iff.1 sound) ∙ is))

      from : IsIntact words × (IsSound words → ⊥) → fault words ≡ version_fault
      from is = ⊎_elim (λ hit. absurd (is.1 (record { intact = is.0; latest = latest hit }))) (λ miss. behind is.0 ∙ version_some miss) (cases_Bool is_latest)

  pub first_version_iff : get_or words version_at 0 ≡ 1 → (fault words ≡ version_fault) ↔ IsIntact words
  first_version_iff first = (
    λ is. (version_iff.0 is).0,
    λ intact. version_iff.1 (intact, λ sound. let second : get_or words version_at 0 ≡ 2 = eqb-true (get_or words version_at 0) 2 (latest_hit sound.latest) in absurd (omega (arith, first, second))),
  )
