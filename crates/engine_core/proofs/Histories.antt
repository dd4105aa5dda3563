-- A history that goes on by one entry, and one whose last entry is answered.
use Rattle.std.proofs.Common.{◌≡◌, ℕ, ◌+◌, ◌==◌, Bool, true, false, cond, List, [], ◌∷◌, ◌++◌, length, map, refl, ap, sym, subst, ◌∙◌, append-nil, length-append, arith}
use Rattle.std.specs.List.{range_with_len}
use Rattle.std.proofs.lemmas.List.Elements.{filter-append}
use Rattle.std.proofs.lemmas.List.{map-append}
use Rattle.std.proofs.lemmas.Bool.Decides.{nat_tests}
use Rattle.image_layout.proofs.Ranges.{range_more}
use Rattle.mv_model.specs.declared.reply.Entry.{Entry}
use Rattle.mv_model.specs.State.{State}
use Rattle.mv_model.specs.Next.{next}
use Rattle.mv_model.specs.History.{FollowsFrom, IsAllowed, IsLegal, IsSession, IsNumbered, entries_of, state_after}
use Rattle.engine_core.specs.CoreState.{IsOfOne, answered}

-- the state after one more entry
pub state_after-more : (state : State) (entries : List Entry) (one : Entry)
    → state_after state (entries ++ one ∷ []) ≡ next (state_after state entries) one.session one.call one.reply
state_after-more state [] one = refl
state_after-more state (entry ∷ entries) one = state_after-more (next state entry.session entry.call entry.reply) entries one

-- one more entry may follow
follows-more : (state : State) (entries : List Entry) (one : Entry) → FollowsFrom state entries → IsSession one.session
    → IsAllowed (state_after state entries) one.session one.call one.reply → FollowsFrom state (entries ++ one ∷ [])
follows-more state [] one follows is_session allowed = (is_session, allowed, tt)
follows-more state (entry ∷ entries) one follows is_session allowed =
    (follows.0, follows.1, follows-more (next state entry.session entry.call entry.reply) entries one follows.2 is_session allowed)

-- the entries of a session, with one more entry
entries_of-more : (session : ℕ) (history : List Entry) (one : Entry)
    → entries_of session (history ++ one ∷ []) ≡ entries_of session history ++ cond (one.session == session) (one ∷ []) []
entries_of-more session history one = filter-append (λ entry. entry.session == session) history (one ∷ [])

numbered-own : (entries : List Entry) (one : Entry) → one.ordinal ≡ length entries + 1
    → map (λ entry. entry.ordinal) entries ≡ range_with_len 1 (length entries)
    → map (λ entry. entry.ordinal) (entries ++ one ∷ []) ≡ range_with_len 1 (length (entries ++ one ∷ []))
numbered-own entries one is_next numbered =
    let size : length (entries ++ one ∷ []) ≡ length entries + 1 = grind (arith, length-append) in
    let last : 1 + length entries ≡ one.ordinal = omega (arith, is_next) in
    rw (size, range_more 1 (length entries), last, map-append (λ (entry : Entry). entry.ordinal) entries (one ∷ []), numbered) refl

numbered-step : (session : ℕ) (history : List Entry) (one : Entry) (b : Bool) → (b ≡ true → entries_of session history ≡ history)
    → one.ordinal ≡ length history + 1
    → map (λ entry. entry.ordinal) (entries_of session history) ≡ range_with_len 1 (length (entries_of session history))
    → map (λ entry. entry.ordinal) (entries_of session history ++ cond b (one ∷ []) []) ≡ range_with_len 1 (length (entries_of session history ++ cond b (one ∷ []) []))
numbered-step session history one false alone is_next numbered = rw (append-nil (entries_of session history)) numbered
numbered-step session history one true alone is_next numbered =
    numbered-own (entries_of session history) one (rw (alone refl) is_next) numbered

-- only session 1 has entries
numbered-more : (history : List Entry) (one : Entry) → entries_of 1 history ≡ history → one.session ≡ 1
    → one.ordinal ≡ length history + 1 → IsNumbered history → IsNumbered (history ++ one ∷ [])
numbered-more history one alone is_one is_next numbered = λ session.
    let mine : (one.session == session) ≡ true → entries_of session history ≡ history =
    λ same. let is_session : session ≡ 1 = grind (arith, nat_tests, same, is_one) in rw is_session alone in
    rw (entries_of-more session history one) (numbered-step session history one (one.session == session) mine is_next (numbered session))

pub of_one-more : (entries : List Entry) (one : Entry) → IsOfOne entries → one.session ≡ 1 → IsOfOne (entries ++ one ∷ [])
of_one-more [] one alone is_one = (is_one, tt)
of_one-more (entry ∷ entries) one alone is_one = (alone.0, of_one-more entries one alone.1 is_one)

entries_of-one : (entries : List Entry) → IsOfOne entries → entries_of 1 entries ≡ entries
entries_of-one [] alone = refl
entries_of-one (entry ∷ entries) alone =
    let hit : (entry.session == 1) ≡ true = grind (arith, nat_tests, alone.0) in
    rw hit (ap (λ (rest : List Entry). entry ∷ rest) (entries_of-one entries alone.1))

-- one more entry of session 1
pub legal-more : (state : State) (history : List Entry) (one : Entry) → IsLegal state history → IsOfOne history → one.session ≡ 1 → one.ordinal ≡ length history + 1
    → IsAllowed (state_after state history) 1 one.call one.reply → IsLegal state (history ++ one ∷ [])
legal-more state history one legal alone is_one is_next allowed = record {
  follows = follows-more state history one legal.follows (subst IsSession (sym is_one) (omega arith, omega arith))
      (subst (λ (who : ℕ). IsAllowed (state_after state history) who one.call one.reply) (sym is_one) allowed);
  numbered = numbered-more history one (entries_of-one history alone) is_one is_next legal.numbered;
}

-- ── an answered entry ──

follows-answered : (state : State) (entries : List Entry) (one : Entry) → FollowsFrom state (entries ++ one ∷ []) → FollowsFrom state (entries ++ answered one ∷ [])
follows-answered state [] one follows = follows
follows-answered state (entry ∷ entries) one follows = (follows.0, follows.1, follows-answered (next state entry.session entry.call entry.reply) entries one follows.2)

pub state_after-answered : (state : State) (entries : List Entry) (one : Entry) → state_after state (entries ++ answered one ∷ []) ≡ state_after state (entries ++ one ∷ [])
state_after-answered state [] one = refl
state_after-answered state (entry ∷ entries) one = state_after-answered (next state entry.session entry.call entry.reply) entries one

ordinals-cond : (b : Bool) (one : Entry) → map (λ (entry : Entry). entry.ordinal) (cond b (answered one ∷ []) []) ≡ map (λ entry. entry.ordinal) (cond b (one ∷ []) [])
ordinals-cond true one = refl
ordinals-cond false one = refl

length-cond : (b : Bool) (one : Entry) → length (cond b (answered one ∷ []) []) ≡ length (cond b (one ∷ []) [])
length-cond true one = refl
length-cond false one = refl

numbered-answered : (entries : List Entry) (one : Entry) → IsNumbered (entries ++ one ∷ []) → IsNumbered (entries ++ answered one ∷ [])
numbered-answered entries one numbered = λ session.
    let test = one.session == session in
    let own = entries_of session entries in
    let old = entries_of-more session entries one in
    let new = entries_of-more session entries (answered one) in
    let is : map (λ (entry : Entry). entry.ordinal) (own ++ cond test (one ∷ []) []) ≡ range_with_len 1 (length (own ++ cond test (one ∷ []) [])) = rw old at (numbered session) in
    let ordinals : map (λ (entry : Entry). entry.ordinal) (own ++ cond test (answered one ∷ []) []) ≡ map (λ (entry : Entry). entry.ordinal) (own ++ cond test (one ∷ []) []) =
    map-append (λ (entry : Entry). entry.ordinal) own (cond test (answered one ∷ []) [])
    ∙ ap (λ (xs : List ℕ). map (λ (entry : Entry). entry.ordinal) own ++ xs) (ordinals-cond test one)
    ∙ sym (map-append (λ (entry : Entry). entry.ordinal) own (cond test (one ∷ []) [])) in
    let size : length (own ++ cond test (answered one ∷ []) []) ≡ length (own ++ cond test (one ∷ []) []) =
    omega (arith, length-append own (cond test (answered one ∷ []) []), length-append own (cond test (one ∷ []) []), length-cond test one) in
    rw new (ordinals ∙ is ∙ ap (range_with_len 1) (sym size))

pub legal-answered : (state : State) (entries : List Entry) (one : Entry) → IsLegal state (entries ++ one ∷ []) → IsLegal state (entries ++ answered one ∷ [])
legal-answered state entries one legal = record {
  follows = follows-answered state entries one legal.follows;
  numbered = numbered-answered entries one legal.numbered;
}

pub of_one-answered : (entries : List Entry) (one : Entry) → IsOfOne (entries ++ one ∷ []) → IsOfOne (entries ++ answered one ∷ [])
of_one-answered [] one alone = alone
of_one-answered (entry ∷ entries) one alone = (alone.0, of_one-answered entries one alone.1)

pub of_one-last : (entries : List Entry) (one : Entry) → IsOfOne (entries ++ one ∷ []) → one.session ≡ 1
of_one-last [] one alone = alone.0
of_one-last (entry ∷ entries) one alone = of_one-last entries one alone.1
