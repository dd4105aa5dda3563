-- All mendings, one after the other.
use Rattle.std.proofs.Common.{◌≡◌, ◌≢◌, ◌⊎◌, inl, inr, ⊎_elim, ℕ, ◌+◌, ◌*◌, ◌<◌, ◌≤◌, true, false, eqb, List, [], ◌∷◌, ◌++◌, length, get_or, map, refl, sym, ◌∙◌, subst, arith}
use Rattle.std.proofs.lemmas.Bool.{cases_eq, cases_lt, or_left, eq-eqb}
use Rattle.std.proofs.lemmas.List.{get_or_past}
use Rattle.image_layout.specs.Fixed.{state_at, commit_word_at, ready_at, first_segment_at, entry_at}
use Rattle.image_layout.specs.Places.{below}
use Rattle.pm_model.specs.Device.{IsBetween}
use Rattle.pm_model.specs.Plans.{Part, one_store, stores, words_after, footprint, IsPlan, EachCut}
use Rattle.pm_model.proofs.Cuts.{between-end}
use Rattle.engine_core.specs.Opening.{last_mending, undo_mending, close_mending, clear_mending, mendings, opening_parts, recovered}
use Rattle.engine_core.proofs.Greatest.{state, commit, entry}
use Rattle.engine_core.proofs.ImageRules.{IsEntered}
use Rattle.pm_model.specs.Needed.{Stores, Mending}
use Rattle.pm_model.proofs.NeededStores.{stores-append, stores-map, after-written, cut-written}
use Rattle.engine_core.proofs.OpeningStores.{IsStep, Opens, opens-none, opens-next, opens-round}
use Rattle.engine_core.proofs.OpeningTrace.{IsReached, IsAsBefore, IsIdleNow, IsSettled, SameObject, SameBut, reach-none, reach-objects, stays-beside, undone-beside, settled-beside}
use Rattle.engine_core.proofs.UndoParts.{footprint-left, footprint-right, stores-run, run-hit}
use Rattle.engine_core.proofs.OpeningSteps.{Beside, object-only, object-others, IsUndoing, IsClosing, IsClearing, rows-of, length-old, last-step, undo-step, close-step, settled-now}

-- ── an object is cleared ──

-- 0 over an entry or the commit word of the object
pub record ClearStore (object w value : ℕ) : Type 0 where
  pub is : value ≡ 0
  pub at : (w ≡ commit_word_at object) ⊎ ((entry_at object 0 ≤ w) × (w < entry_at object 60))

abbrev pub clear_part : ℕ → Part
clear_part object = stores 0 (map (entry_at object) (below 60)) ++ one_store (commit_word_at object) 0

clears : (object : ℕ) → Stores (ClearStore object) (clear_part object)
clears object = stores-append (ClearStore object) (stores 0 (map (entry_at object) (below 60))) (one_store (commit_word_at object) 0)
    (stores-run (ClearStore object) 0 (entry_at object) 0 60 (λ k le lt. record { is = refl; at = inr (omega arith, omega (arith, lt)) }))
    (record { is = refl; at = inl refl }, tt)

clear-entry : (object nth : ℕ) → nth < 60 → footprint (clear_part object) (entry_at object nth) ≡ true
clear-entry object nth lt = footprint-left (stores 0 (map (entry_at object) (below 60))) (one_store (commit_word_at object) 0) (entry_at object nth) (run-hit 0 (entry_at object) 0 60 nth (omega arith) (omega (arith, lt)))

clear-commit : (object : ℕ) → footprint (clear_part object) (commit_word_at object) ≡ true
clear-commit object = footprint-right (stores 0 (map (entry_at object) (below 60))) (one_store (commit_word_at object) 0) (commit_word_at object)
    (or_left (eqb (commit_word_at object) (commit_word_at object)) false (eq-eqb (commit_word_at object) (commit_word_at object) refl))

module _ (old : List ℕ) (entered : IsEntered old) (mid : List ℕ) (object : ℕ) (number : object < 16) (is : IsClearing old object mid) where
  module _ (image : List ℕ) (between : IsBetween mid (words_after (clear_part object) mid) image) where
    clear-word : (w : ℕ) → (get_or image w 0 ≡ get_or mid w 0) ⊎ ClearStore object w (get_or image w 0)
    clear-word w = ⊎_elim
        (λ lt. cut-written (ClearStore object) (clear_part object) mid image w (clears object) lt between)
        (λ le. let same = between.size in inl (get_or_past image w 0 (omega (arith, le, same)) ∙ sym (get_or_past mid w 0 le)))
        (cases_lt w (length mid))

    clear-beside : (w : ℕ) → (w ≡ commit_word_at object → ⊥) → (entry_at object 0 ≤ w → w < entry_at object 60 → ⊥) → get_or image w 0 ≡ get_or mid w 0
    clear-beside w word entries = ⊎_elim (λ e. e) (λ (stored : ClearStore object w (get_or image w 0)).
        absurd (⊎_elim word (λ (both : (entry_at object 0 ≤ w) × (w < entry_at object 60)). entries both.0 both.1) stored.at)) (clear-word w)

    kept : (w : ℕ) → Beside object w → get_or image w 0 ≡ get_or mid w 0
    kept w beside = ⊎_elim
        (λ (out : (w < 1024 + 64 * object) ⊎ (1088 + 64 * object ≤ w)). clear-beside w
        (λ e. ⊎_elim (λ low. omega (arith, low, e)) (λ high. omega (arith, high, e)) out)
        (λ from to. ⊎_elim (λ low. omega (arith, low, from)) (λ high. omega (arith, high, to)) out))
        (λ (word : (w ≡ ready_at object) ⊎ (w ≡ first_segment_at object)). clear-beside w
        (λ e. ⊎_elim (λ two. omega (arith, two, e)) (λ three. omega (arith, three, e)) word)
        (λ from to. ⊎_elim (λ two. omega (arith, two, from)) (λ three. omega (arith, three, from)) word)) beside

    same : SameBut false false false mid image
    same = object-only mid image object number between.size kept

    pub clear-others : (other : ℕ) → other ≢ object → SameObject mid image other
    clear-others other differs = object-others mid image object number between.size kept other differs

    pub clear-state : state image object ≡ state mid object
    clear-state = clear-beside (state_at object) (λ e. omega (arith, e)) (λ from to. omega (arith, from))

    pub clear-settled : IsSettled old image
    clear-settled = settled-beside old mid image is.reached same is.settled

    zero-or : (w : ℕ) → (get_or image w 0 ≡ get_or mid w 0) ⊎ (get_or image w 0 ≡ 0)
    zero-or w = ⊎_elim (λ e. inl e) (λ (stored : ClearStore object w (get_or image w 0)). inr stored.is) (clear-word w)

    more-zero : (w : ℕ) → (get_or mid w 0 ≡ get_or old w 0) ⊎ (get_or mid w 0 ≡ 0) → (get_or image w 0 ≡ get_or old w 0) ⊎ (get_or image w 0 ≡ 0)
    more-zero w before = ⊎_elim (λ e. ⊎_elim (λ b. inl (e ∙ b)) (λ b. inr (e ∙ b)) before) (λ e. inr e) (zero-or w)

    cleared : IsIdleNow old image object
    cleared = ⊎_elim
        (λ (before : IsAsBefore old mid object).
        let idle = is.idle object number in
        let was = before.state in
        record {
          idle = clear-state ∙ idle;
          word = more-zero (commit_word_at object) (inl before.commit);
          cleared = λ nth lt. more-zero (entry_at object nth) (inl (before.entry nth lt));
          undone = λ opened none. absurd (omega (arith, idle, was, opened));
          settled = λ opened some. clear-settled;
        })
        (λ (before : IsIdleNow old mid object). record {
          idle = clear-state ∙ before.idle;
          word = more-zero (commit_word_at object) before.word;
          cleared = λ nth lt. more-zero (entry_at object nth) (before.cleared nth lt);
          undone = λ opened none. undone-beside old mid image is.reached same (rows-of old entered) object number opened (before.undone opened none);
          settled = λ opened some. clear-settled;
        })
        (let reached = is.reached in reached.object object number)

    pub clear-cut : IsReached old image
    clear-cut = reach-objects old mid image is.reached same (λ other lt. ⊎_elim
        (λ (here : object ≡ other). subst (λ (k : ℕ). IsAsBefore old image k ⊎ IsIdleNow old image k) here (inr cleared))
        (λ differs. stays-beside old mid image is.reached same (rows-of old entered) other lt (clear-others other (λ e. differs (sym e))))
        (cases_eq object other))

  pub clear-step : IsStep (IsReached old) (IsClearing old (object + 1)) (clear_mending object mid) mid
  clear-step =
      let size = length-old old entered mid is.reached in
      let next = words_after (clear_part object) mid in
      let whole = between-end (clear_part object) mid in
      let now = clear-cut next whole in
      record {
        stores = (
          stores-map (ClearStore object) (λ place value. place < length mid) (clear_part object) (λ place value stored. ⊎_elim (λ word. omega (arith, word, size, number))
              (λ (both : (entry_at object 0 ≤ place) × (place < entry_at object 60)). let top = both.1 in omega (arith, top, size, number)) stored.at) (clears object),
          tt,
        );
        cuts = (clear-cut, now);
        end = record {
          reached = now;
          settled = clear-settled next whole;
          idle = λ other lt. ⊎_elim
              (λ (here : object ≡ other). subst (λ (k : ℕ). state next k ≡ 0) here (clear-state next whole ∙ is.idle object number))
              (λ differs. let same_now = clear-others next whole other (λ e. differs (sym e)) in same_now.state ∙ is.idle other lt)
              (cases_eq object other);
          commit = λ other lt within. ⊎_elim
              (λ (here : object ≡ other). subst (λ (k : ℕ). commit next k ≡ 0) here
              (let stored = after-written (ClearStore object) (clear_part object) mid (commit_word_at object) (clears object) (omega (arith, size, number)) (clear-commit object) in stored.is))
              (λ differs. let same_now = clear-others next whole other (λ e. differs (sym e)) in same_now.commit ∙ is.commit other (omega (arith, lt, differs)) within)
              (cases_eq object other);
          entry = λ other nth lt within few. ⊎_elim
              (λ (here : object ≡ other). subst (λ (k : ℕ). entry next k nth ≡ 0) here
              (let stored = after-written (ClearStore object) (clear_part object) mid (entry_at object nth) (clears object) (omega (arith, size, number, few)) (clear-entry object nth few) in stored.is))
              (λ differs. let same_now = clear-others next whole other (λ e. differs (sym e)) in same_now.entry nth few ∙ is.entry other nth (omega (arith, lt, differs)) within few)
              (cases_eq object other);
        };
      }

-- ── the rounds ──

module _ (old : List ℕ) (entered : IsEntered old) where
  clear-round : (words : List ℕ) → IsClearing old 0 words → Opens (IsReached old) (IsClearing old 16) (map clear_mending (below 16) ++ []) words
  clear-round words is = opens-round (IsReached old) (IsClearing old 16) (IsClearing old) clear_mending []
      (λ object mid number now. clear-step old entered mid object number now)
      (λ mid now. opens-none (IsReached old) (IsClearing old 16) mid now.reached now) 0 16 (omega arith) words is

  close-round : (words : List ℕ) → IsClosing old 0 words → Opens (IsReached old) (IsClearing old 16) (map close_mending (below 16) ++ (map clear_mending (below 16) ++ [])) words
  close-round words is = opens-round (IsReached old) (IsClearing old 16) (IsClosing old) close_mending (map clear_mending (below 16) ++ [])
      (λ object mid number now. close-step old entered mid object number now)
      (λ mid now. clear-round mid (record {
        reached = now.reached;
        settled = settled-now old entered mid now.reached now.last now.undone;
        idle = λ object lt. now.idle object lt lt;
        commit = λ object none. absurd (omega (arith, none));
        entry = λ object nth none. absurd (omega (arith, none));
      })) 0 16 (omega arith) words is

  undo-round : (words : List ℕ) → IsUndoing old 0 words → Opens (IsReached old) (IsClearing old 16) (map undo_mending (below 16) ++ (map close_mending (below 16) ++ (map clear_mending (below 16) ++ []))) words
  undo-round words is = opens-round (IsReached old) (IsClearing old 16) (IsUndoing old) undo_mending (map close_mending (below 16) ++ (map clear_mending (below 16) ++ []))
      (λ object mid number now. undo-step old entered mid object number now)
      (λ mid now. close-round mid (record {
        reached = now.reached;
        last = now.last;
        undone = λ object lt. now.undone object lt lt;
        idle = λ object none. absurd (omega (arith, none));
      })) 0 16 (omega arith) words is

  mendings-are : last_mending ∷ (map undo_mending (below 16) ++ (map close_mending (below 16) ++ (map clear_mending (below 16) ++ []))) ≡ mendings
  mendings-are = refl

  pub opening-opens : Opens (IsReached old) (IsClearing old 16) mendings old
  opening-opens = subst (λ (ms : List Mending). Opens (IsReached old) (IsClearing old 16) ms old) mendings-are
      (opens-next (IsReached old) (IsUndoing old 0) (IsClearing old 16) last_mending (map undo_mending (below 16) ++ (map close_mending (below 16) ++ (map clear_mending (below 16) ++ []))) old
      (last-step old entered (reach-none old)) undo-round)

  -- opening is a plan
  pub opening-plan : IsPlan (length old) (opening_parts old)
  unfolding opening_parts
  opening-plan = let opens = opening-opens in opens.plan

  -- each cut of it is reached
  pub opening-cuts : EachCut (IsReached old) (opening_parts old) old
  unfolding opening_parts
  opening-cuts = let opens = opening-opens in opens.cuts

  -- and so are its last words, in which no transaction is open
  pub opening-end : IsClearing old 16 (recovered old)
  unfolding opening_parts recovered
  opening-end = let opens = opening-opens in opens.end
