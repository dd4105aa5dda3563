-- The rules that speak of one word, and what a plan of the session with an object leaves of them.
use Rattle.std.proofs.Common.{◌≡◌, ◌≢◌, ◌⊎◌, inl, inr, ⊎_elim, ℕ, ◌+◌, ◌-◌, ◌*◌, ◌/◌, ◌%◌, ◌<◌, ◌≤◌, ◌∙◌, true, ◌&&◌, ◌||◌, not, eqb, ltb, List, length, get_or, set, refl, ap, sym, subst, arith}
use Rattle.std.proofs.lemmas.Bool.{cases_eq, cases_lt, eqb-true, ltb-true, or_cases}
use Rattle.std.proofs.lemmas.List.{get_or-set_same, get_or-set_other, length-set}
use Rattle.mv_model.specs.declared.limits.TheConstants.{MAX_COMMITS}
use Rattle.image_layout.specs.Fixed.{magic_at, version_at, last_at, descriptor_at, state_at, commit_word_at, ready_at, first_segment_at, entry_at}
use Rattle.image_layout.specs.Fresh.{magic_number}
use Rattle.engine_core.specs.Stage.{high_at, born_at, value_at}
use Rattle.engine_core.specs.ImageRules.{KeepsEntryRules, is_entry, is_entry_word, is_reserved_page}
use Rattle.engine_core.specs.Recoverable.{Fits}
use Rattle.engine_core.proofs.ImageFacts.{IsByRules, by_rules, from_rules}

-- the word is one of the object's with its segments, which a stage image doesn't have
abbrev pub IsOfSegments : ℕ → ℕ → Type 0
IsOfSegments object w = (state_at object + 2 ≤ w) × (w < state_at object + 4)

-- the word is one of another object's
abbrev pub IsOfOther : ℕ → ℕ → Type 0
IsOfOther object w = ((1024 ≤ w) × (w < state_at object)) ⊎ ((state_at object + 64 ≤ w) × (w < 2048))

-- no plan of the session with this object writes the word
abbrev pub IsFixed : ℕ → ℕ → Type 0
IsFixed object w = (w < 514) ⊎ (IsOfSegments object w ⊎ (IsOfOther object w ⊎ (14336 ≤ w)))

-- The fixed words are the same, the others are as the rules of each word say, and each row with a stamp has its value.
pub record IsRuled (object : ℕ) (words image : List ℕ) : Type 0 where
  pub size : length image ≡ length words
  pub fixed : (w : ℕ) → IsFixed object w → get_or image w 0 ≡ get_or words w 0
  pub least : get_or words last_at 0 ≤ get_or image last_at 0
  pub last : get_or image last_at 0 ≤ MAX_COMMITS
  pub state : get_or image (state_at object) 0 ≤ 1
  pub commit_word : get_or image (commit_word_at object) 0 ≤ get_or image last_at 0 + 1
  pub most : get_or image (commit_word_at object) 0 ≤ MAX_COMMITS
  pub entries : get_or image (state_at object) 0 ≡ 1 → (nth : ℕ) → nth < 60 → is_entry_word image object nth ≡ true
  pub high : get_or image high_at 0 ≤ 4096
  pub value : (row : ℕ) → row < 4096 → 1 ≤ get_or words (born_at row) 0 → get_or image (value_at row) 0 ≡ get_or words (value_at row) 0

-- ── the rules of the image ──

-- an entry word is one wherever the object's entries are the same
pub entry_word-same : (a b : List ℕ) (object nth : ℕ) → ((k : ℕ) → k < 60 → get_or a (entry_at object k) 0 ≡ get_or b (entry_at object k) 0) → nth < 60 → is_entry_word a object nth ≡ is_entry_word b object nth
entry_word-same a b object nth same lt =
    ap (λ (x : ℕ). eqb x 0 || (is_entry x && ((eqb nth 0) || not (eqb (get_or a (entry_at object (nth - 1)) 0) 0)))) (same nth lt)
    ∙ ap (λ (y : ℕ). eqb (get_or b (entry_at object nth) 0) 0 || (is_entry (get_or b (entry_at object nth) 0) && ((eqb nth 0) || not (eqb y 0)))) (same (nth - 1) (omega (arith, lt)))

module _ (object : ℕ) (words image : List ℕ) (rules : KeepsEntryRules words) (now : IsRuled object words image) where
  old : IsByRules words
  old = by_rules words rules

  other : (k n : ℕ) → k ≢ object → k < 16 → n < 64 → get_or image (1024 + 64 * k + n) 0 ≡ get_or words (1024 + 64 * k + n) 0
  other k n apart lt small = now.fixed (1024 + 64 * k + n) (inr (inr (inl (⊎_elim
      (λ (low : k < object). inl (omega arith, omega (arith, low, small)))
      (λ (high : object ≤ k). inr (omega (arith, apart, high), omega (arith, lt, small)))
      (cases_lt k object)))))

  segments : (n : ℕ) → 2 ≤ n → n < 4 → get_or image (1024 + 64 * object + n) 0 ≡ get_or words (1024 + 64 * object + n) 0
  segments n low lt = now.fixed (1024 + 64 * object + n) (inr (inl (omega (arith, low), omega (arith, lt))))

  by_object : (P : ℕ → Type 0) → P object → ((k : ℕ) → k ≢ object → k < 16 → P k) → (k : ℕ) → k < 16 → P k
  by_object P own rest k lt = ⊎_elim (λ (is : k ≡ object). subst P (sym is) own) (λ apart. rest k apart lt) (cases_eq k object)

  descriptor : (page : ℕ) → is_reserved_page page ≡ true → get_or image (descriptor_at page) 0 ≡ get_or words (descriptor_at page) 0
  descriptor page hit = ⊎_elim
      (λ (first : page / 64 ≡ 0). now.fixed (descriptor_at page) (inl (⊎_elim
      (λ whole. let none = eqb-true (page % 64) 0 whole in omega (arith, none, first))
      (λ low. let few = ltb-true page 28 low in omega (arith, few, first))
      (or_cases (eqb (page % 64) 0) (ltb page 28) hit))))
      (λ later. now.fixed (descriptor_at page) (inr (inr (inr (omega (arith, later))))))
      (cases_eq (page / 64) 0)

  pub ruled-rules : KeepsEntryRules image
  ruled-rules = from_rules image (record {
    magic = ap (λ (x : ℕ). eqb x magic_number) (now.fixed magic_at (inl (omega arith))) ∙ old.magic;
    version = ap (λ (x : ℕ). eqb x 102) (now.fixed version_at (inl (omega arith))) ∙ old.version;
    last = now.last;
    reserved = λ page lt hit. ap (λ (x : ℕ). eqb x 8) (descriptor page hit) ∙ old.reserved page (subst (λ (n : ℕ). page < n / 512) now.size lt) hit;
    state = by_object (λ k. get_or image (state_at k) 0 ≤ 1) now.state
        (λ k apart lt. let same = other k 0 apart lt (omega arith) in let before = old.state k lt in omega (arith, same, before));
    commit_word = by_object (λ k. get_or image (commit_word_at k) 0 ≤ get_or image last_at 0 + 1) now.commit_word
        (λ k apart lt. let same = other k 1 apart lt (omega arith) in let before = old.commit_word k lt in let least = now.least in omega (arith, same, before, least));
    most = by_object (λ k. get_or image (commit_word_at k) 0 ≤ MAX_COMMITS) now.most
        (λ k apart lt. let same = other k 1 apart lt (omega arith) in let before = old.most k lt in omega (arith, same, before));
    ready = λ k lt. by_object (λ k. get_or image (ready_at k) 0 ≡ get_or words (ready_at k) 0) (segments 2 (omega arith) (omega arith))
        (λ k apart lt. other k 2 apart lt (omega arith)) k lt ∙ old.ready k lt;
    segments = λ k lt. by_object (λ k. get_or image (first_segment_at k) 0 ≡ get_or words (first_segment_at k) 0) (segments 3 (omega arith) (omega arith))
        (λ k apart lt. other k 3 apart lt (omega arith)) k lt ∙ old.segments k lt;
    entries = λ k nth lt few. by_object (λ k. get_or image (state_at k) 0 ≡ 1 → is_entry_word image k nth ≡ true) (λ open_now. now.entries open_now nth few)
        (λ k apart high open_now. entry_word-same image words k nth (λ n small. other k (4 + n) apart high (omega (arith, small))) few
        ∙ old.entries k nth high few (sym (other k 0 apart high (omega arith)) ∙ open_now)) k lt;
  })

-- ── one store ──

pub ruled-self : (object : ℕ) (words : List ℕ) → object < 16 → Fits words → IsRuled object words words
ruled-self object words lt fits =
    let old = by_rules words fits.entry in
    record {
      size = refl;
      fixed = λ w is. refl;
      least = omega arith;
      last = old.last;
      state = old.state object lt;
      commit_word = old.commit_word object lt;
      most = old.most object lt;
      entries = λ open_now nth few. old.entries object nth lt few open_now;
      high = fits.high;
      value = λ row lt low. refl;
    }

-- a plan of the session may write the place: it isn't one of another object's, nor one with its own one's segments
record IsWritten (object place : ℕ) : Type 0 where
  low : 514 ≤ place
  high : place < 14336
  other : IsOfOther object place → ⊥
  segments : IsOfSegments object place → ⊥

-- a place that isn't fixed
apart-fixed : (object place w : ℕ) → IsWritten object place → IsFixed object w → w ≢ place
apart-fixed object place w written (inl first) e = let low = written.low in omega (arith, e, first, low)
apart-fixed object place w written (inr (inl segments)) e = written.segments (subst (IsOfSegments object) e segments)
apart-fixed object place w written (inr (inr (inl other))) e = written.other (subst (IsOfOther object) e other)
apart-fixed object place w written (inr (inr (inr last))) e = let high = written.high in omega (arith, e, last, high)

-- a place of its object but those with segments, and one of no object
written-own : (object k : ℕ) → object < 16 → k < 64 → (k < 2) ⊎ (4 ≤ k) → IsWritten object (1024 + 64 * object + k)
written-own object k lt few apart = record {
  low = omega arith;
  high = omega (arith, lt, few);
  other = λ is. ⊎_elim (λ (below : (1024 ≤ 1024 + 64 * object + k) × (1024 + 64 * object + k < state_at object)). let end = below.1 in omega (arith, end))
      (λ (above : (state_at object + 64 ≤ 1024 + 64 * object + k) × (1024 + 64 * object + k < 2048)). let start = above.0 in omega (arith, start, few)) is;
  segments = λ is. let start = is.0 in let end = is.1 in ⊎_elim (λ (early : k < 2). omega (arith, early, start)) (λ (late : 4 ≤ k). omega (arith, late, end)) apart;
}

written-free : (object place : ℕ) → object < 16 → 514 ≤ place → place < 14336 → (place < 1024) ⊎ (2048 ≤ place) → IsWritten object place
written-free object place lt low high apart = record {
  low = low;
  high = high;
  other = λ is. ⊎_elim (λ (below : (1024 ≤ place) × (place < state_at object)). let start = below.0 in let end = below.1 in free start (omega (arith, end, lt)))
      (λ (above : (state_at object + 64 ≤ place) × (place < 2048)). let start = above.0 in let end = above.1 in free (omega (arith, start)) end) is;
  segments = λ is. let start = is.0 in let end = is.1 in free (omega (arith, start)) (omega (arith, end, lt));
}
  where
    free : 1024 ≤ place → place < 2048 → ⊥
    free start end = ⊎_elim (λ (first : place < 1024). omega (arith, first, start)) (λ (second : 2048 ≤ place). omega (arith, second, end)) apart

module _ (object : ℕ) (words now : List ℕ) (lt : object < 16) (ruled : IsRuled object words now) where
  kept : (place x w : ℕ) → w ≢ place → get_or (set now place x) w 0 ≡ get_or now w 0
  kept place x w apart = get_or-set_other now place w x 0 apart

  -- an object's entry words are kept by a store elsewhere
  entries-kept : (place x : ℕ) → ((k : ℕ) → k < 60 → entry_at object k ≢ place) → (nth : ℕ) → nth < 60 → is_entry_word (set now place x) object nth ≡ is_entry_word now object nth
  entries-kept place x apart nth few = entry_word-same (set now place x) now object nth (λ k small. kept place x (entry_at object k) (apart k small)) few

  -- the state of the object
  pub ruled-state : (x : ℕ) → state_at object < length now → x ≤ 1 → (x ≡ 1 → (nth : ℕ) → nth < 60 → is_entry_word now object nth ≡ true) → IsRuled object words (set now (state_at object) x)
  ruled-state x inside small entries =
      let is = get_or-set_same now (state_at object) x 0 inside in
      let last = kept (state_at object) x last_at (λ e. omega (arith, e)) in
      let word = kept (state_at object) x (commit_word_at object) (λ e. omega (arith, e)) in
      let high = kept (state_at object) x high_at (λ e. omega (arith, e)) in
      let place : IsWritten object (state_at object) = subst (IsWritten object) (omega arith) (written-own object 0 lt (omega arith) (inl (omega arith))) in
      record {
        size = length-set now (state_at object) x ∙ ruled.size;
        fixed = λ w at. kept (state_at object) x w (apart-fixed object (state_at object) w place at) ∙ ruled.fixed w at;
        least = let old = ruled.least in omega (arith, last, old);
        last = let old = ruled.last in omega (arith, last, old);
        state = omega (arith, is, small);
        commit_word = let old = ruled.commit_word in omega (arith, word, last, old);
        most = let old = ruled.most in omega (arith, word, old);
        entries = λ open_now nth few. entries-kept (state_at object) x (λ k below e. omega (arith, e)) nth few ∙ entries (sym is ∙ open_now) nth few;
        high = let old = ruled.high in omega (arith, high, old);
        value = λ row below some. kept (state_at object) x (value_at row) (λ e. omega (arith, e, lt)) ∙ ruled.value row below some;
      }

  -- an entry
  pub ruled-entry : (nth x : ℕ) → nth < 60 → ((k : ℕ) → k < 60 → is_entry_word (set now (entry_at object nth) x) object k ≡ true) → IsRuled object words (set now (entry_at object nth) x)
  ruled-entry nth x few entries =
      let last = kept (entry_at object nth) x last_at (λ e. omega (arith, e)) in
      let state = kept (entry_at object nth) x (state_at object) (λ e. omega (arith, e)) in
      let word = kept (entry_at object nth) x (commit_word_at object) (λ e. omega (arith, e)) in
      let high = kept (entry_at object nth) x high_at (λ e. omega (arith, e)) in
      let place : IsWritten object (entry_at object nth) = subst (IsWritten object) (omega arith) (written-own object (4 + nth) lt (omega (arith, few)) (inr (omega arith))) in
      record {
        size = length-set now (entry_at object nth) x ∙ ruled.size;
        fixed = λ w at. kept (entry_at object nth) x w (apart-fixed object (entry_at object nth) w place at) ∙ ruled.fixed w at;
        least = let old = ruled.least in omega (arith, last, old);
        last = let old = ruled.last in omega (arith, last, old);
        state = let old = ruled.state in omega (arith, state, old);
        commit_word = let old = ruled.commit_word in omega (arith, word, last, old);
        most = let old = ruled.most in omega (arith, word, old);
        entries = λ open_now k small. entries k small;
        high = let old = ruled.high in omega (arith, high, old);
        value = λ row below some. kept (entry_at object nth) x (value_at row) (λ e. omega (arith, e, few, lt)) ∙ ruled.value row below some;
      }

  -- the value of a row without a stamp
  pub ruled-value : (row x : ℕ) → row < 4096 → get_or words (born_at row) 0 ≡ 0 → IsRuled object words (set now (value_at row) x)
  ruled-value row x below none =
      let last = kept (value_at row) x last_at (λ e. omega (arith, e)) in
      let state = kept (value_at row) x (state_at object) (λ e. omega (arith, e, lt)) in
      let word = kept (value_at row) x (commit_word_at object) (λ e. omega (arith, e, lt)) in
      let high = kept (value_at row) x high_at (λ e. omega (arith, e)) in
      let place = written-free object (value_at row) lt (omega arith) (omega (arith, below)) (inr (omega arith)) in
      record {
        size = length-set now (value_at row) x ∙ ruled.size;
        fixed = λ w at. kept (value_at row) x w (apart-fixed object (value_at row) w place at) ∙ ruled.fixed w at;
        least = let old = ruled.least in omega (arith, last, old);
        last = let old = ruled.last in omega (arith, last, old);
        state = let old = ruled.state in omega (arith, state, old);
        commit_word = let old = ruled.commit_word in omega (arith, word, last, old);
        most = let old = ruled.most in omega (arith, word, old);
        entries = λ open_now nth few. entries-kept (value_at row) x (λ k small e. omega (arith, e, small, lt)) nth few ∙ ruled.entries (sym state ∙ open_now) nth few;
        high = let old = ruled.high in omega (arith, high, old);
        value = λ other less some. kept (value_at row) x (value_at other) (λ e. let same : other ≡ row = omega (arith, e) in let is = ap (λ (r : ℕ). get_or words (born_at r) 0) same in omega (arith, is, none, some)) ∙ ruled.value other less some;
      }

  -- the commit word
  pub ruled-word : (x : ℕ) → commit_word_at object < length now → x ≤ get_or now last_at 0 + 1 → x ≤ MAX_COMMITS → IsRuled object words (set now (commit_word_at object) x)
  ruled-word x inside next small =
      let is = get_or-set_same now (commit_word_at object) x 0 inside in
      let last = kept (commit_word_at object) x last_at (λ e. omega (arith, e)) in
      let state = kept (commit_word_at object) x (state_at object) (λ e. omega (arith, e)) in
      let high = kept (commit_word_at object) x high_at (λ e. omega (arith, e)) in
      let place : IsWritten object (commit_word_at object) = subst (IsWritten object) (omega arith) (written-own object 1 lt (omega arith) (inl (omega arith))) in
      record {
        size = length-set now (commit_word_at object) x ∙ ruled.size;
        fixed = λ w at. kept (commit_word_at object) x w (apart-fixed object (commit_word_at object) w place at) ∙ ruled.fixed w at;
        least = let old = ruled.least in omega (arith, last, old);
        last = let old = ruled.last in omega (arith, last, old);
        state = let old = ruled.state in omega (arith, state, old);
        commit_word = omega (arith, is, last, next);
        most = omega (arith, is, small);
        entries = λ open_now nth few. entries-kept (commit_word_at object) x (λ k below e. omega (arith, e)) nth few ∙ ruled.entries (sym state ∙ open_now) nth few;
        high = let old = ruled.high in omega (arith, high, old);
        value = λ row below some. kept (commit_word_at object) x (value_at row) (λ e. omega (arith, e, lt)) ∙ ruled.value row below some;
      }

  -- the last commit number
  pub ruled-last : (x : ℕ) → last_at < length now → get_or now last_at 0 ≤ x → x ≤ MAX_COMMITS → IsRuled object words (set now last_at x)
  ruled-last x inside more small =
      let is = get_or-set_same now last_at x 0 inside in
      let state = kept last_at x (state_at object) (λ e. omega (arith, e)) in
      let word = kept last_at x (commit_word_at object) (λ e. omega (arith, e)) in
      let high = kept last_at x high_at (λ e. omega (arith, e)) in
      let place = written-free object last_at lt (omega arith) (omega arith) (inl (omega arith)) in
      record {
        size = length-set now last_at x ∙ ruled.size;
        fixed = λ w at. kept last_at x w (apart-fixed object last_at w place at) ∙ ruled.fixed w at;
        least = let old = ruled.least in omega (arith, is, more, old);
        last = omega (arith, is, small);
        state = let old = ruled.state in omega (arith, state, old);
        commit_word = let old = ruled.commit_word in omega (arith, word, is, more, old);
        most = let old = ruled.most in omega (arith, word, old);
        entries = λ open_now nth few. entries-kept last_at x (λ k below e. omega (arith, e)) nth few ∙ ruled.entries (sym state ∙ open_now) nth few;
        high = let old = ruled.high in omega (arith, high, old);
        value = λ row below some. kept last_at x (value_at row) (λ e. omega (arith, e)) ∙ ruled.value row below some;
      }

-- ── many stores ──

-- Some stamps and the bound are written, and nothing else.
pub ruled-stamps : (object : ℕ) (words image : List ℕ) → object < 16 → Fits words → length image ≡ length words → ((w : ℕ) → (w < 2048) ⊎ (10240 ≤ w) → w ≢ high_at → get_or image w 0 ≡ get_or words w 0)
    → get_or image high_at 0 ≤ 4096 → IsRuled object words image
ruled-stamps object words image lt fits size same high =
    let old = by_rules words fits.entry in
    let last = same last_at (inl (omega arith)) (λ e. omega (arith, e)) in
    let state = same (state_at object) (inl (omega (arith, lt))) (λ e. omega (arith, e)) in
    let word = same (commit_word_at object) (inl (omega (arith, lt))) (λ e. omega (arith, e)) in
    record {
      size = size;
      fixed = by-fixed;
      least = omega (arith, last);
      last = let before = old.last in omega (arith, last, before);
      state = let before = old.state object lt in omega (arith, state, before);
      commit_word = let before = old.commit_word object lt in omega (arith, word, last, before);
      most = let before = old.most object lt in omega (arith, word, before);
      entries = λ open_now nth few. entry_word-same image words object nth (λ k below. same (entry_at object k) (inl (omega (arith, below, lt))) (λ e. omega (arith, e))) few
          ∙ old.entries object nth lt few (sym state ∙ open_now);
      high = high;
      value = λ row below some. same (value_at row) (inr (omega arith)) (λ e. omega (arith, e));
    }
  where
    by-fixed : (w : ℕ) → IsFixed object w → get_or image w 0 ≡ get_or words w 0
    by-fixed w (inl first) = same w (inl (omega (arith, first))) (λ e. omega (arith, e, first))
    by-fixed w (inr (inl segments)) = let start = segments.0 in let end = segments.1 in same w (inl (omega (arith, end, lt))) (λ e. omega (arith, e, start))
    by-fixed w (inr (inr (inl (inl below)))) = let start = below.0 in let end = below.1 in same w (inl (omega (arith, end, lt))) (λ e. omega (arith, e, start))
    by-fixed w (inr (inr (inl (inr above)))) = let start = above.0 in let end = above.1 in same w (inl (omega (arith, end))) (λ e. omega (arith, e, start))
    by-fixed w (inr (inr (inr last))) = same w (inr (omega (arith, last))) (λ e. omega (arith, e, last))

-- the word is none of the object's but one with its segments
abbrev pub IsBesideObject : ℕ → ℕ → Type 0
IsBesideObject object w = (w < commit_word_at object) ⊎ (IsOfSegments object w ⊎ (state_at object + 64 ≤ w))

-- The object is idle, and its entries and its commit word are cleared, some of them.
pub ruled-cleared : (object : ℕ) (words now image : List ℕ) → object < 16 → IsRuled object words now → get_or now (state_at object) 0 ≡ 0 → length image ≡ length now
    → ((w : ℕ) → IsBesideObject object w → get_or image w 0 ≡ get_or now w 0)
    → (get_or image (commit_word_at object) 0 ≡ get_or now (commit_word_at object) 0) ⊎ (get_or image (commit_word_at object) 0 ≡ 0) → IsRuled object words image
ruled-cleared object words now image lt ruled idle size same word =
    let last = same last_at (inl (omega arith)) in
    let state = same (state_at object) (inl (omega arith)) in
    let high = same high_at (inl (omega arith)) in
    let old_word = ruled.commit_word in
    let old_most = ruled.most in
    record {
      size = size ∙ ruled.size;
      fixed = λ w at. same w (by-fixed w at) ∙ ruled.fixed w at;
      least = let old = ruled.least in omega (arith, last, old);
      last = let old = ruled.last in omega (arith, last, old);
      state = omega (arith, state, idle);
      commit_word = ⊎_elim (λ (e : get_or image (commit_word_at object) 0 ≡ get_or now (commit_word_at object) 0). omega (arith, e, last, old_word)) (λ (e : get_or image (commit_word_at object) 0 ≡ 0). omega (arith, e)) word;
      most = ⊎_elim (λ (e : get_or image (commit_word_at object) 0 ≡ get_or now (commit_word_at object) 0). omega (arith, e, old_most)) (λ (e : get_or image (commit_word_at object) 0 ≡ 0). omega (arith, e)) word;
      entries = λ open_now nth few. absurd (omega (arith, open_now, state, idle));
      high = let old = ruled.high in omega (arith, high, old);
      value = λ row below some. same (value_at row) (inr (inr (omega (arith, lt)))) ∙ ruled.value row below some;
    }
  where
    by-fixed : (w : ℕ) → IsFixed object w → IsBesideObject object w
    by-fixed w (inl first) = inl (omega (arith, first))
    by-fixed w (inr (inl segments)) = inr (inl segments)
    by-fixed w (inr (inr (inl (inl below)))) = let end = below.1 in inl (omega (arith, end))
    by-fixed w (inr (inr (inl (inr above)))) = inr (inr above.0)
    by-fixed w (inr (inr (inr last))) = inr (inr (omega (arith, last, lt)))
