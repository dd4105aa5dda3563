-- Once a growth was played, the rules of the heap and of the array hold again, and the next one may be planned.
use Rattle.std.proofs.Common.{◌≡◌, ◌≢◌, ⊎_elim, ℕ, ◌+◌, ◌%◌, ◌<◌, ◌≤◌, min, Bool, true, false, ◌&&◌, eqb, ltb, leb, cond, List, length, get_or, refl, sym, ◌∙◌, ap, subst, arith}
use Rattle.std.specs.Prelude.{Contains}
use Rattle.std.proofs.lemmas.Nat.{pow_pos}
use Rattle.std.proofs.lemmas.Bool.{cases_eq, cases_lt, cond-true, cond-false, lt-ltb, le-ltb, le-leb, eq-eqb, and_from}
use Rattle.pm_model.specs.declared.action.Action.{Action}
use Rattle.image_layout.specs.Fixed.{lane_op_at}
use Rattle.image_layout.specs.Pointer.{pointer_word}
use Rattle.image_layout.specs.Places.{page_at, place_in, is_pointer_to, is_null_or_pointer_to}
use Rattle.pm_model.specs.Plans.{finished}
use Rattle.image_layout.specs.Blocks.{Block, live_blocks}
use Rattle.image_layout.specs.Checks.{Keeps}
use Rattle.heap_palloc.specs.Index.{HeapIndex}
use Rattle.heap_palloc.specs.Choice.{in_run}
use Rattle.heap_palloc.specs.Calls.{KeepsHeapRules}
use Rattle.heap_palloc.proofs.RulesKept.{choice_rules}
use Rattle.heap_palloc.proofs.Stages.{place_in-pointer}
use Rattle.heap_palloc.proofs.SameHeaps.{rules_same}
use Rattle.heap_palloc.proofs.Owners.{more_live}
use Rattle.image_layout.specs.Arrays.{chunk_pages, chunk_words, chunk_count, chunk_pointer_at, is_chunk_pointer, array_rule}
use Rattle.seg_array.specs.Growth.{Growth, next_pointer_at, next_chunk, chunk_block, growth_parts, MayGrow}
use Rattle.seg_array.specs.Calls.{MayPlanGrowth, IsGrowthPlanned}
use Rattle.seg_array.proofs.Headers.{pointer_rule, behind_null, array_from, points_same}
use Rattle.seg_array.proofs.Growing.{header_elsewhere, header_outside, in_image, in_segment, ends_count, ends_idle, ends_heap}
use Rattle.seg_array.proofs.Whole.{taken, taken_at, owned_at, growth_ended, growth_allocates, growth_owned}

-- the pointer of a place of the image points to words of its segment
pub points_at : (place words size : ℕ) → place < size → place % 32768 + words ≤ 32768
    → ((eqb (pointer_word place) (pointer_word (place_in (pointer_word place))) && ltb (place_in (pointer_word place)) size) && leb (place_in (pointer_word place) % 32768 + words) 32768) ≡ true
points_at place words size lt within =
    let same = place_in-pointer place in
    and_from (eqb (pointer_word place) (pointer_word (place_in (pointer_word place))) && ltb (place_in (pointer_word place)) size) (leb (place_in (pointer_word place) % 32768 + words) 32768)
    (and_from (eqb (pointer_word place) (pointer_word (place_in (pointer_word place)))) (ltb (place_in (pointer_word place)) size)
    (eq-eqb (pointer_word place) (pointer_word (place_in (pointer_word place))) (ap pointer_word (sym same)))
    (lt-ltb (place_in (pointer_word place)) size (omega (arith, same, lt))))
    (le-leb (place_in (pointer_word place) % 32768 + words) 32768 (subst (λ (p : ℕ). p % 32768 + words ≤ 32768) (sym same) within))

module _ (base : List ℕ) (g : Growth) (may : MayGrow base g) where
  abbrev after : List ℕ
  after = finished (growth_parts base g) base

  pub growth_rules : KeepsHeapRules base → KeepsHeapRules (finished (growth_parts base g) base)
  growth_rules rules = ⊎_elim
      (λ run. rules_same (taken base g may run) (finished (growth_parts base g) base) (ends_heap base g may (taken base g may run) (taken_at base g may run)) (choice_rules base (in_run (next_chunk base g)) rules run))
      (λ owns. rules_same base (finished (growth_parts base g) base) (ends_heap base g may base (owned_at base g may owns)) rules)
      may.chunk

  after_count : get_or (finished (growth_parts base g) base) g.header 0 ≡ chunk_count base g.header + 1
  after_count = ⊎_elim (λ run. ends_count base g may (taken base g may run) (taken_at base g may run)) (λ owns. ends_count base g may base (owned_at base g may owns)) may.chunk

  pub after_idle : get_or (finished (growth_parts base g) base) (lane_op_at g.lane) 0 ≡ 0
  after_idle = ⊎_elim (λ run. ends_idle base g may (taken base g may run) (taken_at base g may run)) (λ owns. ends_idle base g may base (owned_at base g may owns)) may.chunk

  -- the pointers but the chunk's own are as they were
  after_pointer : (chunk : ℕ) → chunk < 12 → chunk ≢ chunk_count base g.header → get_or (finished (growth_parts base g) base) (chunk_pointer_at g.header chunk) 0 ≡ get_or base (chunk_pointer_at g.header chunk) 0
  after_pointer chunk lt apart =
      let at : g.header + 1 + chunk ≡ g.header + (chunk + 1) = omega arith in
      (growth_ended base g may).0.keeps.others (g.header + 1 + chunk)
      (header_elsewhere base g may (g.header + 1 + chunk) (chunk + 1) at (omega (arith, lt)) (λ e. apart (omega (arith, e))))
      (λ e. omega (arith, e))
      (header_outside base g may (g.header + 1 + chunk) (chunk + 1) at (omega (arith, lt)))

  after_null : Keeps base (array_rule g.header) → (chunk : ℕ) → chunk < 12 → chunk_count base g.header < chunk → get_or (finished (growth_parts base g) base) (chunk_pointer_at g.header chunk) 0 ≡ 0
  after_null keeps chunk lt behind = after_pointer chunk lt (λ e. omega (arith, e, behind)) ∙ behind_null base g.header keeps chunk lt behind

  -- ── the array's rule ──

  size : length (finished (growth_parts base g) base) ≡ length base
  size = (growth_ended base g may).0.keeps.size

  chunk_named : is_pointer_to base (chunk_words (chunk_count base g.header)) (pointer_word (page_at g.first)) ≡ true
  chunk_named =
      let some : 0 < chunk_pages (chunk_count base g.header) = pow_pos (min (chunk_count base g.header) 5) in
      points_at (page_at g.first) (chunk_words (chunk_count base g.header)) (length base) (omega (arith, in_image base g may, some)) (omega (arith, in_segment base g may))

  after_published : Keeps base (array_rule g.header) → (chunk : ℕ) → chunk < 12 → chunk < chunk_count base g.header
      → is_pointer_to (finished (growth_parts base g) base) (chunk_words chunk) (get_or (finished (growth_parts base g) base) (chunk_pointer_at g.header chunk) 0) ≡ true
  after_published keeps chunk lt below =
      ap (is_pointer_to (finished (growth_parts base g) base) (chunk_words chunk)) (after_pointer chunk lt (λ e. omega (arith, e, below)))
      ∙ points_same base (finished (growth_parts base g) base) size (chunk_words chunk) (get_or base (chunk_pointer_at g.header chunk) 0)
      ∙ sym (cond-true (ltb chunk (chunk_count base g.header)) _ _ (lt-ltb chunk (chunk_count base g.header) below)) ∙ pointer_rule base g.header keeps chunk lt

  after_gained : (chunk : ℕ) → chunk ≡ chunk_count base g.header
      → is_pointer_to (finished (growth_parts base g) base) (chunk_words chunk) (get_or (finished (growth_parts base g) base) (chunk_pointer_at g.header chunk) 0) ≡ true
  after_gained chunk is =
      let P : ℕ → Type 0 = λ k. is_pointer_to (finished (growth_parts base g) base) (chunk_words k) (get_or (finished (growth_parts base g) base) (chunk_pointer_at g.header k) 0) ≡ true in
      subst P (sym is)
      (ap (is_pointer_to (finished (growth_parts base g) base) (chunk_words (chunk_count base g.header))) (growth_ended base g may).0.chunk.named
      ∙ points_same base (finished (growth_parts base g) base) size (chunk_words (chunk_count base g.header)) (pointer_word (page_at g.first)) ∙ chunk_named)

  after_chunk : Keeps base (array_rule g.header) → (chunk : ℕ) → chunk < 12
      → is_chunk_pointer (finished (growth_parts base g) base) (chunk_count base g.header + 1) chunk (get_or (finished (growth_parts base g) base) (chunk_pointer_at g.header chunk) 0) ≡ true
  after_chunk keeps chunk lt = ⊎_elim
      (λ within. cond-true (ltb chunk (chunk_count base g.header + 1)) _ _ (lt-ltb chunk (chunk_count base g.header + 1) within)
      ∙ ⊎_elim (λ below. after_published keeps chunk lt below) (λ from. after_gained chunk (omega (arith, within, from))) (cases_lt chunk (chunk_count base g.header)))
      (λ behind. ap (is_chunk_pointer (finished (growth_parts base g) base) (chunk_count base g.header + 1) chunk) (after_null keeps chunk lt (omega (arith, behind)))
      ∙ cond-false (ltb chunk (chunk_count base g.header + 1)) _ _ (le-ltb chunk (chunk_count base g.header + 1) behind) ∙ either (eqb chunk (chunk_count base g.header + 1)))
      (cases_lt chunk (chunk_count base g.header + 1))
    where
      either : (b : Bool) → cond b (is_null_or_pointer_to (finished (growth_parts base g) base) (chunk_words chunk) 0) (eqb 0 0) ≡ true
      either true = refl
      either false = refl

  pub growth_array : Keeps base (array_rule g.header) → Keeps (finished (growth_parts base g) base) (array_rule g.header)
  growth_array keeps = array_from (finished (growth_parts base g) base) g.header (omega (arith, after_count, may.count))
      (λ chunk lt. ap (λ (n : ℕ). is_chunk_pointer (finished (growth_parts base g) base) n chunk (get_or (finished (growth_parts base g) base) (chunk_pointer_at g.header chunk) 0)) after_count ∙ after_chunk keeps chunk lt)

  -- ── the next growth ──

  pub growth_live : (block : Block) → Contains (live_blocks base) block → Contains (live_blocks (finished (growth_parts base g) base)) block
  growth_live block is = ⊎_elim
      (λ none. more_live (live_blocks base) (live_blocks (finished (growth_parts base g) base)) (chunk_block (next_chunk base g)) block (growth_allocates base g may none) is)
      (λ some. subst (λ (xs : List Block). Contains xs block) (sym (growth_owned base g may some)) is)
      (cases_eq (get_or base (next_pointer_at base g.header) 0) 0)

  -- the array owns no chunk behind the new one
  pub growth_unowned : Keeps base (array_rule g.header) → chunk_count (finished (growth_parts base g) base) g.header < 12
      → get_or (finished (growth_parts base g) base) (next_pointer_at (finished (growth_parts base g) base) g.header) 0 ≡ 0
  growth_unowned keeps lt =
      ap (λ (n : ℕ). get_or (finished (growth_parts base g) base) (chunk_pointer_at g.header n) 0) after_count
      ∙ after_null keeps (chunk_count base g.header + 1) (omega (arith, after_count, lt)) (omega arith)

pub growth_again : (base : List ℕ) (old new : HeapIndex) (lane header : ℕ) (plan : List Action) → MayPlanGrowth base old lane header → (planned : IsGrowthPlanned base old new lane header plan)
    → MayPlanGrowth (finished (growth_parts base (record { lane = lane; header = header; first = planned.first })) base) new lane header
growth_again base old new lane header plan may planned =
    let g : Growth = record { lane = lane; header = header; first = planned.first } in
    record {
      rules = growth_rules base g planned.may may.rules;
      index_of = planned.index_of;
      rule = growth_array base g planned.may may.rule;
      lane_is = may.lane_is;
      idle = after_idle base g planned.may;
      header_is = record { block = may.header_is.block; live = growth_live base g planned.may may.header_is.block may.header_is.live; begins = may.header_is.begins; ends = may.header_is.ends };
      owned = λ lt some. absurd (some (growth_unowned base g planned.may may.rule lt));
    }
