-- The images on which the tests grow an array: their rules hold, and a growth may be planned.
use Rattle.std.proofs.Common.{◌≡◌, ◌≢◌, inl, ℕ, zero, suc, ◌+◌, ◌-◌, ◌*◌, ◌/◌, ◌%◌, ◌<◌, ◌≤◌, Bool, true, false, ◌||◌, cond, eqb, ltb, List, length, take, get_or, set, refl, sym, ◌∙◌, ap, subst, arith}
use Rattle.std.specs.Prelude.{Contains}
use Rattle.std.proofs.lemmas.List.{get_or-set_same, get_or-set_other, length-set}
use Rattle.std.proofs.lemmas.Bool.{cond-false, ne_eqb, or_from, le-ltb}
use Rattle.pm_model.specs.declared.action.Action.{Action}
use Rattle.image_layout.specs.Fixed.{descriptor_at}
use Rattle.image_layout.specs.Places.{page_at, place_in, is_null_or_pointer_to}
use Rattle.image_layout.specs.Fresh.{fresh_word, fresh_words}
use Rattle.pm_model.specs.Device.{Device, IsClean, IsWhole}
use Rattle.pm_model.specs.Plans.{Part, IsPlan, MayPlay, at_rest, run}
use Rattle.image_layout.specs.Blocks.{descriptor_of, says_big, inside_after, inside_at, is_inside, big_block, live_blocks}
use Rattle.image_layout.specs.Checks.{Keeps}
use Rattle.image_layout.proofs.Heap.{big_live}
use Rattle.pm_model.proofs.Alone.{may_play-plan}
use Rattle.pm_model.proofs.Cuts.{length-finished}
use Rattle.image_layout.proofs.FreshImage.{length-fresh_words, get_or-fresh_words}
use Rattle.heap_palloc.specs.Index.{HeapIndex, IsIndexOf}
use Rattle.heap_palloc.specs.Law.{IsHeapPage}
use Rattle.heap_palloc.specs.Calls.{KeepsHeapRules}
use Rattle.heap_palloc.proofs.BigBlocks.{HeadsRun}
use Rattle.heap_palloc.proofs.LiveBlocks.{SameHeap}
use Rattle.heap_palloc.proofs.RulesKept.{heads_rules, fresh_rules}
use Rattle.heap_palloc.proofs.Settled.{whole_may, whole_played}
use Rattle.heap_palloc.proofs.SameHeaps.{rules_same}
use Rattle.image_layout.specs.Arrays.{chunk_words, chunk_count, chunk_pointer_at, is_chunk_pointer, array_rule}
use Rattle.seg_array.specs.Growth.{next_pointer_at, growth_parts}
use Rattle.seg_array.specs.Calls.{MayPlanGrowth, IsGrowthPlanned}
use Rattle.heap_tests.specs.ArrayImages.{test_image, owned_image, IsReady}
use Rattle.seg_array.proofs.Headers.{array_from, no_chunks, null_pointer}
use Rattle.seg_array.proofs.Whole.{growth_plan}
use Rattle.seg_array.proofs.Again.{points_at, growth_again}

-- ── single words of any image ──

-- a word that is no descriptor and not the first of a page says nothing of the heap
set_plain : (words : List ℕ) (w value : ℕ) → 64 ≤ w % 32768 → w % 512 ≢ 0 → SameHeap words (set words w value)
set_plain words w value low apart = record {
  size = length-set words w value;
  pages = λ page. record {
    descriptor = get_or-set_other words w (descriptor_at page) value 0 (λ e. omega (arith, e, low));
    bitmap = λ small. get_or-set_other words w (page_at page) value 0 (λ e. apart (omega (arith, e)));
  };
}

-- a page of the first segment isn't inside a big block, where those before it have no big one of two pages or more
not_inside : (words : List ℕ) (page : ℕ) → page < 64 → ((k : ℕ) → k < page → get_or words k 0 ≤ 17) → is_inside words page ≡ false
unfolding is_inside
not_inside words page lt few =
    let segment : page / 64 ≡ 0 = omega (arith, lt) in
    let offset : page % 64 ≡ page = omega (arith, lt) in
    ap (λ (s : ℕ). ltb 0 (inside_at words s (page % 64))) segment ∙ ap (λ (n : ℕ). ltb 0 (inside_at words 0 n)) offset ∙ ap (λ (n : ℕ). ltb 0 n) (none page few)
  where
    none : (n : ℕ) → ((k : ℕ) → k < n → get_or words k 0 ≤ 17) → inside_at words 0 n ≡ 0
    none zero low = refl
    none (suc n) low =
        let at : n ≡ 0 * 32768 + n = omega arith in
        let word = ap (λ (w : ℕ). get_or words w 0) at in
        let most = low n (omega arith) in
        let zero_behind : get_or words (0 * 32768 + n) 0 - 17 ≡ 0 = omega (arith, word, most) in
        ap (λ (i : ℕ). inside_after i (get_or words (0 * 32768 + n) 0)) (none n (λ k lt. low k (omega (arith, lt)))) ∙ zero_behind

-- a free page becomes a big block
module _ (words : List ℕ) (page : ℕ) (is : IsHeapPage words page) (outside : is_inside words page ≡ false) (free : descriptor_of words page ≤ 1) where
  head_set : HeadsRun words (set words (descriptor_at page) 17) page 1
  head_set =
      let within = is.in_image in
      let header = is.behind_header in
      record {
        size = length-set words (descriptor_at page) 17;
        in_image = omega (arith, within);
        in_segment = omega arith;
        some = omega arith;
        most = omega arith;
        not_inside = outside;
        are_free = λ k lt. let here : page ≡ page + k = omega (arith, lt) in subst (λ (p : ℕ). descriptor_of words p ≤ 1) here free;
        head = get_or-set_same words (descriptor_at page) 17 0 (omega (arith, within));
        others = λ other apart. get_or-set_other words (descriptor_at page) (descriptor_at other) 17 0 (λ e. apart (omega (arith, e)));
        bitmaps = λ other x y. get_or-set_other words (descriptor_at page) (page_at other) 17 0 (λ e. omega (arith, e, header));
      }

  head_rules : KeepsHeapRules words → KeepsHeapRules (set words (descriptor_at page) 17)
  head_rules rules = heads_rules words (set words (descriptor_at page) 17) page 1 head_set is rules

-- ── an array without chunks ──

module _ (segments : ℕ) (some : 1 ≤ segments) where
  pub image_size : length (test_image segments) ≡ 32768 * segments
  image_size = length-set (set (fresh_words segments) 4 17) 2600 9 ∙ length-set (fresh_words segments) 4 17 ∙ length-fresh_words segments

  word : (w : ℕ) → w < 2600 → w ≢ 4 → get_or (test_image segments) w 0 ≡ fresh_word w
  word w lt apart = get_or-set_other (set (fresh_words segments) 4 17) 2600 w 9 0 (λ e. omega (arith, e, lt)) ∙ get_or-set_other (fresh_words segments) 4 w 17 0 apart ∙ get_or-fresh_words segments w (omega (arith, lt, some))

  pub image_head : get_or (test_image segments) 4 0 ≡ 17
  image_head = get_or-set_other (set (fresh_words segments) 4 17) 2600 4 9 0 (omega arith) ∙ get_or-set_same (fresh_words segments) 4 17 0 (omega (arith, length-fresh_words segments, some))

  -- a word behind the reserved descriptors, and neither magic nor version
  pub image_zero : (w : ℕ) → w < 2600 → 5 ≤ w → w ≢ 512 → w ≢ 513 → get_or (test_image segments) w 0 ≡ 0
  image_zero w lt from magic version =
      word w lt (λ e. omega (arith, e, from))
      ∙ cond-false (eqb (w % 32768) 0 || ltb w 4) _ _ (or_from (eqb (w % 32768) 0) (ltb w 4) (ne_eqb (w % 32768) 0 (λ e. omega (arith, e, lt, from))) (le-ltb w 4 (omega (arith, from))))
      ∙ cond-false (eqb w 512) _ _ (ne_eqb w 512 magic) ∙ cond-false (eqb w 513) _ _ (ne_eqb w 513 version)

  -- page 4 and page 5 aren't inside big blocks
  pub image_low : (k : ℕ) → k < 5 → get_or (test_image segments) k 0 ≤ 17
  image_low zero lt = let is = word 0 (omega arith) (omega arith) in omega (arith, is)
  image_low (suc zero) lt = let is = word 1 (omega arith) (omega arith) in omega (arith, is)
  image_low (suc (suc zero)) lt = let is = word 2 (omega arith) (omega arith) in omega (arith, is)
  image_low (suc (suc (suc zero))) lt = let is = word 3 (omega arith) (omega arith) in omega (arith, is)
  image_low (suc (suc (suc (suc zero)))) lt = omega (arith, image_head)
  image_low (suc (suc (suc (suc (suc k))))) lt = absurd (omega (arith, lt))

  fresh_low : (k : ℕ) → k < 4 → get_or (fresh_words segments) k 0 ≤ 17
  fresh_low k lt =
      let same : get_or (test_image segments) k 0 ≡ get_or (fresh_words segments) k 0 = get_or-set_other (set (fresh_words segments) 4 17) 2600 k 9 0 (λ e. omega (arith, e, lt)) ∙ get_or-set_other (fresh_words segments) 4 k 17 0 (λ e. omega (arith, e, lt)) in
      let low = image_low k (omega (arith, lt)) in
      omega (arith, same, low)

  free_page : IsHeapPage (fresh_words segments) 4
  free_page = record { in_image = omega (arith, length-fresh_words segments, some); behind_header = omega arith; behind_fixed = omega arith }

  pub image_rules : KeepsHeapRules (test_image segments)
  image_rules =
      let free = get_or-fresh_words segments 4 (omega (arith, some)) in
      rules_same (set (fresh_words segments) 4 17) (test_image segments) (set_plain (set (fresh_words segments) 4 17) 2600 9 (omega arith) (omega arith))
      (head_rules (fresh_words segments) 4 free_page (not_inside (fresh_words segments) 4 (omega arith) (λ k lt. fresh_low k (omega (arith, lt)))) (omega (arith, free)) (fresh_rules segments))

  pub image_header : Contains (live_blocks (test_image segments)) (big_block (test_image segments) 4)
  image_header = big_live (test_image segments) 4 (omega (arith, image_size, some)) (not_inside (test_image segments) 4 (omega arith) (λ k lt. image_low k (omega (arith, lt)))) (ap says_big image_head)

  array_zero : (k : ℕ) → k < 13 → get_or (test_image segments) (2064 + k) 0 ≡ 0
  array_zero k lt = image_zero (2064 + k) (omega (arith, lt)) (omega arith) (λ e. omega (arith, e)) (λ e. omega (arith, e))

  pub image_may_grow : (index : HeapIndex) → IsIndexOf (test_image segments) index → MayPlanGrowth (test_image segments) index 0 2064
  image_may_grow index is = record {
    rules = image_rules;
    index_of = is;
    rule = no_chunks (test_image segments) 2064 array_zero;
    lane_is = omega arith;
    idle = image_zero 576 (omega arith) (omega arith) (omega arith) (omega arith);
    header_is = record { block = big_block (test_image segments) 4; live = image_header; begins = omega arith; ends = omega (arith, image_head) };
    owned = λ lt owns. absurd (owns (ap (λ (n : ℕ). get_or (test_image segments) (chunk_pointer_at 2064 n) 0) (array_zero 0 (omega arith)) ∙ array_zero 1 (omega arith)));
  }

  pub image_ready : (d : Device) (words : List ℕ) (index : HeapIndex) → d ≡ at_rest words → words ≡ test_image segments → IsIndexOf d.cached index → IsReady d index
  image_ready d words index rests is index_of =
      let cached : d.cached ≡ test_image segments = ap (λ (x : Device). x.cached) rests ∙ is in
      record {
        may = subst (λ (xs : List ℕ). MayPlanGrowth xs index 0 2064) (sym cached) (image_may_grow index (subst (λ (xs : List ℕ). IsIndexOf xs index) cached index_of));
        room = let size = ap (length {A = ℕ}) cached in omega (arith, size, image_size, some);
        clean = λ w. subst (λ (x : Device). IsClean x w) (sym rests) refl;
      }

-- ── a chunk that the array owns ──

-- page 5 as a block, then the two words of the lane
abbrev headed : List ℕ
headed = set (test_image 1) 5 17

abbrev destined : List ℕ
destined = set headed 577 4294969361

abbrev laned : List ℕ
laned = set destined 578 4294969856

owned_size : length owned_image ≡ 32768
owned_size =
    length-set laned 2065 4294969856 ∙ length-set destined 578 4294969856
    ∙ length-set headed 577 4294969361 ∙ length-set (test_image 1) 5 17 ∙ image_size 1 (omega arith)

owned_word : (w : ℕ) → w ≢ 5 → w ≢ 577 → w ≢ 578 → w ≢ 2065 → get_or owned_image w 0 ≡ get_or (test_image 1) w 0
owned_word w a b c d =
    get_or-set_other laned 2065 w 4294969856 0 d ∙ get_or-set_other destined 578 w 4294969856 0 c
    ∙ get_or-set_other headed 577 w 4294969361 0 b ∙ get_or-set_other (test_image 1) 5 w 17 0 a

owned_zero : (w : ℕ) → w < 2600 → 514 ≤ w → w ≢ 577 → w ≢ 578 → w ≢ 2065 → get_or owned_image w 0 ≡ 0
owned_zero w lt from b c d = owned_word w (λ e. omega (arith, e, from)) b c d ∙ image_zero 1 (omega arith) w lt (omega (arith, from)) (λ e. omega (arith, e, from)) (λ e. omega (arith, e, from))

owned_head : get_or owned_image 5 0 ≡ 17
owned_head =
    get_or-set_other laned 2065 5 4294969856 0 (omega arith) ∙ get_or-set_other destined 578 5 4294969856 0 (omega arith)
    ∙ get_or-set_other headed 577 5 4294969361 0 (omega arith) ∙ get_or-set_same (test_image 1) 5 17 0 (omega (arith, image_size 1 (omega arith)))

owned_pointer : get_or owned_image 2065 0 ≡ 4294969856
owned_pointer =
    let size = length-set laned 2065 4294969856 in
    get_or-set_same laned 2065 4294969856 0 (omega (arith, size, owned_size))

owned_low : (k : ℕ) → k < 5 → get_or owned_image k 0 ≤ 17
owned_low k lt =
    let same = owned_word k (λ e. omega (arith, e, lt)) (λ e. omega (arith, e, lt)) (λ e. omega (arith, e, lt)) (λ e. omega (arith, e, lt)) in
    let low = image_low 1 (omega arith) k lt in
    omega (arith, same, low)

owned_header_page : get_or owned_image 4 0 ≡ 17
owned_header_page = owned_word 4 (omega arith) (omega arith) (omega arith) (omega arith) ∙ image_head 1 (omega arith)

owned_rules : KeepsHeapRules owned_image
owned_rules =
    let free = image_zero 1 (omega arith) 5 (omega arith) (omega arith) (omega arith) (omega arith) in
    rules_same laned owned_image (set_plain laned 2065 4294969856 (omega arith) (omega arith))
    (rules_same destined laned (set_plain destined 578 4294969856 (omega arith) (omega arith))
    (rules_same headed destined (set_plain headed 577 4294969361 (omega arith) (omega arith))
    (head_rules (test_image 1) 5 (record { in_image = omega (arith, image_size 1 (omega arith)); behind_header = omega arith; behind_fixed = omega arith })
    (not_inside (test_image 1) 5 (omega arith) (λ k lt. image_low 1 (omega arith) k lt)) (omega (arith, free)) (image_rules 1 (omega arith)))))

owned_count : chunk_count owned_image 2064 ≡ 0
owned_count = owned_zero 2064 (omega arith) (omega arith) (omega arith) (omega arith) (omega arith)

owned_next : get_or owned_image (next_pointer_at owned_image 2064) 0 ≡ 4294969856
owned_next = ap (λ (n : ℕ). get_or owned_image (chunk_pointer_at 2064 n) 0) owned_count ∙ owned_pointer

owned_chunk : (chunk : ℕ) → chunk < 12 → is_chunk_pointer owned_image (chunk_count owned_image 2064) chunk (get_or owned_image (chunk_pointer_at 2064 chunk) 0) ≡ true
owned_chunk zero lt =
    ap (λ (p : ℕ). is_chunk_pointer owned_image (chunk_count owned_image 2064) 0 p) owned_pointer ∙ ap (λ (n : ℕ). is_chunk_pointer owned_image n 0 4294969856) owned_count
    ∙ points_at 2560 512 (length owned_image) (omega (arith, owned_size)) (omega arith)
owned_chunk (suc k) lt =
    let null = owned_zero (chunk_pointer_at 2064 (suc k)) (omega (arith, lt)) (omega arith) (λ e. omega (arith, e)) (λ e. omega (arith, e)) (λ e. omega (arith, e)) in
    ap (λ (p : ℕ). is_chunk_pointer owned_image (chunk_count owned_image 2064) (suc k) p) null ∙ ap (λ (n : ℕ). is_chunk_pointer owned_image n (suc k) 0) owned_count
    ∙ null_pointer owned_image (suc k)

owned_next_live : Contains (live_blocks owned_image) (record { first = place_in (get_or owned_image (next_pointer_at owned_image 2064) 0); words = chunk_words (chunk_count owned_image 2064) })
owned_next_live =
    subst (λ (p : ℕ). Contains (live_blocks owned_image) (record { first = place_in p; words = chunk_words (chunk_count owned_image 2064) })) (sym owned_next)
    (subst (λ (n : ℕ). Contains (live_blocks owned_image) (record { first = 2560; words = chunk_words n })) (sym owned_count)
    (subst (λ (d : ℕ). Contains (live_blocks owned_image) (record { first = 2560; words = 512 * (d - 16) })) owned_head
    (big_live owned_image 5 (omega (arith, owned_size)) (not_inside owned_image 5 (omega arith) (λ k lt. owned_low k lt)) (ap says_big owned_head))))

pub owned_may_grow : (words : List ℕ) (index : HeapIndex) → words ≡ owned_image → IsIndexOf words index → MayPlanGrowth words index 0 2064
owned_may_grow words index same is = subst (λ (xs : List ℕ). MayPlanGrowth xs index 0 2064) (sym same) (record {
  rules = owned_rules;
  index_of = subst (λ (xs : List ℕ). IsIndexOf xs index) same is;
  rule = array_from owned_image 2064 (omega (arith, owned_count)) owned_chunk;
  lane_is = omega arith;
  idle = owned_zero 576 (omega arith) (omega arith) (omega arith) (omega arith) (omega arith);
  header_is = record {
    block = big_block owned_image 4;
    live = big_live owned_image 4 (omega (arith, owned_size)) (not_inside owned_image 4 (omega arith) (λ k lt. owned_low k (omega (arith, lt)))) (ap says_big owned_header_page);
    begins = omega arith;
    ends = omega (arith, owned_header_page);
  };
  owned = λ lt some. record {
    live = owned_next_live;
    apart = inl (subst (λ (p : ℕ). 2064 + 16 ≤ place_in p) (sym owned_next) (omega arith));
  };
})

-- ── played ──

-- a growth that was planned may be played on words that are clean
pub planned_plays : (words : List ℕ) (old new : HeapIndex) (lane header session : ℕ) (plan : List Action) → IsGrowthPlanned words old new lane header plan → MayPlay session plan (at_rest words)
planned_plays words old new lane header session plan planned =
    subst (λ (left : List Action). MayPlay session left (at_rest words)) (sym planned.plan_is)
    (may_play-plan session _ words (at_rest words) (growth_plan words (record { lane = lane; header = header; first = planned.first }) planned.may) (record { cached = refl; durable = refl; flushed = λ w. refl }))

-- ready for a growth, all of it may be played, and then the next one may be planned
module _ (d : Device) (whole : IsWhole d) (old new : HeapIndex) (plan : List Action) (ready : IsReady d old) (planned : IsGrowthPlanned d.cached old new 0 2064 plan) where
  abbrev parts : List Part
  parts = growth_parts d.cached (record { lane = 0; header = 2064; first = planned.first })

  is_plan : IsPlan (length d.cached) parts
  is_plan = growth_plan d.cached (record { lane = 0; header = 2064; first = planned.first }) planned.may

  pub ready_plays : MayPlay 1 plan d
  ready_plays = whole_may 1 parts d whole ready.clean is_plan plan planned.plan_is

  pub ready_again : (count : ℕ) (e : Device) → count ≡ length plan → e ≡ run 1 (take count plan) d → IsReady e new
  ready_again count e counted runs =
      let played = whole_played 1 parts d whole ready.clean is_plan plan count e planned.plan_is counted runs in
      let size = ap (length {A = ℕ}) played.0 in
      let same = length-finished parts d.cached in
      let some = ready.room in
      record {
        may = subst (λ (words : List ℕ). MayPlanGrowth words new 0 2064) (sym played.0) (growth_again d.cached old new 0 2064 plan ready.may planned);
        room = omega (arith, size, same, some);
        clean = played.1;
      }
