-- An allocation and a freeing hold what their changes say.
use Rattle.std.proofs.Common.{◌≡◌, ◌≢◌, ◌⊎◌, ℕ, ◌*◌, List, [], ◌∷◌, get_or}
use Rattle.image_layout.specs.Places.{page_at}
use Rattle.image_layout.specs.Pointer.{pointer_word}
use Rattle.image_layout.specs.Blocks.{Block, slot_words, live_blocks}
use Rattle.pm_model.specs.Changes.{HoldsOnWords}
use Rattle.pm_model.specs.Plans.{Part, EachCut, finished, words_after}
use Rattle.pm_model.proofs.Cuts.{each_cut-map, each_cut-end}
use Rattle.heap_small.specs.Bitmap.{with_bit}
use Rattle.heap_palloc.specs.Lane.{mended_lane}
use Rattle.heap_palloc.specs.Parts.{Allocation}
use Rattle.heap_palloc.specs.Law.{Shows, Allocates, Frees, slot_allocation, taking, taken, pages_allocation}
use Rattle.heap_palloc.specs.Calls.{KeepsHeapRules, OwnsBlock}
use Rattle.heap_palloc.specs.Choice.{Choice, in_page, on_new_page, in_run, choice_parts, choice_block, MayMake, Freed, of_slot, of_pages, freed_parts, MayRelease}
use Rattle.heap_palloc.specs.Changes.{allocating, freeing, choice_lane, freed_lane, IsUnmade, IsMade, IsHeld, IsLetGo, KeepsChoiceFirst, KeepsFreedFirst, choice_owner, IsBeside, IsOther, allocated_words, released_words, ShowsAllocation, EndsAllocation, ShowsRelease, EndsRelease}
use Rattle.heap_palloc.proofs.Stages.{mended-idle}
use Rattle.heap_palloc.proofs.Changes.{change_settles}
use Rattle.heap_palloc.proofs.FirstWords.{taken_first, freed_first}
use Rattle.heap_palloc.proofs.ChoiceStages.{IsStaged, choice_staged}
use Rattle.heap_palloc.proofs.FreedStages.{IsFreedStaged, freed_staged}
use Rattle.heap_palloc.proofs.Choices.{choice_plan, choice_allocates, freed_plan, freed_frees}
use Rattle.heap_palloc.proofs.RulesKept.{choice_rules, freed_rules}
use Rattle.heap_palloc.proofs.Owners.{allocation_gives, allocation_keeps, freeing_keeps}
use Rattle.heap_palloc.proofs.Rereading.{choice_stable, freed_stable}

-- ── an allocation ──

-- what holds at each cut of two facts holds of both
each_both : (P Q : List ℕ → Type 0) (parts : List Part) (words : List ℕ) → EachCut P parts words → EachCut Q parts words → EachCut (λ image. P image × Q image) parts words
each_both P Q [] words p q = (p, q)
each_both P Q (part ∷ parts) words p q = (λ image between. (p.0 image between, q.0 image between), each_both P Q parts (words_after part words) p.1 q.1)

-- what holds of all words holds at each cut
each_always : (P : List ℕ → Type 0) (parts : List Part) (words : List ℕ) → ((image : List ℕ) → P image) → EachCut P parts words
each_always P [] words always = always words
each_always P (part ∷ parts) words always = (λ image between. always image, each_always P parts (words_after part words) always)

-- where a premise gives something at each cut, each cut has it by the premise
each_given : (A : Type 0) (P : List ℕ → Type 0) (parts : List Part) (words : List ℕ) → (A → EachCut P parts words) → EachCut (λ image. A → P image) parts words
each_given A P [] words cuts = cuts
each_given A P (part ∷ parts) words cuts = (λ image between given. (cuts given).0 image between, each_given A P parts (words_after part words) (λ given. (cuts given).1))

choice_first : (choice : Choice) (base : List ℕ) → MayMake base choice → EachCut (KeepsChoiceFirst choice base) (choice_parts base choice) base
choice_first (in_page s) base may = each_always (KeepsChoiceFirst (in_page s) base) (choice_parts base (in_page s)) base (λ image. tt)
choice_first (on_new_page s) base may = each_always (KeepsChoiceFirst (on_new_page s) base) (choice_parts base (on_new_page s)) base (λ image. tt)
choice_first (in_run r) base may =
    each_given (page_at r.first ≢ r.owner) (λ image. get_or image (page_at r.first) 0 ≡ get_or base (page_at r.first) 0) (choice_parts base (in_run r)) base
    (λ apart. taken_first base r may.idle may.run apart)

-- once its lane is mended
abbrev IsMadeOrNot : List ℕ → Choice → List ℕ → Type 0
IsMadeOrNot base choice image = IsUnmade base choice (mended_lane (choice_lane choice) image) ⊎ IsMade base choice (mended_lane (choice_lane choice) image)

choice_mended : (choice : Choice) (base : List ℕ) → MayMake base choice → EachCut (IsMadeOrNot base choice) (choice_parts base choice) base
choice_mended (in_page s) base may = (choice_allocates base (in_page s) may).changes.cuts
choice_mended (on_new_page s) base may = (choice_allocates base (on_new_page s) may).changes.cuts
choice_mended (in_run r) base may = (choice_allocates base (in_run r) may).changes.cuts

choice_cuts : (choice : Choice) (base : List ℕ) → MayMake base choice → EachCut (ShowsAllocation choice base) (choice_parts base choice) base
choice_cuts choice base may =
    each_cut-map (λ image. IsStaged base choice image × (IsMadeOrNot base choice image × KeepsChoiceFirst choice base image)) (ShowsAllocation choice base) (choice_parts base choice) base
    (λ image all. record { stage = all.0.stage; rules = all.0.rules; given_back = all.0.given_back; first_word = all.1.1; mended = all.1.0 })
    (each_both (IsStaged base choice) (λ image. IsMadeOrNot base choice image × KeepsChoiceFirst choice base image) (choice_parts base choice) base (choice_staged base choice may)
    (each_both (IsMadeOrNot base choice) (KeepsChoiceFirst choice base) (choice_parts base choice) base (choice_mended choice base may) (choice_first choice base may)))

-- by its allocation, which each choice has
module _ (a : Allocation) (page pages size : ℕ) (parts : List Part) (base : List ℕ) (allocates : Allocates a page pages size parts base) where
  ended_mended : mended_lane a.lane (finished parts base) ≡ finished parts base
  ended_mended = mended-idle a.lane (finished parts base) allocates.changes.idle

  ended_made : Shows a.lane a.owner page pages base (live_blocks (finished parts base)) (pointer_word a.block) (finished parts base)
  ended_made = change_settles a.lane a.owner page pages base (live_blocks base) 0 (live_blocks (finished parts base)) (pointer_word a.block) parts base allocates.changes

choice_ends : (choice : Choice) (base : List ℕ) → MayMake base choice → EndsAllocation choice base (allocated_words base choice)
choice_ends (in_page s) base may =
    let allocates = choice_allocates base (in_page s) may in
    let parts = choice_parts base (in_page s) in
    record {
      made = ended_made (taking base s) s.page 1 (slot_words s.class) parts base allocates;
      gains = allocates.gains;
      first_word = each_cut-end (KeepsChoiceFirst (in_page s) base) parts base (choice_first (in_page s) base may);
      idle = allocates.changes.idle;
      mended = ended_mended (taking base s) s.page 1 (slot_words s.class) parts base allocates;
      rules = λ rules. choice_rules base (in_page s) rules may;
    }
choice_ends (on_new_page s) base may =
    let allocates = choice_allocates base (on_new_page s) may in
    let parts = choice_parts base (on_new_page s) in
    record {
      made = ended_made (slot_allocation s (with_bit 0 s.slot)) s.page 1 (slot_words s.class) parts base allocates;
      gains = allocates.gains;
      first_word = each_cut-end (KeepsChoiceFirst (on_new_page s) base) parts base (choice_first (on_new_page s) base may);
      idle = allocates.changes.idle;
      mended = ended_mended (slot_allocation s (with_bit 0 s.slot)) s.page 1 (slot_words s.class) parts base allocates;
      rules = λ rules. choice_rules base (on_new_page s) rules may;
    }
choice_ends (in_run r) base may =
    let allocates = choice_allocates base (in_run r) may in
    let parts = choice_parts base (in_run r) in
    record {
      made = ended_made (pages_allocation r) r.first r.pages (512 * r.pages) parts base allocates;
      gains = allocates.gains;
      first_word = each_cut-end (KeepsChoiceFirst (in_run r) base) parts base (choice_first (in_run r) base may);
      idle = allocates.changes.idle;
      mended = ended_mended (pages_allocation r) r.first r.pages (512 * r.pages) parts base allocates;
      rules = λ rules. choice_rules base (in_run r) rules may;
    }

pub allocation_holds : (choice : Choice) → HoldsOnWords (allocating choice)
allocation_holds choice = record {
  plan = λ base may. choice_plan base choice may;
  cuts = λ base may. choice_cuts choice base may;
  end = λ base may. choice_ends choice base may;
  stable = λ old new same may. choice_stable choice old new same may;
}

-- ── a freeing ──

abbrev IsHeldOrNot : List ℕ → Freed → List ℕ → Type 0
IsHeldOrNot base freed image = IsHeld base freed (mended_lane (freed_lane freed) image) ⊎ IsLetGo base freed (mended_lane (freed_lane freed) image)

freed_mended : (freed : Freed) (base : List ℕ) → MayRelease base freed → EachCut (IsHeldOrNot base freed) (freed_parts base freed) base
freed_mended (of_slot s) base may = (freed_frees base (of_slot s) may).changes.cuts
freed_mended (of_pages r) base may = (freed_frees base (of_pages r) may).changes.cuts

freed_first_word : (freed : Freed) (base : List ℕ) → MayRelease base freed → EachCut (KeepsFreedFirst freed base) (freed_parts base freed) base
freed_first_word (of_slot s) base may = each_always (KeepsFreedFirst (of_slot s) base) (freed_parts base (of_slot s)) base (λ image. tt)
freed_first_word (of_pages r) base may =
    each_given (page_at r.first ≢ r.owner) (λ image. get_or image (page_at r.first) 0 ≡ get_or base (page_at r.first) 0) (freed_parts base (of_pages r)) base
    (λ apart. freed_first base r may.idle may.run apart)

freed_cuts : (freed : Freed) (base : List ℕ) → MayRelease base freed → EachCut (ShowsRelease freed base) (freed_parts base freed) base
freed_cuts freed base may =
    each_cut-map (λ image. IsFreedStaged base freed image × (IsHeldOrNot base freed image × KeepsFreedFirst freed base image)) (ShowsRelease freed base) (freed_parts base freed) base
    (λ image all. record { stage = all.0.stage; rules = all.0.rules; given_back = all.0.given_back; first_word = all.1.1; mended = all.1.0 })
    (each_both (IsFreedStaged base freed) (λ image. IsHeldOrNot base freed image × KeepsFreedFirst freed base image) (freed_parts base freed) base (freed_staged base freed may)
    (each_both (IsHeldOrNot base freed) (KeepsFreedFirst freed base) (freed_parts base freed) base (freed_mended freed base may) (freed_first_word freed base may)))

module _ (a : Allocation) (page pages size : ℕ) (parts : List Part) (base : List ℕ) (frees : Frees a page pages size parts base) where
  ended_free : mended_lane a.lane (finished parts base) ≡ finished parts base
  ended_free = mended-idle a.lane (finished parts base) frees.changes.idle

  ended_let_go : Shows a.lane a.owner page pages base (live_blocks (finished parts base)) 0 (finished parts base)
  ended_let_go = change_settles a.lane a.owner page pages base (live_blocks base) (pointer_word a.block) (live_blocks (finished parts base)) 0 parts base frees.changes

freed_ends : (freed : Freed) (base : List ℕ) → MayRelease base freed → EndsRelease freed base (released_words base freed)
freed_ends (of_slot s) base may =
    let frees = freed_frees base (of_slot s) may in
    let parts = freed_parts base (of_slot s) in
    record {
      let_go = ended_let_go (taken base s) s.page 1 (slot_words s.class) parts base frees;
      loses = frees.loses;
      first_word = each_cut-end (KeepsFreedFirst (of_slot s) base) parts base (freed_first_word (of_slot s) base may);
      idle = frees.changes.idle;
      mended = ended_free (taken base s) s.page 1 (slot_words s.class) parts base frees;
      rules = λ rules. freed_rules base (of_slot s) rules may;
    }
freed_ends (of_pages r) base may =
    let frees = freed_frees base (of_pages r) may in
    let parts = freed_parts base (of_pages r) in
    record {
      let_go = ended_let_go (pages_allocation r) r.first r.pages (512 * r.pages) parts base frees;
      loses = frees.loses;
      first_word = each_cut-end (KeepsFreedFirst (of_pages r) base) parts base (freed_first_word (of_pages r) base may);
      idle = frees.changes.idle;
      mended = ended_free (pages_allocation r) r.first r.pages (512 * r.pages) parts base frees;
      rules = λ rules. freed_rules base (of_pages r) rules may;
    }

pub freeing_holds : (freed : Freed) → HoldsOnWords (freeing freed)
freeing_holds freed = record {
  plan = λ base may. freed_plan base freed may;
  cuts = λ base may. freed_cuts freed base may;
  end = λ base may. freed_ends freed base may;
  stable = λ old new same may. freed_stable freed old new same may;
}

-- ── which words own a block ──

pub choice_gives : (base : List ℕ) (choice : Choice) → MayMake base choice → OwnsBlock (allocated_words base choice) (choice_owner choice) (choice_block choice)
choice_gives base (in_page s) may = allocation_gives base (in_page s) may
choice_gives base (on_new_page s) may = allocation_gives base (on_new_page s) may
choice_gives base (in_run r) may = allocation_gives base (in_run r) may

pub choice_keeps : (base : List ℕ) (choice : Choice) (dest : ℕ) (block : Block) → KeepsHeapRules base → MayMake base choice → IsBeside choice dest
    → OwnsBlock base dest block → OwnsBlock (allocated_words base choice) dest block
choice_keeps base (in_page s) dest block rules may out owns = allocation_keeps base (in_page s) dest block rules may out owns
choice_keeps base (on_new_page s) dest block rules may out owns = allocation_keeps base (on_new_page s) dest block rules may out owns
choice_keeps base (in_run r) dest block rules may out owns = allocation_keeps base (in_run r) dest block rules may out owns

pub freed_keeps : (base : List ℕ) (freed : Freed) (dest : ℕ) (block : Block) → KeepsHeapRules base → MayRelease base freed → IsOther freed dest block
    → OwnsBlock base dest block → OwnsBlock (released_words base freed) dest block
freed_keeps base (of_slot s) dest block rules may other owns = freeing_keeps base (of_slot s) dest block rules may other.beside other.other owns
freed_keeps base (of_pages r) dest block rules may other owns = freeing_keeps base (of_pages r) dest block rules may other.beside other.other owns
