-- A growth holds what its change says.
use Rattle.std.proofs.Common.{◌≡◌, ℕ, ◌<◌, List, arith}
use Rattle.image_layout.specs.Arrays.{array_rule, capacity, place_of}
use Rattle.image_layout.specs.Checks.{Keeps}
use Rattle.pm_model.specs.Changes.{HoldsOnWords}
use Rattle.heap_palloc.specs.Index.{HeapIndex, IsIndexOf}
use Rattle.seg_array.specs.Calls.{IsTableArray, MayPlanGrowth}
use Rattle.seg_array.specs.Changes.{growth, EndsGrowth}
use Rattle.seg_array.specs.Growth.{Growth, grown_words, MayGrow}
use Rattle.seg_array.specs.Shown.{HasSameHeader}
use Rattle.seg_array.proofs.Again.{growth_rules, growth_array}
use Rattle.seg_array.proofs.Headers.{array_same, places_same}
use Rattle.seg_array.proofs.Owned.{may_grow}
use Rattle.seg_array.proofs.Rereading.{reads_may, reads_parts}
use Rattle.seg_array.proofs.Whole.{growth_plan, growth_cuts, growth_allocates, growth_owned, growth_ended}

growth_ends : (g : Growth) (base : List ℕ) → MayGrow base g → EndsGrowth g base (grown_words base g)
growth_ends g base may = record {
  grown = (growth_ended base g may).0;
  allocates = growth_allocates base g may;
  owned = growth_owned base g may;
  mended = (growth_ended base g may).1;
  rules = λ rules. growth_rules base g may rules;
  array = λ keeps. growth_array base g may keeps;
}

pub growth_holds : (g : Growth) → HoldsOnWords (growth g)
growth_holds g = record {
  plan = λ base may. growth_plan base g may;
  cuts = λ base may. growth_cuts base g may;
  end = λ base may. growth_ends g base may;
  stable = λ old new same may. (reads_may old new g same may, reads_parts old new g same);
}

-- ── what is read of an array ──

pub header_rule : (old new : List ℕ) (header : ℕ) → HasSameHeader old new header → Keeps old (array_rule header) → Keeps new (array_rule header)
header_rule old new header same keeps = array_same old new header same.size (λ k lt. same.each k (omega (arith, lt))) keeps

pub header_places : (old new : List ℕ) (header : ℕ) → HasSameHeader old new header → Keeps old (array_rule header)
    → (index : ℕ) → index < capacity old header → place_of new header index ≡ place_of old header index
header_places old new header same keeps index lt = places_same old new header same.size (λ k below. same.each k (omega (arith, below))) keeps index lt

pub table_may_grow : (words : List ℕ) (index : HeapIndex) (lane table header : ℕ) → IsTableArray words lane table header → IsIndexOf words index → MayPlanGrowth words index lane header
table_may_grow words index lane table header of index_of =
    may_grow words index lane table header of.rules of.owners of.published of.one_of index_of (let lt = of.lane_is in omega (arith, lt)) of.idle
