-- Opening plays one mending after the other, of each only the stores that are needed.
use Rattle.std.proofs.Common.{◌≡◌, ℕ, zero, suc, ◌+◌, ◌<◌, List, [], ◌∷◌, ◌++◌, length, map, sym, subst, arith}
use Rattle.std.specs.List.{range_with_len}
use Rattle.pm_model.specs.Plans.{Part, finished, IsPlan, EachCut}
use Rattle.pm_model.specs.Needed.{needed_parts, AllStores, Mending}
use Rattle.pm_model.proofs.Alone.{IsPlan-size}
use Rattle.pm_model.proofs.Cuts.{finished-append, length-finished, plan-append, each_cut-append}
use Rattle.pm_model.proofs.NeededStores.{needed-finished, needed-cuts, needed-plan}
use Rattle.engine_core.specs.Opening.{parts_of}

-- The mendings play a plan, each cut of which has P, and leave words that have R.
pub record Opens (P R : List ℕ → Type 0) (mendings : List Mending) (words : List ℕ) : Type 0 where
  pub plan : IsPlan (length words) (parts_of mendings words)
  pub cuts : EachCut P (parts_of mendings words) words
  pub end : R (finished (parts_of mendings words) words)

-- the same of the parts of one mending, needed or not
pub record IsStep (P R : List ℕ → Type 0) (parts : List Part) (words : List ℕ) : Type 0 where
  pub stores : AllStores (length words) parts
  pub cuts : EachCut P parts words
  pub end : R (finished parts words)

pub opens-none : (P R : List ℕ → Type 0) (words : List ℕ) → P words → R words → Opens P R [] words
opens-none P R words p r = record { plan = tt; cuts = p; end = r }

pub opens-next : (P Q R : List ℕ → Type 0) (mending : Mending) (later : List Mending) (words : List ℕ) → IsStep P Q (mending words) words
    → ((next : List ℕ) → Q next → Opens P R later next) → Opens P R (mending ∷ later) words
opens-next P Q R mending later words step go =
    let parts = needed_parts words (mending words) in
    let same = needed-finished (λ place value. place < length words) (mending words) words step.stores in
    let rest = go (finished parts words) (subst Q (sym same) step.end) in
    record {
      plan = plan-append (length words) parts (parts_of later (finished parts words)) (needed-plan (length words) (mending words) words step.stores)
          (IsPlan-size (length (finished parts words)) (length words) (parts_of later (finished parts words)) (length-finished parts words) rest.plan);
      cuts = each_cut-append P parts (parts_of later (finished parts words)) words (needed-cuts P (λ place value. place < length words) (mending words) words step.stores step.cuts) rest.cuts;
      end = subst R (sym (finished-append parts (parts_of later (finished parts words)) words)) rest.end;
    }

-- one round over the objects
pub opens-round : (P R : List ℕ → Type 0) (Q : ℕ → List ℕ → Type 0) (mending : ℕ → Mending) (later : List Mending)
    → ((object : ℕ) (words : List ℕ) → object < 16 → Q object words → IsStep P (Q (object + 1)) (mending object words) words)
    → ((words : List ℕ) → Q 16 words → Opens P R later words)
    → (first count : ℕ) → first + count ≡ 16 → (words : List ℕ) → Q first words → Opens P R (map mending (range_with_len first count) ++ later) words
opens-round P R Q mending later step go first zero all words q = go words (subst (λ (k : ℕ). Q k words) (omega (arith, all)) q)
opens-round P R Q mending later step go first (suc count) all words q =
    opens-next P (Q (first + 1)) R (mending first) (map mending (range_with_len (first + 1) count) ++ later) words (step first words (omega (arith, all)) q)
    (λ next. opens-round P R Q mending later step go (first + 1) count (omega (arith, all)) next)
