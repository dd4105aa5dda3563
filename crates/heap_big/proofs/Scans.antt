-- The free pages by the descriptors read so far.
use Rattle.std.proofs.Common.{◌≡◌, ℕ, ◌+◌, ◌<◌, ◌≤◌, ◌⊎◌, List, length, get_or, inl, inr, refl, sym, subst, ◌∙◌, arith, add-one}
use Rattle.std.specs.Prelude.{◌↔◌}
use Rattle.heap_big.specs.declared.run.Run.{Run}
use Rattle.heap_big.specs.Runs.{HasPage, IsFree, FreeRuns, IsWellFormed}
use Rattle.heap_big.specs.Descriptors.{inside_next, inside_at, IsFreePage, EndsAt}
use Rattle.heap_big.proofs.Chains.{below_or_from}

-- The index and the pages read last, `pending`, have the free pages below `page`, at which a big block that began before has
-- `inside` pages left.
pub record IsScanned (descriptors : List ℕ) (page inside : ℕ) (pending : Run) (free : FreeRuns) : Type 0 where
  pub well_formed : IsWellFormed free
  pub page_count : free.page_count ≡ length descriptors
  pub ends : EndsAt pending page
  pub apart : (other : ℕ) → HasPage pending other → IsFree free.runs other → ⊥
  pub pages : (other : ℕ) → (IsFree free.runs other ⊎ HasPage pending other) ↔ ((other < page) × IsFreePage descriptors other)
  pub left : inside ≡ inside_at descriptors page

-- the free pages of the index and of the run that is pending
abbrev pub IsKnown : FreeRuns → Run → ℕ → Type 0
IsKnown free pending other = IsFree free.runs other ⊎ HasPage pending other

-- what a scan of the next page does
pub record ScansPage (page inside descriptor : ℕ) (free new : FreeRuns) (pending pending' : Run) : Type 0 where
  pub free_page : inside ≡ 0 → descriptor ≤ 1 → (other : ℕ) → IsKnown new pending' other ↔ (IsKnown free pending other ⊎ (other ≡ page))
  pub inside_block : 0 < inside → (other : ℕ) → IsKnown new pending' other ↔ IsKnown free pending other
  pub used_page : 1 < descriptor → (other : ℕ) → IsKnown new pending' other ↔ IsKnown free pending other
  pub ends : EndsAt pending' (page + 1)
  pub apart : (other : ℕ) → HasPage pending' other → IsFree new.runs other → ⊥
  pub page_count : new.page_count ≡ free.page_count
  pub well_formed : IsWellFormed new

module _ (descriptors : List ℕ) (page : ℕ) (known known' : ℕ → Type 0) (before : (other : ℕ) → known other ↔ ((other < page) × IsFreePage descriptors other)) where
  pages_gained : IsFreePage descriptors page → ((other : ℕ) → known' other ↔ (known other ⊎ (other ≡ page))) → (other : ℕ) → known' other ↔ ((other < page + 1) × IsFreePage descriptors other)
  pages_gained here adds other = (
    λ h.
        elim ((adds other).0 h) [
          | inl old ↦ let was = (before other).0 old in (omega (arith, was.0), was.1)
          | inr is ↦ (omega (arith, is), subst (λ p. IsFreePage descriptors p) (sym is) here)
        ],
    λ h.
        elim (below_or_from other page) [
          | inl below ↦ (adds other).1 (inl ((before other).1 (below, h.1)))
          | inr from ↦ (adds other).1 (inr (omega (arith, from, h.0)))
        ],
  )

  pages_same : (IsFreePage descriptors page → ⊥) → ((other : ℕ) → known' other ↔ known other) → (other : ℕ) → known' other ↔ ((other < page + 1) × IsFreePage descriptors other)
  pages_same used same other = (
    λ h. let was = (before other).0 ((same other).0 h) in (omega (arith, was.0), was.1),
    λ h.
        elim (below_or_from other page) [
          | inl below ↦ (same other).1 ((before other).1 (below, h.1))
          | inr from ↦
              let here : other ≡ page = omega (arith, from, h.0) in
              absurd (used (subst (λ p. IsFreePage descriptors p) here h.1))
        ],
  )

pub scanned_next : (descriptors : List ℕ) (page inside descriptor after : ℕ) (free new : FreeRuns) (pending pending' : Run) → page < length descriptors → descriptor ≡ get_or descriptors page 0
    → IsScanned descriptors page inside pending free → ScansPage page inside descriptor free new pending pending' → after ≡ inside_next page inside descriptor
    → IsScanned descriptors (page + 1) after pending' new
scanned_next descriptors page inside descriptor after free new pending pending' within is before scans left =
    record {
      well_formed = scans.well_formed;
      page_count = scans.page_count ∙ before.page_count;
      ends = scans.ends;
      apart = scans.apart;
      pages =
          elim (below_or_from 0 inside) [
            | inl some ↦ pages_same descriptors page (IsKnown free pending) (IsKnown new pending') before.pages (λ here. omega (arith, some, before.left, here.outside)) (scans.inside_block some)
            | inr none ↦ elim (below_or_from 1 descriptor) [
              | inl used ↦ pages_same descriptors page (IsKnown free pending) (IsKnown new pending') before.pages (λ here. omega (arith, used, is, here.unused)) (scans.used_page used)
              | inr unused ↦
                  pages_gained descriptors page (IsKnown free pending) (IsKnown new pending') before.pages
                  (record { within = within; outside = omega (arith, none, before.left); unused = omega (arith, unused, is) })
                  (scans.free_page (omega (arith, none)) unused)
            ]
          ];
      left = rw add-one (left ∙ next_same page inside (inside_at descriptors page) descriptor (get_or descriptors page 0) before.left is);
    }
  where
    next_same : (page a b c d : ℕ) → a ≡ b → c ≡ d → inside_next page a c ≡ inside_next page b d
    next_same page a b c d p q = rw (p, q) refl
