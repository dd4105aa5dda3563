-- What a changed descriptor changes.
use Rattle.std.proofs.Common.{◌≡◌, ◌≢◌, ℕ, ◌+◌, ◌-◌, ◌%◌, ◌<◌, ◌≤◌, ◌⊎◌, eqb, List, length, set, get_or, zero, suc, inl, inr, refl, sym, ap, subst, ◌∙◌, arith, get_or-set_other, get_or-set_same}
use Rattle.std.proofs.lemmas.Bool.{eqb-true, cases_Bool}
use Rattle.std.proofs.lemmas.List.{length-set}
use Rattle.heap_big.specs.declared.run.Run.{Run}
use Rattle.heap_big.specs.Runs.{end_of, HasPage, IsInSegment}
use Rattle.heap_big.specs.Descriptors.{inside_at, IsFreePage, IsHeadOf, TakingLaw, GivingBackLaw}
use Rattle.heap_big.proofs.Chains.{below_or_from}

-- a page behind a free one isn't inside a big block
inside_behind_free : (descriptors : List ℕ) (page : ℕ) → inside_at descriptors page ≡ 0 → get_or descriptors page 0 ≤ 1 → inside_at descriptors (suc page) ≡ 0
inside_behind_free descriptors page outside unused =
    elim (cases_Bool (eqb (suc page % 64) 0)) [
      | inl begins ↦ rw begins refl
      | inr within ↦ rw (within, outside) (omega (arith, unused))
    ]

same_next : (before after : List ℕ) (page : ℕ) → inside_at after page ≡ inside_at before page → get_or after page 0 ≡ get_or before page 0
    → inside_at after (suc page) ≡ inside_at before (suc page)
same_next before after page earlier here = rw (earlier, here) refl

-- up to a place that alone differs nothing changes
inside_up_to : (one other : List ℕ) (first : ℕ) → ((page : ℕ) → page ≢ first → get_or one page 0 ≡ get_or other page 0)
    → (page : ℕ) → page ≤ first → inside_at one page ≡ inside_at other page
inside_up_to one other first same zero le = refl
inside_up_to one other first same (suc page) le =
    let earlier = inside_up_to one other first same page (omega arith) in
    let here = same page (omega arith) in
    rw (earlier, here) refl

-- Two tables of descriptors: in the first the run's pages are free pages one by one, in the second they have one head.
record AreTaken (before after : List ℕ) (run : Run) : Type 0 where
  pub in_segment : IsInSegment run
  pub size : length after ≡ length before
  pub end : end_of run ≤ length before
  pub outside : inside_at before run.first ≡ 0
  pub unused : (page : ℕ) → HasPage run page → get_or before page 0 ≤ 1
  pub head : IsHeadOf run.pages (get_or after run.first 0)
  pub others : (page : ℕ) → page ≢ run.first → get_or after page 0 ≡ get_or before page 0

free_inside : (before after : List ℕ) (run : Run) → AreTaken before after run → (k page : ℕ) → page ≡ run.first + k → k ≤ run.pages → inside_at before page ≡ 0
free_inside before after run taken zero page e le =
    let first : page ≡ run.first = omega (arith, e) in
    ap (inside_at before) first ∙ taken.outside
free_inside before after run taken (suc k) page e le =
    let last : page ≡ suc (run.first + k) = omega (arith, e) in
    let earlier = free_inside before after run taken k (run.first + k) refl (omega arith) in
    let unused = taken.unused (run.first + k) (omega arith, omega (arith, le)) in
    ap (inside_at before) last ∙ inside_behind_free before (run.first + k) earlier unused

-- behind the head so many pages are left as the run still has
head_inside : (before after : List ℕ) (run : Run) → AreTaken before after run → (k page : ℕ) → page ≡ run.first + k → k < run.pages
    → inside_at after (suc page) ≡ run.pages - suc k
head_inside before after run taken zero page e lt =
    let first : page ≡ run.first = omega (arith, e) in
    let size = taken.in_segment.within in
    elim (cases_Bool (eqb (suc page % 64) 0)) [
      | inl begins ↦
          let aligned = eqb-true (suc page % 64) 0 begins in
          rw begins (omega (arith, aligned, size, first))
      | inr within ↦
          let up_to : inside_at after page ≡ 0 =
          ap (inside_at after) first ∙ inside_up_to after before run.first taken.others run.first (omega arith) ∙ taken.outside in
          let head : get_or after page 0 - 17 ≡ run.pages - 1 = ap (λ (p : ℕ). get_or after p 0 - 17) first ∙ taken.head.inside in
          rw (within, up_to) head
    ]
head_inside before after run taken (suc k) page e lt =
    let size = taken.in_segment.within in
    let last : page ≡ suc (run.first + k) = omega (arith, e) in
    let here : inside_at after page ≡ suc (run.pages - suc (suc k)) =
    ap (inside_at after) last ∙ head_inside before after run taken k (run.first + k) refl (omega arith) ∙ omega (arith, lt) in
    elim (cases_Bool (eqb (suc page % 64) 0)) [
      | inl begins ↦
          let aligned = eqb-true (suc page % 64) 0 begins in
          rw begins (omega (arith, aligned, size, e, lt))
      | inr within ↦ rw (within, here) refl
    ]

same_behind : (before after : List ℕ) (run : Run) → AreTaken before after run → (k page : ℕ) → page ≡ end_of run + k → inside_at after page ≡ inside_at before page
same_behind before after run taken zero page e =
    let some = taken.in_segment.some in
    let last : page ≡ suc (run.first + (run.pages - 1)) = omega (arith, some, e) in
    let after_is : inside_at after page ≡ 0 =
    ap (inside_at after) last ∙ head_inside before after run taken (run.pages - 1) (run.first + (run.pages - 1)) refl (omega (arith, some)) ∙ omega (arith, some) in
    let before_is : inside_at before page ≡ 0 = free_inside before after run taken run.pages page (omega (arith, e)) (omega arith) in
    after_is ∙ sym before_is
same_behind before after run taken (suc k) page e =
    let some = taken.in_segment.some in
    let before_it : ℕ = end_of run + k in
    let last : page ≡ suc before_it = omega (arith, e) in
    let earlier : inside_at after before_it ≡ inside_at before before_it = same_behind before after run taken k before_it refl in
    let here : get_or after before_it 0 ≡ get_or before before_it 0 = taken.others before_it (omega (arith, some)) in
    ap (inside_at after) last ∙ same_next before after before_it earlier here ∙ ap (inside_at before) (sym last)

same_inside : (before after : List ℕ) (run : Run) → AreTaken before after run → (page : ℕ) → (HasPage run page → ⊥) → inside_at after page ≡ inside_at before page
same_inside before after run taken page apart =
    elim (below_or_from run.first page) [
      | inl above ↦ elim (below_or_from page (end_of run)) [
        | inl below ↦ absurd (apart (omega (arith, above), below))
        | inr behind ↦
            same_behind before after run taken (page - end_of run) page (omega (arith, behind))
      ]
      | inr up_to ↦ inside_up_to after before run.first taken.others page up_to
    ]

-- no page of the run is free once it has its head
not_free : (before after : List ℕ) (run : Run) → AreTaken before after run → (page : ℕ) → HasPage run page → IsFreePage after page → ⊥
not_free before after run taken page has free =
    elim (below_or_from run.first page) [
      | inl above ↦
          let k : ℕ = page - suc run.first in
          let there : suc (run.first + k) ≡ page = omega (arith, above) in
          let left : inside_at after page ≡ run.pages - suc k = ap (inside_at after) (sym there) ∙ head_inside before after run taken k (run.first + k) refl (omega (arith, has.1, above)) in
          omega (arith, left, free.outside, has.1, above)
      | inr up_to ↦
          let first : page ≡ run.first = omega (arith, up_to, has.0) in
          let head = taken.head.used in
          let unused : get_or after run.first 0 ≤ 1 = subst (λ (p : ℕ). get_or after p 0 ≤ 1) first free.unused in
          omega (arith, head, unused)
    ]

stays_free : (before after : List ℕ) (run : Run) → AreTaken before after run → (page : ℕ) → (HasPage run page → ⊥) → IsFreePage before page → IsFreePage after page
stays_free before after run taken page apart free =
    let some = taken.in_segment.some in
    let other : page ≢ run.first = λ e. apart (omega (arith, e), omega (arith, e, some)) in
    record {
      within = omega (arith, free.within, taken.size);
      outside = same_inside before after run taken page apart ∙ free.outside;
      unused = omega (arith, taken.others page other, free.unused);
    }

was_free : (before after : List ℕ) (run : Run) → AreTaken before after run → (page : ℕ) → (HasPage run page → ⊥) → IsFreePage after page → IsFreePage before page
was_free before after run taken page apart free =
    let some = taken.in_segment.some in
    let other : page ≢ run.first = λ e. apart (omega (arith, e), omega (arith, e, some)) in
    record {
      within = omega (arith, free.within, taken.size);
      outside = sym (same_inside before after run taken page apart) ∙ free.outside;
      unused = omega (arith, taken.others page other, free.unused);
    }

free_in_run : (before after : List ℕ) (run : Run) → AreTaken before after run → (page : ℕ) → HasPage run page → IsFreePage before page
free_in_run before after run taken page has =
    record {
      within = omega (arith, has.1, taken.end);
      outside = free_inside before after run taken (page - run.first) page (omega (arith, has.0)) (omega (arith, has.0, has.1));
      unused = taken.unused page has;
    }

pub has_or_not : (run : Run) (page : ℕ) → HasPage run page ⊎ (HasPage run page → ⊥)
has_or_not run page =
    elim (below_or_from page run.first) [
      | inl below ↦ inr (λ has. omega (arith, below, has.0))
      | inr from ↦ elim (below_or_from page (end_of run)) [ inl within ↦ inl (from, within) | inr behind ↦ inr (λ has. omega (arith, behind, has.1)) ]
    ]

pub taking : TakingLaw
taking descriptors run head in_segment is_head free page =
    let some = in_segment.some in
    let last = free (run.first + (run.pages - 1)) (omega arith, omega (arith, some)) in
    let end : end_of run ≤ length descriptors = omega (arith, last.within, some) in
    let after : List ℕ = set descriptors run.first head in
    let first = free run.first (omega arith, omega (arith, some)) in
    let taken : AreTaken descriptors after run =
    record {
      in_segment = in_segment;
      size = length-set descriptors run.first head;
      end = end;
      outside = first.outside;
      unused = λ other has. (free other has).unused;
      head = subst (IsHeadOf run.pages) (sym (get_or-set_same descriptors run.first head 0 first.within)) is_head;
      others = λ other apart. get_or-set_other descriptors run.first other head 0 apart;
    } in (
      λ now. elim (has_or_not run page) [
        | inl has ↦ absurd (not_free descriptors after run taken page has now)
        | inr apart ↦ (was_free descriptors after run taken page apart now, apart)
      ],
      λ was. stays_free descriptors after run taken page was.1 was.0,
    )

pub giving_back : GivingBackLaw
giving_back descriptors run free in_segment end small outside is_head inner page =
    let some = in_segment.some in
    let before : List ℕ = set descriptors run.first free in
    let same : (other : ℕ) → other ≢ run.first → get_or before other 0 ≡ get_or descriptors other 0 = λ other apart. get_or-set_other descriptors run.first other free 0 apart in
    let first : get_or before run.first 0 ≡ free = get_or-set_same descriptors run.first free 0 (omega (arith, end, some)) in
    let taken : AreTaken before descriptors run =
    record {
      in_segment = in_segment;
      size = sym (length-set descriptors run.first free);
      end = omega (arith, end, length-set descriptors run.first free);
      outside = inside_up_to before descriptors run.first same run.first (omega arith) ∙ outside;
      unused = λ other has. elim (below_or_from run.first other) [
        | inl above ↦ omega (arith, same other (omega arith), inner other above has.1)
        | inr up_to ↦ let is : other ≡ run.first = omega (arith, up_to, has.0) in subst (λ (p : ℕ). get_or before p 0 ≤ 1) (sym is) (omega (arith, first, small))
      ];
      head = is_head;
      others = λ other apart. sym (same other apart);
    } in (
      λ now. elim (has_or_not run page) [
        | inl has ↦ inr has
        | inr apart ↦ inl (stays_free before descriptors run taken page apart now)
      ],
      λ was. elim (has_or_not run page) [
        | inl has ↦ free_in_run before descriptors run taken page has
        | inr apart ↦ elim was [ inl free ↦ was_free before descriptors run taken page apart free | inr has ↦ absurd (apart has) ]
      ],
    )
