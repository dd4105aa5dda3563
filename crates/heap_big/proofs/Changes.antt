-- How the maximal runs change as pages become free or are taken.
use Rattle.std.proofs.Common.{◌≡◌, ◌≢◌, ℕ, ◌+◌, ◌-◌, ◌%◌, ◌<◌, ◌≤◌, ◌⊎◌, ◌↔◌, List, inl, inr, sym, ap, subst, arith}
use Rattle.heap_big.specs.declared.run.Run.{Run}
use Rattle.heap_big.specs.Runs.{end_of, HasPage, IsInSegment}
use Rattle.heap_big.specs.Starts.{HasRun}
use Rattle.heap_big.proofs.Chains.{below_or_from}
use Rattle.heap_big.proofs.Heads.{has_or_not}
use Rattle.heap_big.proofs.Maximal.{IsMaximal, IndexesMaximal, shared_same}

-- two runs share a page, or one ends before the other begins
pub apart_or_shared : (one other : Run) → 0 < one.pages → 0 < other.pages → ((page : ℕ) × HasPage one page × HasPage other page) ⊎ (((page : ℕ) → HasPage one page → HasPage other page → ⊥) × ((end_of one ≤ other.first) ⊎ (end_of other ≤ one.first)))
apart_or_shared one other some more =
    elim (below_or_from other.first (end_of one)) [
      | inl below ↦ elim (below_or_from one.first (end_of other)) [
        | inl under ↦ elim (below_or_from one.first other.first) [
          | inl less ↦ inl (other.first, (omega (arith, less), below), (omega arith, omega (arith, more)))
          | inr from ↦ inl (one.first, (omega arith, omega (arith, some)), (from, under))
        ]
        | inr behind ↦ inr (λ page has has'. omega (arith, has.0, has'.1, behind), inr behind)
      ]
      | inr before ↦ inr (λ page has has'. omega (arith, has.1, has'.0, before), inl before)
    ]

-- a run of pages that become free, and the free ones that touch it
pub record IsBetween (free free' : ℕ → Type 0) (run left right : Run) : Type 0 where
  pub pages : (page : ℕ) → free' page ↔ (free page ⊎ HasPage run page)
  pub in_segment : IsInSegment run
  pub not_free : (page : ℕ) → HasPage run page → free page → ⊥
  pub left_end : end_of left ≡ run.first
  pub left_short : left.pages ≤ run.first % 64
  pub left_free : (page : ℕ) → HasPage left page → free page
  pub left_whole : left.pages < run.first % 64 → free (left.first - 1) → ⊥
  pub right_begin : right.first ≡ end_of run
  pub right_short : run.first % 64 + run.pages + right.pages ≤ 64
  pub right_free : (page : ℕ) → HasPage right page → free page
  pub right_whole : run.first % 64 + run.pages + right.pages < 64 → free (end_of right) → ⊥

-- all three as one
abbrev pub with_both : Run → Run → Run → Run
with_both run left right = record { first = left.first; pages = left.pages + run.pages + right.pages }

module _ (free free' : ℕ → Type 0) (run left right : Run) (between : IsBetween free free' run left right) where
  some : 0 < run.pages
  some = between.in_segment.some

  abbrev pub whole : Run
  whole = with_both run left right

  pub left_maximal : 0 < left.pages → IsMaximal free left
  left_maximal has = record {
    in_segment = record { some = has; within = omega (arith, between.left_end, between.left_short, between.in_segment.within, some) };
    inside = between.left_free;
    before = λ inside. between.left_whole (omega (arith, between.left_end, between.left_short, inside));
    behind = λ inside page. between.not_free (end_of left) (omega (arith, between.left_end), omega (arith, between.left_end, some)) page;
  }

  pub right_maximal : 0 < right.pages → IsMaximal free right
  right_maximal has = record {
    in_segment = record { some = has; within = omega (arith, between.right_begin, between.right_short) };
    inside = between.right_free;
    before = λ inside page. between.not_free (right.first - 1) (omega (arith, between.right_begin, some), omega (arith, between.right_begin, some)) page;
    behind = λ inside. between.right_whole (omega (arith, between.right_begin, between.right_short, inside));
  }

  pub sides_apart : left ≡ right → ⊥
  sides_apart same = let first = ap (λ (r : Run). r.first) same in omega (arith, first, between.left_end, between.right_begin, some)

  -- a page of all three
  parts : (page : ℕ) → HasPage whole page → HasPage left page ⊎ (HasPage run page ⊎ HasPage right page)
  parts page has =
      elim (below_or_from page run.first) [
        | inl below ↦ inl (has.0, omega (arith, below, between.left_end))
        | inr from ↦ elim (below_or_from page (end_of run)) [
          | inl inside ↦ inr (inl (from, inside))
          | inr behind ↦ inr (inr (omega (arith, behind, between.right_begin), omega (arith, has.1, between.left_end, between.right_begin)))
        ]
      ]

  left_in : (page : ℕ) → HasPage left page → HasPage whole page
  left_in page has = (has.0, omega (arith, has.1, some))

  run_in : (page : ℕ) → HasPage run page → HasPage whole page
  run_in page has = (omega (arith, has.0, between.left_end), omega (arith, has.1, between.left_end))

  right_in : (page : ℕ) → HasPage right page → HasPage whole page
  right_in page has = (omega (arith, has.0, between.left_end, between.right_begin), omega (arith, has.1, between.left_end, between.right_begin))

  pub whole_maximal : IsMaximal free' whole
  whole_maximal = record {
    in_segment = record { some = omega (arith, some); within = omega (arith, between.left_end, between.left_short, between.right_short) };
    inside = λ page has. (between.pages page).1 (elim (parts page has) [
      | inl a ↦ inl (between.left_free page a)
      | inr rest ↦ elim rest [ inl b ↦ inr b | inr c ↦ inl (between.right_free page c) ]
    ]);
    before = λ inside now. elim ((between.pages (left.first - 1)).0 now) [
      | inl was ↦ between.left_whole (omega (arith, between.left_end, between.left_short, inside)) was
      | inr has ↦ omega (arith, has.0, between.left_end, inside)
    ];
    behind = λ inside now.
        let end : end_of whole ≡ end_of right = omega (arith, between.left_end, between.right_begin) in
        elim ((between.pages (end_of whole)).0 now) [
          | inl was ↦ between.right_whole (omega (arith, between.left_end, between.right_begin, between.left_short, between.right_short, inside)) (subst free end was)
          | inr has ↦ omega (arith, has.1, end, between.right_begin)
        ];
  }

  -- it wasn't one of the runs before
  pub whole_new : IsMaximal free whole → ⊥
  whole_new maximal =
      let has : HasPage run run.first = (omega arith, omega (arith, some)) in
      between.not_free run.first has (maximal.inside run.first (run_in run.first has))

  -- a run that shares no page with it was maximal before exactly where it is now
  other_was : (other : Run) → ((page : ℕ) → HasPage other page → HasPage whole page → ⊥) → IsMaximal free' other → IsMaximal free other
  other_was other apart maximal = record {
    in_segment = maximal.in_segment;
    inside = λ page has. elim ((between.pages page).0 (maximal.inside page has)) [ inl was ↦ was | inr here ↦ absurd (apart page has (run_in page here)) ];
    before = λ inside was. maximal.before inside ((between.pages (other.first - 1)).1 (inl was));
    behind = λ inside was. maximal.behind inside ((between.pages (end_of other)).1 (inl was));
  }

  -- a maximal run that begins where the run ends is the right one, and one that ends where it begins the left one
  is_right : (other : Run) → IsMaximal free other → 0 < other.first % 64 → other.first ≡ end_of run → other ≡ right
  is_right other maximal inside first =
      let here = maximal.in_segment.some in
      let free_first = maximal.inside other.first (omega arith, omega (arith, here)) in
      elim (below_or_from 0 right.pages) [
        | inl has ↦ shared_same free other right other.first maximal (right_maximal has) (omega arith, omega (arith, here)) (omega (arith, first, between.right_begin), omega (arith, first, between.right_begin, has))
        | inr none ↦ absurd (between.right_whole (omega (arith, none, first, inside, between.right_short, between.in_segment.within))
            (let same : other.first ≡ end_of right = omega (arith, none, first, between.right_begin) in subst free same free_first))
      ]

  is_left : (other : Run) → IsMaximal free other → 0 < end_of other % 64 → end_of other ≡ run.first → other ≡ left
  is_left other maximal inside end =
      let here = maximal.in_segment.some in
      let last : HasPage other (run.first - 1) = (omega (arith, end, here), omega (arith, end, here)) in
      let free_last = maximal.inside (run.first - 1) last in
      elim (below_or_from 0 left.pages) [
        | inl has ↦ shared_same free other left (run.first - 1) maximal (left_maximal has) last (omega (arith, between.left_end, has), omega (arith, between.left_end, has))
        | inr none ↦ absurd (between.left_whole (omega (arith, none, end, inside))
            (let same : run.first - 1 ≡ left.first - 1 = omega (arith, none, between.left_end) in subst free same free_last))
      ]

  other_is : (other : Run) → other ≢ left → other ≢ right → IsMaximal free other → IsMaximal free' other
  other_is other not_left not_right maximal = record {
    in_segment = maximal.in_segment;
    inside = λ page has. (between.pages page).1 (inl (maximal.inside page has));
    before = λ inside now. elim ((between.pages (other.first - 1)).0 now) [
      | inl was ↦ maximal.before inside was
      | inr has ↦ not_right (is_right other maximal inside (begins has inside))
    ];
    behind = λ inside now. elim ((between.pages (end_of other)).0 now) [
      | inl was ↦ maximal.behind inside was
      | inr has ↦ not_left (is_left other maximal inside (ends has))
    ];
  }
    where
      begins : HasPage run (other.first - 1) → 0 < other.first % 64 → other.first ≡ end_of run
      begins has inside = elim (below_or_from other.first (end_of run)) [
        | inl below ↦ absurd (let here = maximal.in_segment.some in between.not_free other.first (omega (arith, has.0), below) (maximal.inside other.first (omega arith, omega (arith, here))))
        | inr from ↦ omega (arith, from, has.1, inside)
      ]

      ends : HasPage run (end_of other) → end_of other ≡ run.first
      ends has = elim (below_or_from run.first (end_of other)) [
        | inl below ↦ absurd (let here = maximal.in_segment.some in between.not_free (end_of other - 1) (omega (arith, below), omega (arith, has.1)) (maximal.inside (end_of other - 1) (omega (arith, here), omega (arith, here))))
        | inr from ↦ omega (arith, from, has.0)
      ]

  -- the index without the two and with all three as one
  pub put_index : (old mid less new : List (List ℕ)) → IndexesMaximal old free
      → ((other : Run) → HasRun mid other ↔ (HasRun old other × (other ≢ left)))
      → ((other : Run) → HasRun less other ↔ (HasRun mid other × (other ≢ right)))
      → ((other : Run) → HasRun new other ↔ (HasRun less other ⊎ ((0 < whole.pages) × (other ≡ whole))))
      → IndexesMaximal new free'
  put_index old mid less new indexes without_left without_right with_whole other = (
    λ has. elim ((with_whole other).0 has) [
      | inl kept ↦ let one = (without_right other).0 kept in let two = (without_left other).0 one.0 in other_is other two.1 one.1 ((indexes other).0 two.0)
      | inr is ↦ subst (IsMaximal free') (sym is.1) whole_maximal
    ],
    λ maximal. elim (apart_or_shared other whole maximal.in_segment.some (omega (arith, some))) [
      | inl shared ↦ (with_whole other).1 (inr (omega (arith, some), shared_same free' other whole shared.0 maximal whole_maximal shared.1 shared.2))
      | inr apart ↦
          let was = other_was other apart.0 maximal in
          let first : HasPage other other.first = (omega arith, omega (arith, maximal.in_segment.some)) in
          let not_left : other ≢ left = λ is. apart.0 other.first first (left_in other.first (subst (λ (r : Run). HasPage r other.first) is first)) in
          let not_right : other ≢ right = λ is. apart.0 other.first first (right_in other.first (subst (λ (r : Run). HasPage r other.first) is first)) in
          (with_whole other).1 (inl ((without_right other).1 ((without_left other).1 ((indexes other).1 was, not_left), not_right)))
    ],
  )

-- the first pages of a maximal run are taken
pub record IsFront (free free' : ℕ → Type 0) (chosen : Run) (pages : ℕ) : Type 0 where
  pub maximal : IsMaximal free chosen
  pub fits : pages ≤ chosen.pages
  pub left : (page : ℕ) → free' page ↔ (free page × (HasPage (record { first = chosen.first; pages = pages }) page → ⊥))

module _ (free free' : ℕ → Type 0) (chosen : Run) (pages : ℕ) (front : IsFront free free' chosen pages) where
  -- what is left of it
  abbrev pub rest : Run
  rest = record { first = chosen.first + pages; pages = chosen.pages - pages }

  abbrev pub taken : Run
  taken = record { first = chosen.first; pages = pages }

  rest_in : (page : ℕ) → HasPage rest page → HasPage chosen page
  rest_in page has = (omega (arith, has.0), omega (arith, has.1, front.fits))

  taken_in : (page : ℕ) → HasPage taken page → HasPage chosen page
  taken_in page has = (has.0, omega (arith, has.1, front.fits))

  pub rest_maximal : 0 < rest.pages → IsMaximal free' rest
  rest_maximal more = record {
    in_segment = record { some = more; within = let size = front.maximal.in_segment.within in omega (arith, size, front.fits, more) };
    inside = λ page has. (front.left page).1 (front.maximal.inside page (rest_in page has), λ gone. omega (arith, has.0, gone.1));
    before = λ inside now. elim (below_or_from 0 pages) [
      | inl some ↦ ((front.left (rest.first - 1)).0 now).1 (omega (arith, some), omega (arith, some))
      | inr none ↦
          let same : chosen.first + pages ≡ chosen.first = omega (arith, none) in
          front.maximal.before (subst (λ (n : ℕ). 0 < n % 64) same inside) (subst (λ (n : ℕ). free (n - 1)) same ((front.left (rest.first - 1)).0 now).0)
    ];
    behind = λ inside now.
        let end : end_of rest ≡ end_of chosen = omega (arith, front.fits) in
        front.maximal.behind (subst (λ (n : ℕ). 0 < n % 64) end inside) (subst free end ((front.left (end_of rest)).0 now).0);
  }

  -- a maximal run that shares no page with the chosen one stays, and no other comes
  other_stays : (other : Run) → other ≢ chosen → IsMaximal free other → IsMaximal free' other
  other_stays other differ maximal = record {
    in_segment = maximal.in_segment;
    inside = λ page has. (front.left page).1 (maximal.inside page has, λ gone. differ (shared_same free other chosen page maximal front.maximal has (taken_in page gone)));
    before = λ inside now. maximal.before inside ((front.left (other.first - 1)).0 now).0;
    behind = λ inside now. maximal.behind inside ((front.left (end_of other)).0 now).0;
  }

  -- a page that is no longer free was taken
  gone_in : (page : ℕ) → free page → (free' page → ⊥) → HasPage taken page
  gone_in page was gone = elim (has_or_not taken page) [ inl has ↦ has | inr apart ↦ absurd (gone ((front.left page).1 (was, apart))) ]

  other_was_free : (other : Run) → ((page : ℕ) → HasPage other page → HasPage chosen page → ⊥) → IsMaximal free' other → IsMaximal free other
  other_was_free other apart maximal =
      let some = maximal.in_segment.some in
      let first : HasPage other other.first = (omega arith, omega (arith, some)) in
      let last : HasPage other (end_of other - 1) = (omega (arith, some), omega (arith, some)) in
      record {
        in_segment = maximal.in_segment;
        inside = λ page has. ((front.left page).0 (maximal.inside page has)).0;
        before = λ inside was.
            let gone = taken_in (other.first - 1) (gone_in (other.first - 1) was (maximal.before inside)) in
            let same : end_of chosen ≡ other.first = elim (below_or_from other.first (end_of chosen)) [
              | inl below ↦ absurd (apart other.first first (omega (arith, gone.0), below))
              | inr from ↦ omega (arith, from, gone.1, inside)
            ] in
            front.maximal.behind (subst (λ (n : ℕ). 0 < n % 64) (sym same) inside) (subst free (sym same) ((front.left other.first).0 (maximal.inside other.first first)).0);
        behind = λ inside was.
            let gone = taken_in (end_of other) (gone_in (end_of other) was (maximal.behind inside)) in
            let same : end_of other ≡ chosen.first = elim (below_or_from chosen.first (end_of other)) [
              | inl below ↦ absurd (apart (end_of other - 1) last (omega (arith, below), omega (arith, gone.1)))
              | inr from ↦ omega (arith, from, gone.0)
            ] in
            front.maximal.before (subst (λ (n : ℕ). 0 < n % 64) same inside)
            (subst (λ (n : ℕ). free (n - 1)) same ((front.left (end_of other - 1)).0 (maximal.inside (end_of other - 1) last)).0);
      }

  pub take_index : (old mid new : List (List ℕ)) → IndexesMaximal old free
      → ((other : Run) → HasRun mid other ↔ (HasRun old other × (other ≢ chosen)))
      → ((other : Run) → HasRun new other ↔ (HasRun mid other ⊎ ((0 < rest.pages) × (other ≡ rest))))
      → IndexesMaximal new free'
  take_index old mid new indexes without with_rest other = (
    λ has. elim ((with_rest other).0 has) [
      | inl kept ↦ let one = (without other).0 kept in other_stays other one.1 ((indexes other).0 one.0)
      | inr is ↦ subst (IsMaximal free') (sym is.1) (rest_maximal is.0)
    ],
    λ maximal. elim (apart_or_shared other chosen maximal.in_segment.some front.maximal.in_segment.some) [
      | inl shared ↦
          let now = (front.left shared.0).0 (maximal.inside shared.0 shared.1) in
          let there : HasPage rest shared.0 = elim (below_or_from shared.0 rest.first) [
            | inl below ↦ absurd (now.1 (shared.2.0, below))
            | inr from ↦ (from, omega (arith, shared.2.1, front.fits))
          ] in
          let more : 0 < rest.pages = omega (arith, there.0, there.1) in
          (with_rest other).1 (inr (more, shared_same free' other rest shared.0 maximal (rest_maximal more) shared.1 there))
      | inr apart ↦
          let first : HasPage other other.first = (omega arith, omega (arith, maximal.in_segment.some)) in
          let differ : other ≢ chosen = λ is. apart.0 other.first first (subst (λ (r : Run). HasPage r other.first) is first) in
          (with_rest other).1 (inl ((without other).1 ((indexes other).1 (other_was_free other apart.0 maximal), differ)))
    ],
  )
