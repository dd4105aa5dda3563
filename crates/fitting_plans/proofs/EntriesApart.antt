-- Two transaction objects have no entry word in common.
use Rattle.std.proofs.Common.{◌≡◌, ℕ, zero, suc, ◌<◌, List, sym, subst, arith}
use Rattle.std.specs.Prelude.{Contains}
use Rattle.image_layout.specs.Objects.{entry_places, ready_count, segment_of, segment_pointer_at}
use Rattle.image_layout.specs.Owners.{segment_owner}
use Rattle.shown_state.specs.Fits.{Fits}
use Rattle.shown_state.proofs.ValuesApart.{first_word, IsInSegment, one_home, segment_behind, segment_home}
use Rattle.opening_steps.proofs.NoneNew.{entry_spot, IsEntrySpot, later_entry, own_entry}

module _ (words : List ℕ) (fits : Fits words) where
  -- a pointer to a segment is one object's
  pointers_once : (object other segment before : ℕ) → object < 16 → other < 16 → segment < ready_count words object → before < ready_count words other → segment_pointer_at words object segment ≡ segment_pointer_at words other before → object ≡ other
  pointers_once object other zero zero lt less ready known same = omega (arith, same)
  pointers_once object other zero (suc before) lt less ready known same = let behind = segment_behind words fits other before less (omega (arith, known)) in absurd (omega (arith, behind, same, lt))
  pointers_once object other (suc segment) zero lt less ready known same = let behind = segment_behind words fits object segment lt (omega (arith, ready)) in absurd (omega (arith, behind, same, less))
  pointers_once object other (suc segment) (suc before) lt less ready known same =
      let w = segment_of words object segment in
      let one = first_word words fits object segment lt (omega (arith, ready)) in
      let two : IsInSegment words fits other before w = subst (IsInSegment words fits other before) (sym same) (first_word words fits other before less (omega (arith, known))) in
      pointers_once object other segment before lt less (omega (arith, ready)) (omega (arith, known))
      (one_home words fits (segment_owner words object segment) (segment_owner words other before) w (segment_home words fits object segment w one) (segment_home words fits other before w two))

  segments_once : (object other segment before w : ℕ) → IsInSegment words fits object segment w → IsInSegment words fits other before w → object ≡ other
  segments_once object other segment before w one two =
      pointers_once object other segment before one.number two.number one.ready two.ready
      (one_home words fits (segment_owner words object segment) (segment_owner words other before) w (segment_home words fits object segment w one) (segment_home words fits other before w two))

  pub entries_once : (object other at : ℕ) → object < 16 → other < 16 → Contains (entry_places words object) at → Contains (entry_places words other) at → object ≡ other
  entries_once object other at lt less one two = once (entry_spot words object at one) (entry_spot words other at two)
    where
      once : IsEntrySpot words object at → IsEntrySpot words other at → object ≡ other
      once (own_entry entry few here) (own_entry before under there) = omega (arith, here, there, few, under)
      once (own_entry entry few here) (later_entry segment before ready under there) = let behind = segment_behind words fits other segment less ready in absurd (omega (arith, behind, here, there, few, lt))
      once (later_entry segment entry ready few here) (own_entry before under there) = let behind = segment_behind words fits object segment lt ready in absurd (omega (arith, behind, here, there, under, less))
      once (later_entry segment entry ready few here) (later_entry last before known under there) =
          segments_once object other segment last at
          (record { number = lt; ready = ready; low = omega (arith, here); high = omega (arith, here, few) })
          (record { number = less; ready = known; low = omega (arith, there); high = omega (arith, there, under) })
