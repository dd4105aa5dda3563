-- What planning an extension relies on lets the extension begin.
use Rattle.std.proofs.Common.{◌≡◌, ◌≢◌, inl, inr, ℕ, zero, suc, ◌<◌, ◌≤◌, List, ◌++◌, length, refl, sym, ◌∙◌, ap, subst, append-nil, arith}
use Rattle.std.specs.Prelude.{Contains}
use Rattle.pm_model.specs.declared.action.Action.{Action}
use Rattle.image_layout.specs.Pointer.{pointer_word}
use Rattle.image_layout.specs.Places.{place_in}
use Rattle.image_layout.specs.Blocks.{live_blocks}
use Rattle.image_layout.specs.Objects.{ready_count, segment_pointer_at, segment_of, pointer_after}
use Rattle.heap_palloc.specs.Index.{HeapIndex}
use Rattle.heap_palloc.specs.Calls.{IsDest, MayCall, IsAllocated}
use Rattle.txn_object.specs.Extension.{owned, allocated, segment_block, HasSegments, IsNoSegment}
use Rattle.txn_object.specs.Calls.{next_pointer, MayPlanExtension, IsSegmentPlanned}
use Rattle.txn_object.proofs.Rule.{named_after}
use Rattle.txn_object.proofs.Taken.{fresh, choice_length}

-- the word for the pointer may hold one
pub owner_dest : (words : List ℕ) (object segment : ℕ) → object < 16 → HasSegments words object → segment ≤ ready_count words object → IsDest words (segment_pointer_at words object segment)
owner_dest words object zero number has le = inl (omega (arith, number), omega (arith, number), inr (omega (arith, number)))
owner_dest words object (suc segment) number has le = inr (segment_block (segment_of words object segment), has.live segment (omega (arith, le)), omega arith, omega arith)

module _ (words : List ℕ) (index : HeapIndex) (object : ℕ) (may : MayPlanExtension words index object) (number : object < 16) (lt : ready_count words object < 32) where
  pub may_call : MayCall words index object (pointer_after words object)
  may_call = record { rules = may.segments.rules; index_of = may.index_of; lane_is = number; idle = may.idle; dest_is = owner_dest words object (ready_count words object) number may.segments (omega arith) }

  -- ── the object owns the segment ──

  pub owned_planned : (segment : ℕ) (before : List Action) → segment ≡ place_in (next_pointer words object) → next_pointer words object ≢ 0 → IsSegmentPlanned words index index object segment before before
  owned_planned segment before here some =
      let is = named_after words object may.segments.rule some in
      let own = may.owned lt some in
      record {
        source = owned segment;
        from = refl;
        may = record {
          number = number;
          segments = may.segments;
          count = lt;
          idle = may.idle;
          apart = subst (IsNoSegment words object) (sym here) own.apart;
          source = (is.word_is ∙ ap pointer_word (sym here), subst (λ (at : ℕ). Contains (live_blocks words) (segment_block at)) (sym here) own.live);
        };
        plan_is = sym (append-nil before);
        chosen = λ none. absurd (some none);
        kept = λ _. refl;
        index_of = may.index_of;
      }

  -- ── the segment is allocated ──

  pub allocated_planned : (new : HeapIndex) (left before : List Action) (first size : ℕ) → next_pointer words object ≡ 0 → IsAllocated words index new object (pointer_after words object) 256 left first size
      → IsSegmentPlanned words index new object first before (before ++ left)
  allocated_planned new left before first size none made =
      let is = fresh words object may.segments index.free.runs made.choice made.planned.may made.chosen in
      record {
        source = allocated made.choice;
        from = sym made.planned.first_is;
        may = record {
          number = number;
          segments = may.segments;
          count = lt;
          idle = may.idle;
          apart = is.apart;
          source = (made.planned.may, made.through, is.size);
        };
        plan_is = ap (λ (l : List Action). before ++ l) made.planned.plan_is;
        chosen = λ _. (made.choice, refl, made.chosen);
        kept = λ some. absurd (some none);
        index_of = made.planned.index_of;
      }

  pub allocated_length : (new : HeapIndex) (left : List Action) (first size : ℕ) → IsAllocated words index new object (pointer_after words object) 256 left first size → length left ≤ 23
  allocated_length new left first size made =
      let most = choice_length words index.free.runs made.choice made.chosen in let is = ap (length {A = Action}) made.planned.plan_is in omega (arith, most, is)

pub allocated_here : (words : List ℕ) (old new : HeapIndex) (object owner first size : ℕ) (left : List Action) → owner ≡ pointer_after words object → IsAllocated words old new object owner 256 left first size
    → IsAllocated words old new object (pointer_after words object) 256 left first size
allocated_here words old new object owner first size left at made = subst (λ (o : ℕ). IsAllocated words old new object o 256 left first size) at made
