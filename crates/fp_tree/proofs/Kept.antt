-- An insertion leaves what the heap reads: behind it a leaf may be planned.
use Rattle.std.proofs.Common.{◌≡◌, ◌≢◌, inl, inr, ⊎_elim, ℕ, ◌+◌, ◌%◌, ◌≤◌, List, ◌∷◌, ◌++◌, length, get_or, sym, ◌∙◌, subst, arith}
use Rattle.std.specs.Prelude.{Contains, None, Option, Some}
use Rattle.image_layout.specs.Blocks.{Block, live_blocks}
use Rattle.image_layout.specs.Fixed.{lane_op_at}
use Rattle.image_layout.specs.Trees.{leaf_list}
use Rattle.image_layout.proofs.OwnersApart.{live_behind}
use Rattle.heap_palloc.specs.Index.{HeapIndex}
use Rattle.heap_palloc.proofs.LiveBlocks.{SameHeap, live_blocks-same}
use Rattle.heap_palloc.proofs.SameHeaps.{index_kept, rules_same}
use Rattle.tree_cuts.specs.Insertion.{Insertion, Lead, MayInsert}
use Rattle.tree_cuts.specs.Lists.{Each}
use Rattle.tree_cuts.specs.Tree.{AreApart}
use Rattle.tree_cuts.proofs.Inserting.{IsOff, away-done, size-done}
use Rattle.tree_cuts.proofs.Lists.{each-parts}
use Rattle.fp_tree.specs.Inserted.{IsLeadLive, inserted_words}
use Rattle.fp_tree.specs.Planned.{MayPlanLeaf, leaf_block}
use Rattle.fp_tree.proofs.Marks.{no_mark, same_marks}

off_lead : (lead : Option Lead) (words : List ℕ) (w : ℕ) → IsLeadLive words lead → ((place : ℕ) (block : Block) → Contains (live_blocks words) block → block.first ≤ place → place + 1 ≤ block.first + block.words → w ≢ place) → IsOff lead w
off_lead None words w live off = tt
off_lead (Some lead) words w live off = off lead.place live.block live.live live.begins live.ends

module _ (words : List ℕ) (segments : length words % 32768 ≡ 0) (some : 32768 ≤ length words) (column : ℕ) (before after : List ℕ) (i : Insertion) (asked : MayInsert words column before after i)
    (index : HeapIndex) (lane : ℕ) (may : MayPlanLeaf words index lane column) (listed : leaf_list words column ≡ before ++ i.leaf ∷ after) where
  abbrev done : List ℕ
  done = inserted_words words i

  live_leaves : Each (λ leaf. Contains (live_blocks words) (leaf_block leaf)) (before ++ i.leaf ∷ after)
  live_leaves = subst (Each (λ leaf. Contains (live_blocks words) (leaf_block leaf))) listed may.leaves_in

  leaf_live : Contains (live_blocks words) (leaf_block i.leaf)
  leaf_live = (each-parts (λ leaf. Contains (live_blocks words) (leaf_block leaf)) before (i.leaf ∷ after) live_leaves).1.0

  module _ (lead_live : IsLeadLive words i.lead) where
    kept : (w : ℕ) → ((place many : ℕ) (block : Block) → Contains (live_blocks words) block → block.first ≤ place → place + many ≤ block.first + block.words → AreApart place many w 1) → get_or done w 0 ≡ get_or words w 0
    kept w off = away-done words column before after i asked w
        (off_lead i.lead words w lead_live (λ place block live from to e. ⊎_elim (λ h. omega (arith, h, e)) (λ h. omega (arith, h, e)) (off place 1 block live from to)))
        (⊎_elim (λ behind. inr behind) (λ front. inl (omega (arith, front))) (off i.leaf 104 (leaf_block i.leaf) leaf_live (omega arith) (omega arith)))

    same_heap : SameHeap words done
    same_heap = same_marks words done (size-done words column before after i asked) (λ w mark. kept w (λ place many block live from to. no_mark words segments some may.rules block live place many from to w mark))

    idle : get_or done (lane_op_at lane) 0 ≡ 0
    idle = kept (lane_op_at lane) (λ place many block live from to. let few = may.lane_is in let behind = live_behind words may.rules.reserved block live in inr (omega (arith, few, behind, from))) ∙ may.idle

    pub may_plan : leaf_list done column ≡ before ++ i.leaf ∷ after → MayPlanLeaf done index lane column
    may_plan after_listed = record {
      rules = rules_same words done same_heap may.rules;
      index_of = index_kept words done index same_heap may.index_of;
      lane_is = may.lane_is;
      idle = idle;
      record_in = record {
        block = may.record_in.block;
        live = subst (λ (blocks : List Block). Contains blocks may.record_in.block) (sym (live_blocks-same words done same_heap)) may.record_in.live;
        begins = may.record_in.begins;
        ends = may.record_in.ends;
      };
      leaves_in = subst (λ (blocks : List Block). Each (λ leaf. Contains blocks (leaf_block leaf)) (leaf_list done column)) (sym (live_blocks-same words done same_heap))
          (subst (Each (λ leaf. Contains (live_blocks words) (leaf_block leaf))) (sym after_listed) live_leaves);
    }
