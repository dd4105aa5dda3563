use Rattle.std.proofs.Common.{ℕ, List, set, bit_or, refl, sym, subst, arith}
use Rattle.std.proofs.lemmas.List.{length-set}
use Rattle.heap_big.specs.Pages.{pages_of}
use Rattle.heap_big.specs.Runs.{Adds}
use Rattle.heap_big.specs.Index.{runs_of}
use Rattle.heap_big.specs.Starts.{Indexes}
use Rattle.heap_big.proofs.Grouping.{well_formed}
use Rattle.heap_big.proofs.PutBack.{has_left, has_right, has_not_whole, indexed_after, adds, as_written}
use Rattle.heap_big.proofs.runs.Runs.put_back.Goals as goal

pub remove-requires : goal.remove-requires
remove-requires c = has_left c.self.inside.free.items c.args.self.now c.self.inside.starts c.args.run c.neighbours.result.0 c.neighbours.result.1 c.from-at.result c.index-free.result.now
    (record {
      view = c.self.view_is;
      indexed = c.self.invariant.starts;
      in_segment = c.requires.in_segment;
      end = c.requires.within;
      not_free = c.requires.not_free;
      segment = c.from-at.ensures;
      read = c.index-free.ensures;
      beside = record {
        left_end = c.neighbours.ensures.left;
        left_short = c.neighbours.ensures.left_in_segment;
        left_free = c.neighbours.ensures.left_free;
        left_whole = c.neighbours.ensures.left_whole;
        right_begin = c.neighbours.ensures.right;
        right_short = c.neighbours.ensures.right_in_segment;
        right_free = c.neighbours.ensures.right_free;
        right_whole = c.neighbours.ensures.right_whole;
      };
    })

pub remove-requires-2 : goal.remove-requires-2
remove-requires-2 c = has_right c.self.inside.free.items c.args.self.now c.self.inside.starts c.args.run c.neighbours.result.0 c.neighbours.result.1 c.from-at.result c.index-free.result.now
    (record {
      view = c.self.view_is;
      indexed = c.self.invariant.starts;
      in_segment = c.requires.in_segment;
      end = c.requires.within;
      not_free = c.requires.not_free;
      segment = c.from-at.ensures;
      read = c.index-free.ensures;
      beside = record {
        left_end = c.neighbours.ensures.left;
        left_short = c.neighbours.ensures.left_in_segment;
        left_free = c.neighbours.ensures.left_free;
        left_whole = c.neighbours.ensures.left_whole;
        right_begin = c.neighbours.ensures.right;
        right_short = c.neighbours.ensures.right_in_segment;
        right_free = c.neighbours.ensures.right_free;
        right_whole = c.neighbours.ensures.right_whole;
      };
    })
    c.remove.new.self c.remove.ensures

pub add-requires-clause-new : goal.add-requires-clause-new
add-requires-clause-new c = has_not_whole c.self.inside.free.items c.args.self.now c.self.inside.starts c.args.run c.neighbours.result.0 c.neighbours.result.1 c.from-at.result c.index-free.result.now
    (record {
      view = c.self.view_is;
      indexed = c.self.invariant.starts;
      in_segment = c.requires.in_segment;
      end = c.requires.within;
      not_free = c.requires.not_free;
      segment = c.from-at.ensures;
      read = c.index-free.ensures;
      beside = record {
        left_end = c.neighbours.ensures.left;
        left_short = c.neighbours.ensures.left_in_segment;
        left_free = c.neighbours.ensures.left_free;
        left_whole = c.neighbours.ensures.left_whole;
        right_begin = c.neighbours.ensures.right;
        right_short = c.neighbours.ensures.right_in_segment;
        right_free = c.neighbours.ensures.right_free;
        right_whole = c.neighbours.ensures.right_whole;
      };
    })
    c.remove.new.self c.remove.ensures c.remove-2.new.self c.remove-2.ensures

pub invariant_of-self : goal.invariant_of-self
invariant_of-self c =
    let same = as_written c.self.inside.free.items c.args.self.now c.self.inside.starts c.args.run c.neighbours.result.0 c.neighbours.result.1 c.from-at.result c.index-free.result.now
    (record {
      view = c.self.view_is;
      indexed = c.self.invariant.starts;
      in_segment = c.requires.in_segment;
      end = c.requires.within;
      not_free = c.requires.not_free;
      segment = c.from-at.ensures;
      read = c.index-free.ensures;
      beside = record {
        left_end = c.neighbours.ensures.left;
        left_short = c.neighbours.ensures.left_in_segment;
        left_free = c.neighbours.ensures.left_free;
        left_whole = c.neighbours.ensures.left_whole;
        right_begin = c.neighbours.ensures.right;
        right_short = c.neighbours.ensures.right_in_segment;
        right_free = c.neighbours.ensures.right_free;
        right_whole = c.neighbours.ensures.right_whole;
      };
    })
    c.bits_of.result (bit_or c.index-free.result.now c.bits_of.result) c.bits_of.ensures refl in
    record {
      small = omega (arith, c.self.invariant.small, length-set c.self.inside.free.items c.from-at.result (bit_or c.index-free.result.now c.bits_of.result));
      starts = subst (λ (l : List ℕ). Indexes c.add.new.self (runs_of (pages_of l))) (sym same) (indexed_after c.self.inside.free.items c.args.self.now c.self.inside.starts c.args.run c.neighbours.result.0 c.neighbours.result.1 c.from-at.result c.index-free.result.now
          (record {
            view = c.self.view_is;
            indexed = c.self.invariant.starts;
            in_segment = c.requires.in_segment;
            end = c.requires.within;
            not_free = c.requires.not_free;
            segment = c.from-at.ensures;
            read = c.index-free.ensures;
            beside = record {
              left_end = c.neighbours.ensures.left;
              left_short = c.neighbours.ensures.left_in_segment;
              left_free = c.neighbours.ensures.left_free;
              left_whole = c.neighbours.ensures.left_whole;
              right_begin = c.neighbours.ensures.right;
              right_short = c.neighbours.ensures.right_in_segment;
              right_free = c.neighbours.ensures.right_free;
              right_whole = c.neighbours.ensures.right_whole;
            };
          })
          c.remove.new.self c.remove.ensures c.remove-2.new.self c.remove-2.ensures c.add.new.self c.add.ensures);
    }

pub returns-clause-pages : goal.returns-clause-pages
returns-clause-pages c =
    let same = as_written c.self.inside.free.items c.args.self.now c.self.inside.starts c.args.run c.neighbours.result.0 c.neighbours.result.1 c.from-at.result c.index-free.result.now
    (record {
      view = c.self.view_is;
      indexed = c.self.invariant.starts;
      in_segment = c.requires.in_segment;
      end = c.requires.within;
      not_free = c.requires.not_free;
      segment = c.from-at.ensures;
      read = c.index-free.ensures;
      beside = record {
        left_end = c.neighbours.ensures.left;
        left_short = c.neighbours.ensures.left_in_segment;
        left_free = c.neighbours.ensures.left_free;
        left_whole = c.neighbours.ensures.left_whole;
        right_begin = c.neighbours.ensures.right;
        right_short = c.neighbours.ensures.right_in_segment;
        right_free = c.neighbours.ensures.right_free;
        right_whole = c.neighbours.ensures.right_whole;
      };
    })
    c.bits_of.result (bit_or c.index-free.result.now c.bits_of.result) c.bits_of.ensures refl in
    subst (λ (l : List ℕ). Adds c.args.self.now.runs c.args.run (runs_of (pages_of l))) (sym same) (adds c.self.inside.free.items c.args.self.now c.self.inside.starts c.args.run c.neighbours.result.0 c.neighbours.result.1 c.from-at.result c.index-free.result.now
    (record {
      view = c.self.view_is;
      indexed = c.self.invariant.starts;
      in_segment = c.requires.in_segment;
      end = c.requires.within;
      not_free = c.requires.not_free;
      segment = c.from-at.ensures;
      read = c.index-free.ensures;
      beside = record {
        left_end = c.neighbours.ensures.left;
        left_short = c.neighbours.ensures.left_in_segment;
        left_free = c.neighbours.ensures.left_free;
        left_whole = c.neighbours.ensures.left_whole;
        right_begin = c.neighbours.ensures.right;
        right_short = c.neighbours.ensures.right_in_segment;
        right_free = c.neighbours.ensures.right_free;
        right_whole = c.neighbours.ensures.right_whole;
      };
    }))

pub returns-clause-well_formed : goal.returns-clause-well_formed
returns-clause-well_formed c = well_formed (set c.self.inside.free.items c.from-at.result (bit_or c.index-free.result.now c.bits_of.result))
