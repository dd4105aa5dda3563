use Rattle.std.proofs.Common.{◌+◌, ◌++◌, ◌∙◌, ℕ, List, [], ◌∷◌, map, sym, ap, ap₂, arith}
use Rattle.std.specs.List.{range_with_len}
use Rattle.std.proofs.lemmas.List.FromFn.{map-range_with_len_more}
use Rattle.image_layout.specs.Places.{packed_byte}
use Rattle.image_layout.specs.Trees.{text_at}
use Rattle.text_block.proofs.reading.read_bytes.Goals as goal

pub push_reserved-requires : goal.push_reserved-requires
push_reserved-requires g c = omega (arith, c.loop-byte.invariant.count, c.loop-byte.invariant.room, c.loop-byte-test.true)

pub loop-byte-preserved : goal.loop-byte-preserved
loop-byte-preserved g c =
    let byte_at = packed_byte (g.M.Memory.device c.args.mem.now).cached (c.args.at.0 + 1) in
    record {
      items = c.push_reserved.ensures.items
          ∙ ap₂ (λ (xs : List ℕ) (x : ℕ). xs ++ x ∷ []) c.loop-byte.invariant.items c.packed_byte.ensures
          ∙ sym (map-range_with_len_more byte_at 0 c.loop-byte.byte c.loop-byte.byte (omega arith));
      count = omega (arith, c.push_reserved.ensures.len, c.loop-byte.invariant.count);
      room = omega (arith, c.push_reserved.ensures.capacity, c.loop-byte.invariant.room);
    }

pub returns : goal.returns
unfolding text_at
returns g c =
    let words = (g.M.Memory.device c.args.mem.now).cached in
    c.loop-byte.invariant.items
    ∙ ap (λ (n : ℕ). map (packed_byte words (c.args.at.0 + 1)) (range_with_len 0 n)) (omega (arith, c.loop-byte-test.false, c.loop-byte.auto.byte-end, c.load-length.ensures))
