use Rattle.std.proofs.Common.{◌+◌, ◌*◌, ◌∙◌, ℕ, List, length, get_or, ap, arith}
use Rattle.std.proofs.lemmas.List.{length-set, get_or-set_other}
use Rattle.text_block.proofs.Packing.{packed_is, packed_byte-here, packed_byte-past}
use Rattle.text_block.proofs.writing.packed.Goals as goal
use Rattle.text_block.proofs.writing.packed.Goals.{then-word-byte, else-word-byte}

pub loop-byte-preserved : goal.loop-byte-preserved
loop-byte-preserved c =
    elim c.if-word-byte.branch [
      | then-word-byte w ↦
          let value = get_or c.args.bytes.now (8 * c.args.word + c.loop-byte.byte) 0 in
          record {
            size = ap (length {A = ℕ}) w.eight-is ∙ length-set c.loop-byte.eight c.loop-byte.byte value ∙ c.loop-byte.invariant.size;
            done = λ k lt. ap (λ (xs : List ℕ). get_or xs k 0) w.eight-is ∙ packed_byte-here c.args.bytes.now c.loop-byte.eight c.args.word c.loop-byte.byte c.loop-byte.invariant.done c.loop-byte.invariant.size c.loop-byte-test.true k lt;
            rest = λ k le. ap (λ (xs : List ℕ). get_or xs k 0) w.eight-is ∙ get_or-set_other c.loop-byte.eight c.loop-byte.byte k value 0 (λ e. omega (arith, e, le)) ∙ c.loop-byte.invariant.rest k (omega (arith, le));
          }
      | else-word-byte w ↦ record {
        size = ap (length {A = ℕ}) w.eight-is ∙ c.loop-byte.invariant.size;
        done = λ k lt. ap (λ (xs : List ℕ). get_or xs k 0) w.eight-is ∙ packed_byte-past c.args.bytes.now c.loop-byte.eight c.args.word c.loop-byte.byte c.loop-byte.invariant.done w.if-word-byte.false (c.loop-byte.invariant.rest c.loop-byte.byte (omega arith)) k lt;
        rest = λ k le. ap (λ (xs : List ℕ). get_or xs k 0) w.eight-is ∙ c.loop-byte.invariant.rest k (omega (arith, le));
      }
    ]

pub returns : goal.returns
returns c = c.from_le_bytes.ensures ∙ packed_is c.args.bytes.now c.loop-byte.eight c.args.word (λ k lt. c.loop-byte.invariant.done k (omega (arith, lt, c.loop-byte-test.false)))
