use Rattle.std.proofs.Common.{◌≡◌, ◌+◌, ◌*◌, ◌∙◌, ℕ, List, drop, length, get_or, ap, sym, refl, arith}
use Rattle.std.proofs.lemmas.List.{length-set, get_or-set_other}
use Rattle.fp_leaf.specs.Leaf.{integer_fingerprint}
use Rattle.fp_tree.specs.Halving.{key_prints}
use Rattle.fp_tree.proofs.Copied.{byte_here, byte_past, greater_at, prints_length, same_word}
use Rattle.fp_tree.proofs.halving.prints.Goals as goal
use Rattle.fp_tree.proofs.halving.prints.Goals.{then-place-lt-HALF, else-place-lt-HALF}

pub loop-byte-preserved : goal.loop-byte-preserved
loop-byte-preserved c =
    let bytes : List ℕ = key_prints (drop 24 c.args.sorted.now.pairs) in
    let count = prints_length c.args.sorted.now.pairs c.requires.full in
    elim c.if-place-lt-HALF.branch [
      | then-place-lt-HALF w ↦
          let value = w.int_fingerprint.result in
          let found : get_or bytes (8 * c.args.word + c.loop-byte.byte) 0 ≡ value =
          greater_at (λ pair. integer_fingerprint pair.key) c.args.sorted.now.pairs (8 * c.args.word + c.loop-byte.byte) (24 + (8 * c.args.word + c.loop-byte.byte)) w.get.result refl w.get.ensures (omega (arith, c.requires.full, w.if-place-lt-HALF.true))
          ∙ sym w.int_fingerprint.ensures in
          record {
            size = ap (length {A = ℕ}) w.bytes-is ∙ length-set c.loop-byte.bytes c.loop-byte.byte value ∙ c.loop-byte.invariant.size;
            done = λ k lt. ap (λ (xs : List ℕ). get_or xs k 0) w.bytes-is ∙ byte_here bytes c.loop-byte.bytes c.args.word c.loop-byte.byte c.loop-byte.invariant.done value c.loop-byte.invariant.size c.loop-byte-test.true found k lt;
            rest = λ k le. ap (λ (xs : List ℕ). get_or xs k 0) w.bytes-is ∙ get_or-set_other c.loop-byte.bytes c.loop-byte.byte k value 0 (λ e. omega (arith, e, le)) ∙ c.loop-byte.invariant.rest k (omega (arith, le));
          }
      | else-place-lt-HALF w ↦ record {
        size = ap (length {A = ℕ}) w.bytes-is ∙ c.loop-byte.invariant.size;
        done = λ k lt. ap (λ (xs : List ℕ). get_or xs k 0) w.bytes-is ∙ byte_past bytes c.loop-byte.bytes c.args.word c.loop-byte.byte c.loop-byte.invariant.done (omega (arith, count, w.if-place-lt-HALF.false)) (c.loop-byte.invariant.rest c.loop-byte.byte (omega arith)) k lt;
        rest = λ k le. ap (λ (xs : List ℕ). get_or xs k 0) w.bytes-is ∙ c.loop-byte.invariant.rest k (omega (arith, le));
      }
    ]

pub returns : goal.returns
returns c = c.from_le_bytes.ensures ∙ same_word c.loop-byte.bytes (drop (8 * c.args.word) (key_prints (drop 24 c.args.sorted.now.pairs))) (λ k lt. c.loop-byte.invariant.done k (omega (arith, lt, c.loop-byte-test.false)))
