use Rattle.std.proofs.Common.{◌∙◌, ℕ, ◌*◌, ◌/◌, ◌%◌, ◌^◌, List, ap, arith}
use Rattle.std.proofs.lemmas.List.{length-set}
use Rattle.std.proofs.lemmas.List.FromFn.{fill_by_all}
use Rattle.image_layout.specs.Places.{packed_byte}
use Rattle.catalog.proofs.Lists.{stored_byte}
use Rattle.catalog.proofs.reading.read_bytes.Goals as goal

pub loop-byte-preserved : goal.loop-byte-preserved
loop-byte-preserved g c =
    let words : List ℕ = (g.M.Memory.device c.args.mem.now).cached in
    let value = c.load-word.result / 2 ^ (8 * (c.loop-byte.byte % 8)) % 256 in
    record {
      size = length-set c.loop-byte.bytes c.loop-byte.byte value ∙ c.loop-byte.invariant.size;
      done = stored_byte (packed_byte words c.args.first.0) c.loop-byte.bytes c.loop-byte.byte value c.loop-byte.invariant.size c.loop-byte-test.true
          (ap (λ (w : ℕ). w / 2 ^ (8 * (c.loop-byte.byte % 8)) % 256) c.load-word.ensures) c.loop-byte.invariant.done;
    }

pub returns : goal.returns
returns g c = fill_by_all (packed_byte (g.M.Memory.device c.args.mem.now).cached c.args.first.0) c.loop-byte.bytes 24 0 c.loop-byte.invariant.size (λ k lt. c.loop-byte.invariant.done k (omega (arith, lt, c.loop-byte-test.false)))
