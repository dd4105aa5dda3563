use Rattle.catalog.proofs.Names.{unpadded_here, unpadded_all}
use Rattle.catalog.proofs.reading.without_padding.Goals as goal

pub returns-then-byte-eq0 : goal.returns-then-byte-eq0
returns-then-byte-eq0 c = unpadded_here c.args.bytes.now c.loop-index.index c.loop-index.invariant c.loop-index-test.true c.if-byte-eq0.true

pub returns : goal.returns
returns c = unpadded_all c.args.bytes.now c.loop-index.index c.loop-index.invariant c.loop-index-test.false
