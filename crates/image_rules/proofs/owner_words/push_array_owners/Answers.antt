use Rattle.std.proofs.Common.{ℕ, ◌∙◌, ap, rules}
use Rattle.image_layout.specs.Owners.{owner_of, chunk_owner}
use Rattle.image_layout.specs.Arrays.{chunk_pointer_at}
use Rattle.image_rules.proofs.OwnerWalk.{named_next}
use Rattle.image_rules.proofs.owner_words.push_array_owners.Goals as goal

pub loop-chunk-preserved : goal.loop-chunk-preserved
loop-chunk-preserved c =
    named_next c.args.words.now (chunk_owner c.args.header.0) c.loop-chunk.chunk c.chunk_pointer-pointer.result.0 c.chunk_words.result c.args.owners.now.items c.loop-chunk.owners.items c.push_if_named.new.owners.items
    (ap (λ (p : ℕ). owner_of p c.chunk_words.result) c.chunk_pointer-pointer.ensures ∙ ap (owner_of (chunk_pointer_at c.args.header.0 c.loop-chunk.chunk)) c.chunk_words.ensures.words)
    c.loop-chunk.invariant c.in_ok-push_if_named.ensures

pub returns : goal.returns
returns c = search rules
