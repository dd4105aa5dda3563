use Rattle.std.proofs.Common.{◌≡◌, ℕ, true, List, sym, ◌∙◌, ap, subst, arith, get_or}
use Rattle.image_layout.specs.Places.{place_in, is_pointer}
use Rattle.image_layout.specs.Arrays.{capacity_of, chunk_pointer_at}
use Rattle.image_layout.proofs.ChunkSizes.{capacity-rises}
use Rattle.seg_array.proofs.Headers.{at_most_12, index_chunk, index_named, place_within}
use Rattle.seg_array.proofs.chunks.place_of.Goals as goal

pub chunk_of-chunk-requires : goal.chunk_of-chunk-requires
chunk_of-chunk-requires g c =
    let rises = capacity-rises (get_or (g.M.Memory.device c.args.mem.now).cached c.args.header.0 0) 12 (at_most_12 (g.M.Memory.device c.args.mem.now).cached c.args.header.0 c.requires.rule) in
    omega (arith, rises, c.requires.published)

pub named_place-first-requires-clause-pointer : goal.named_place-first-requires-clause-pointer
named_place-first-requires-clause-pointer g c =
    let words : List ℕ = (g.M.Memory.device c.args.mem.now).cached in
    let named = index_named words c.args.header.0 c.requires.rule c.args.index c.requires.published in
    subst (λ (at : ℕ). is_pointer words (get_or words at 0) ≡ true) (sym (c.chunk_pointer.ensures ∙ ap (chunk_pointer_at c.args.header.0) c.chunk_of-chunk.ensures.chunk)) named.is_one

pub overflow_add-result : goal.overflow_add-result
overflow_add-result g c =
    let words : List ℕ = (g.M.Memory.device c.args.mem.now).cached in
    let lt = place_within words c.args.header.0 c.requires.rule c.args.index c.requires.published (g.met.M.Memory.whole c.args.mem.now).segments in
    let pointer = ap (λ (at : ℕ). place_in (get_or words at 0)) (c.chunk_pointer.ensures ∙ ap (chunk_pointer_at c.args.header.0) c.chunk_of-chunk.ensures.chunk) in
    let before = ap capacity_of c.chunk_of-chunk.ensures.chunk in
    omega (arith, lt, pointer, before, c.chunk_capacity.ensures.words, c.named_place-first.ensures.place, (g.met.M.Memory.whole c.args.mem.now).most)

pub returns-clause-in_image : goal.returns-clause-in_image
returns-clause-in_image g c =
    let words : List ℕ = (g.M.Memory.device c.args.mem.now).cached in
    let lt = place_within words c.args.header.0 c.requires.rule c.args.index c.requires.published (g.met.M.Memory.whole c.args.mem.now).segments in
    let pointer = ap (λ (at : ℕ). place_in (get_or words at 0)) (c.chunk_pointer.ensures ∙ ap (chunk_pointer_at c.args.header.0) c.chunk_of-chunk.ensures.chunk) in
    let before = ap capacity_of c.chunk_of-chunk.ensures.chunk in
    omega (arith, lt, pointer, before, c.chunk_capacity.ensures.words, c.named_place-first.ensures.place)

pub chunk_pointer-requires-clause-chunk : goal.chunk_pointer-requires-clause-chunk
chunk_pointer-requires-clause-chunk g c =
    let words : List ℕ = (g.M.Memory.device c.args.mem.now).cached in
    let below = (index_chunk words c.args.header.0 c.requires.rule c.args.index c.requires.published).0 in
    let most = at_most_12 words c.args.header.0 c.requires.rule in
    omega (arith, below, most, c.chunk_of-chunk.ensures.chunk)

pub named_place-first-requires-clause-at : goal.named_place-first-requires-clause-at
named_place-first-requires-clause-at g c =
    let words : List ℕ = (g.M.Memory.device c.args.mem.now).cached in
    let below = (index_chunk words c.args.header.0 c.requires.rule c.args.index c.requires.published).0 in
    let most = at_most_12 words c.args.header.0 c.requires.rule in
    omega (arith, below, most, c.chunk_of-chunk.ensures.chunk, c.chunk_pointer.ensures, c.requires.header)

pub chunk_capacity-requires : goal.chunk_capacity-requires
chunk_capacity-requires g c =
    let words : List ℕ = (g.M.Memory.device c.args.mem.now).cached in
    let below = (index_chunk words c.args.header.0 c.requires.rule c.args.index c.requires.published).0 in
    let most = at_most_12 words c.args.header.0 c.requires.rule in
    omega (arith, below, most, c.chunk_of-chunk.ensures.chunk)

pub overflow_sub-result : goal.overflow_sub-result
overflow_sub-result g c =
    let words : List ℕ = (g.M.Memory.device c.args.mem.now).cached in
    let low = (index_chunk words c.args.header.0 c.requires.rule c.args.index c.requires.published).1 in
    let before = ap capacity_of c.chunk_of-chunk.ensures.chunk in
    omega (arith, low, before, c.chunk_capacity.ensures.words)
