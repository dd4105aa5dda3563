use Rattle.std.proofs.Common.{◌≡◌, ◌∙◌, ℕ, ◌*◌, ◌/◌, ◌<◌, ◌++◌, true, List, get_or, ap, sym, subst, arith}
use Rattle.pm_model.specs.declared.action.Action.{Action}
use Rattle.image_layout.specs.Places.{place_in, is_pointer}
use Rattle.image_layout.specs.Arrays.{chunk_pages, chunk_pointer_at}
use Rattle.seg_array.specs.Calls.{IsChunkPlanned}
use Rattle.seg_array.proofs.Planning.{pages_most, header_in_image, named, owned_planned, allocated_here, allocated_planned, allocated_length, planned_page}
use Rattle.seg_array.proofs.grow.push_chunk.Goals as goal

pub chunk_pointer-owner-requires-clause-header : goal.chunk_pointer-owner-requires-clause-header
chunk_pointer-owner-requires-clause-header g c =
    let there = header_in_image (g.M.Memory.device c.args.mem.now) (g.met.M.Memory.whole c.args.mem.now) c.args.heap.now c.args.lane c.args.header.0 c.requires.may in
    omega (arith, there, (g.met.M.Memory.whole c.args.mem.now).most)

pub load-requires : goal.load-requires
load-requires g c =
    let there = header_in_image (g.M.Memory.device c.args.mem.now) (g.met.M.Memory.whole c.args.mem.now) c.args.heap.now c.args.lane c.args.header.0 c.requires.may in
    omega (arith, there, c.chunk_pointer-owner.ensures, c.requires.not_full)

pub named_place-chunk-requires-clause-pointer : goal.named_place-chunk-requires-clause-pointer
named_place-chunk-requires-clause-pointer g c =
    let words : List ℕ = (g.M.Memory.device c.args.mem.now).cached in
    let owner = c.chunk_pointer-owner.ensures ∙ ap (chunk_pointer_at c.args.header.0) c.requires.count in
    let is = named (g.M.Memory.device c.args.mem.now) (g.met.M.Memory.whole c.args.mem.now) c.args.heap.now c.args.lane c.args.header.0 c.requires.may (omega (arith, c.requires.count, c.requires.not_full)) (λ e. c.if-load-ne0.true (c.load.ensures ∙ ap (λ (at : ℕ). get_or words at 0) owner ∙ e)) in
    subst (λ (at : ℕ). is_pointer words (get_or words at 0) ≡ true) (sym owner) is.is_one

pub returns-then-load-ne0-clause-planned : goal.returns-then-load-ne0-clause-planned
returns-then-load-ne0-clause-planned g c =
    let words : List ℕ = (g.M.Memory.device c.args.mem.now).cached in
    let owner = c.chunk_pointer-owner.ensures ∙ ap (chunk_pointer_at c.args.header.0) c.requires.count in
    let place = c.named_place-chunk.ensures.place ∙ ap (λ (at : ℕ). place_in (get_or words at 0)) owner in
    subst (λ (at : ℕ). IsChunkPlanned words c.args.heap.now c.args.heap.now c.args.lane c.args.header.0 (at / 512) c.args.plan.now.left c.args.plan.now.left) (sym place)
    (owned_planned (g.M.Memory.device c.args.mem.now) (g.met.M.Memory.whole c.args.mem.now) c.args.heap.now c.args.lane c.args.header.0 c.requires.may (omega (arith, c.requires.count, c.requires.not_full)) (λ e. c.if-load-ne0.true (c.load.ensures ∙ ap (λ (at : ℕ). get_or words at 0) owner ∙ e)) c.args.plan.now.left)

pub plan_allocate-requires-clause-most : goal.plan_allocate-requires-clause-most
plan_allocate-requires-clause-most g c = let most = pages_most c.args.count in omega (arith, most, c.chunk_pages-words.ensures.pages)

pub append-requires : goal.append-requires
append-requires g c =
    let words : List ℕ = (g.M.Memory.device c.args.mem.now).cached in
    let owner = c.chunk_pointer-owner.ensures ∙ ap (chunk_pointer_at c.args.header.0) c.requires.count in
    let pages = ap (λ (n : ℕ). 512 * n) (c.chunk_pages-words.ensures.pages ∙ ap chunk_pages c.requires.count) in
    let lt : get_or (g.M.Memory.device c.args.mem.now).cached c.args.header.0 0 < 12 = omega (arith, c.requires.count, c.requires.not_full) in
    let none = sym (ap (λ (at : ℕ). get_or words at 0) owner) ∙ sym c.load.ensures ∙ c.if-load-ne0.false in
    let made = allocated_here (g.M.Memory.device c.args.mem.now) (g.met.M.Memory.whole c.args.mem.now) c.args.heap.now c.args.lane c.args.header.0 c.requires.may lt none c.chunk_pointer-owner.result.0 (512 * c.chunk_pages-words.result) c.in_ok-allocation.chunk.words c.in_ok-allocation.chunk.first.0 c.plan_allocate.new.heap c.in_ok-allocation.allocation.left owner pages c.in_ok-allocation.ensures.allocated in
    let most = allocated_length (g.M.Memory.device c.args.mem.now) (g.met.M.Memory.whole c.args.mem.now) c.args.heap.now c.args.lane c.args.header.0 c.requires.may lt none c.plan_allocate.new.heap c.in_ok-allocation.allocation.left c.in_ok-allocation.chunk.first.0 c.in_ok-allocation.chunk.words made in
    let same = ap chunk_pages c.requires.count in
    omega (arith, most, same, c.requires.room)

pub overflow_cast-result-2 : goal.overflow_cast-result-2
overflow_cast-result-2 g c =
    let words : List ℕ = (g.M.Memory.device c.args.mem.now).cached in
    let owner = c.chunk_pointer-owner.ensures ∙ ap (chunk_pointer_at c.args.header.0) c.requires.count in
    let pages = ap (λ (n : ℕ). 512 * n) (c.chunk_pages-words.ensures.pages ∙ ap chunk_pages c.requires.count) in
    let lt : get_or (g.M.Memory.device c.args.mem.now).cached c.args.header.0 0 < 12 = omega (arith, c.requires.count, c.requires.not_full) in
    let none = sym (ap (λ (at : ℕ). get_or words at 0) owner) ∙ sym c.load.ensures ∙ c.if-load-ne0.false in
    let made = allocated_here (g.M.Memory.device c.args.mem.now) (g.met.M.Memory.whole c.args.mem.now) c.args.heap.now c.args.lane c.args.header.0 c.requires.may lt none c.chunk_pointer-owner.result.0 (512 * c.chunk_pages-words.result) c.in_ok-allocation.chunk.words c.in_ok-allocation.chunk.first.0 c.plan_allocate.new.heap c.in_ok-allocation.allocation.left owner pages c.in_ok-allocation.ensures.allocated in
    let planned = allocated_planned (g.M.Memory.device c.args.mem.now) (g.met.M.Memory.whole c.args.mem.now) c.args.heap.now c.args.lane c.args.header.0 c.requires.may lt none c.plan_allocate.new.heap c.in_ok-allocation.allocation.left c.args.plan.now.left c.in_ok-allocation.chunk.first.0 c.in_ok-allocation.chunk.words made in
    let within = planned_page (g.M.Memory.device c.args.mem.now) (g.met.M.Memory.whole c.args.mem.now) c.args.heap.now c.args.lane c.args.header.0 c.requires.may c.args.heap.now c.plan_allocate.new.heap (c.in_ok-allocation.chunk.first.0 / 512) c.args.plan.now.left (c.args.plan.now.left ++ c.in_ok-allocation.allocation.left) planned in
    omega (arith, within)

pub returns-clause-planned : goal.returns-clause-planned
returns-clause-planned g c =
    let words : List ℕ = (g.M.Memory.device c.args.mem.now).cached in
    let owner = c.chunk_pointer-owner.ensures ∙ ap (chunk_pointer_at c.args.header.0) c.requires.count in
    let pages = ap (λ (n : ℕ). 512 * n) (c.chunk_pages-words.ensures.pages ∙ ap chunk_pages c.requires.count) in
    let lt : get_or (g.M.Memory.device c.args.mem.now).cached c.args.header.0 0 < 12 = omega (arith, c.requires.count, c.requires.not_full) in
    let none = sym (ap (λ (at : ℕ). get_or words at 0) owner) ∙ sym c.load.ensures ∙ c.if-load-ne0.false in
    let made = allocated_here (g.M.Memory.device c.args.mem.now) (g.met.M.Memory.whole c.args.mem.now) c.args.heap.now c.args.lane c.args.header.0 c.requires.may lt none c.chunk_pointer-owner.result.0 (512 * c.chunk_pages-words.result) c.in_ok-allocation.chunk.words c.in_ok-allocation.chunk.first.0 c.plan_allocate.new.heap c.in_ok-allocation.allocation.left owner pages c.in_ok-allocation.ensures.allocated in
    subst (λ (xs : List Action). IsChunkPlanned words c.args.heap.now c.plan_allocate.new.heap c.args.lane c.args.header.0 (c.in_ok-allocation.chunk.first.0 / 512) c.args.plan.now.left xs) (sym c.append.ensures.left)
    (allocated_planned (g.M.Memory.device c.args.mem.now) (g.met.M.Memory.whole c.args.mem.now) c.args.heap.now c.args.lane c.args.header.0 c.requires.may lt none c.plan_allocate.new.heap c.in_ok-allocation.allocation.left c.args.plan.now.left c.in_ok-allocation.chunk.first.0 c.in_ok-allocation.chunk.words made)

pub returns-clause-spare : goal.returns-clause-spare
returns-clause-spare g c =
    let words : List ℕ = (g.M.Memory.device c.args.mem.now).cached in
    let owner = c.chunk_pointer-owner.ensures ∙ ap (chunk_pointer_at c.args.header.0) c.requires.count in
    let pages = ap (λ (n : ℕ). 512 * n) (c.chunk_pages-words.ensures.pages ∙ ap chunk_pages c.requires.count) in
    let lt : get_or (g.M.Memory.device c.args.mem.now).cached c.args.header.0 0 < 12 = omega (arith, c.requires.count, c.requires.not_full) in
    let none = sym (ap (λ (at : ℕ). get_or words at 0) owner) ∙ sym c.load.ensures ∙ c.if-load-ne0.false in
    let made = allocated_here (g.M.Memory.device c.args.mem.now) (g.met.M.Memory.whole c.args.mem.now) c.args.heap.now c.args.lane c.args.header.0 c.requires.may lt none c.chunk_pointer-owner.result.0 (512 * c.chunk_pages-words.result) c.in_ok-allocation.chunk.words c.in_ok-allocation.chunk.first.0 c.plan_allocate.new.heap c.in_ok-allocation.allocation.left owner pages c.in_ok-allocation.ensures.allocated in
    let most = allocated_length (g.M.Memory.device c.args.mem.now) (g.met.M.Memory.whole c.args.mem.now) c.args.heap.now c.args.lane c.args.header.0 c.requires.may lt none c.plan_allocate.new.heap c.in_ok-allocation.allocation.left c.in_ok-allocation.chunk.first.0 c.in_ok-allocation.chunk.words made in
    let same = ap chunk_pages c.requires.count in
    omega (arith, most, same, c.append.ensures.spare)
