use Rattle.std.proofs.Common.{◌≡◌, ℕ, ◌+◌, ◌-◌, ◌*◌, List, [], ◌∷◌, true, false, get_or, refl, sym, ◌∙◌, ap, arith}
use Rattle.heap_big.specs.Pages.{GainsOne, IsRising}
use Rattle.heap_big.proofs.Rising.{gains-settled, rising-least}
use Rattle.image_layout.specs.Blocks.{class_of, bitmap_of}
use Rattle.heap_palloc.specs.Index.{rooms_of, is_full}
use Rattle.heap_palloc.proofs.Scans.{add_hit, add_miss}
use Rattle.heap_palloc.proofs.SlotCalls.{full_is}
use Rattle.heap_palloc.proofs.reading.add_room.Goals as goal

-- a page that is lower than all stands in front of them
in_front : (old new : List ℕ) (page : ℕ) → IsRising (page + 1) old 8192 → GainsOne old page new → IsRising 0 new 8192 → new ≡ page ∷ old
in_front old new page above gains up =
    gains-settled page 0 8192 old new (page ∷ old) gains (let front : GainsOne old page (page ∷ old) = record { front = []; back = old; old_is = refl; new_is = refl } in front) up (omega arith, above)

pub add_room-requires-clause-new : goal.add_room-requires-clause-new
add_room-requires-clause-new g c has =
    let low = rising-least (c.args.page + 1) (rooms_of c.args.heap.now c.new-class.result) 8192 c.args.page (c.requires.rising c.new-class.result (omega arith)) has in
    omega (arith, low)

pub returns-then-is_some-clause-rooms : goal.returns-then-is_some-clause-rooms
returns-then-is_some-clause-rooms g c = λ class lt.
    let class_is : class_of (g.M.Memory.device c.args.mem.now).cached c.args.page ≡ c.new-class.result = sym (c.new-class.ensures ∙ ap (λ (v : ℕ). v - 2) (c.load-value.ensures ∙ ap (λ (w : ℕ). get_or (g.M.Memory.device c.args.mem.now).cached w 0) c.descriptor.ensures)) in
    let bitmap : c.load-bitmap.result ≡ bitmap_of (g.M.Memory.device c.args.mem.now).cached c.args.page = c.load-bitmap.ensures ∙ ap (λ (p : ℕ). get_or (g.M.Memory.device c.args.mem.now).cached (512 * p) 0) c.from.ensures in
    add_hit (g.M.Memory.device c.args.mem.now).cached c.args.page c.new-class.result c.requires.small class_is (rooms_of c.args.heap.now) (rooms_of c.add_room.new.self)
    (ap (is_full c.new-class.result) (sym bitmap) ∙ full_is c.new-class.result c.load-bitmap.result c.first_free.result false c.first_free.ensures.none (sym c.is_some.ensures ∙ c.if-is_some.true)) (in_front (rooms_of c.args.heap.now c.new-class.result) (rooms_of c.add_room.new.self c.new-class.result) c.args.page (c.requires.rising c.new-class.result (omega arith)) c.add_room.ensures.gains c.add_room.ensures.rising) c.add_room.ensures.others class

pub returns-else-is_some-clause-rooms : goal.returns-else-is_some-clause-rooms
returns-else-is_some-clause-rooms g c = λ class lt.
    let class_is : class_of (g.M.Memory.device c.args.mem.now).cached c.args.page ≡ c.new-class.result = sym (c.new-class.ensures ∙ ap (λ (v : ℕ). v - 2) (c.load-value.ensures ∙ ap (λ (w : ℕ). get_or (g.M.Memory.device c.args.mem.now).cached w 0) c.descriptor.ensures)) in
    let bitmap : c.load-bitmap.result ≡ bitmap_of (g.M.Memory.device c.args.mem.now).cached c.args.page = c.load-bitmap.ensures ∙ ap (λ (p : ℕ). get_or (g.M.Memory.device c.args.mem.now).cached (512 * p) 0) c.from.ensures in
    add_miss (g.M.Memory.device c.args.mem.now).cached c.args.page c.new-class.result c.requires.small class_is (rooms_of c.args.heap.now)
    (ap (is_full c.new-class.result) (sym bitmap) ∙ full_is c.new-class.result c.load-bitmap.result c.first_free.result true c.first_free.ensures.none (sym c.is_some.ensures ∙ c.if-is_some.false)) class

pub add_room-requires-clause-within : goal.add_room-requires-clause-within
add_room-requires-clause-within g c = omega (arith, c.requires.in_image, (g.met.M.Memory.whole c.args.mem.now).most)
