use Rattle.std.proofs.Common.{refl, sym, ◌∙◌, rules}
use Rattle.std.proofs.lemmas.Bool.{true≢false}
use Rattle.image_layout.proofs.SlotSizes.{least_is, least_low}
use Rattle.heap_palloc.proofs.Choosing.{slot_allocated, new_page_allocated, pages_allocated, ok_map, at_most, allocated_fits}
use Rattle.heap_palloc.proofs.allocate.plan_allocate.Goals as goal

pub returns-in_ok-take_slot-in-Some-lowest_room-clause-allocated :
    goal.returns-in_ok-take_slot-in-Some-lowest_room-clause-allocated
returns-in_ok-take_slot-in-Some-lowest_room-clause-allocated g c =
    let small = at_most c.args.words 256 (λ more. true≢false (c.in-Some.ensures.none.1 more)) in
    let lt = least_low c.args.words c.in-Some.class small c.in-Some.ensures.least.least in
    let (rest, room) = c.in-Some-lowest_room.ensures.lowest in
    slot_allocated (g.M.Memory.device c.args.mem.now).cached c.args.heap.now c.take_slot.new.heap c.args.lane c.args.dest.0 c.args.words c.in_ok-take_slot-in-Some-lowest_room.field-0.0.left c.in_ok-take_slot-in-Some-lowest_room.field-0.1.first.0 c.in_ok-take_slot-in-Some-lowest_room.field-0.1.words
    c.in-Some.class c.in-Some-lowest_room.page rest small (least_is c.args.words c.in-Some.class lt c.in-Some.ensures.least.holds c.in-Some.ensures.least.least) (sym (c.requires.may.index_of.rooms c.in-Some.class lt) ∙ room) c.in_ok-take_slot-in-Some-lowest_room.ensures.planned

pub returns-in_ok-take_slot-in-Some-lowest_room-clause-room :
    goal.returns-in_ok-take_slot-in-Some-lowest_room-clause-room
returns-in_ok-take_slot-in-Some-lowest_room-clause-room g c =
    let small = at_most c.args.words 256 (λ more. true≢false (c.in-Some.ensures.none.1 more)) in
    let lt = least_low c.args.words c.in-Some.class small c.in-Some.ensures.least.least in
    let (rest, room) = c.in-Some-lowest_room.ensures.lowest in
    allocated_fits (g.M.Memory.device c.args.mem.now) (g.met.M.Memory.whole c.args.mem.now) c.args.heap.now c.args.lane c.args.dest.0 c.requires.may c.take_slot.new.heap c.args.words c.in_ok-take_slot-in-Some-lowest_room.field-0.0.left c.in_ok-take_slot-in-Some-lowest_room.field-0.1.first.0 c.in_ok-take_slot-in-Some-lowest_room.field-0.1.words
    (slot_allocated (g.M.Memory.device c.args.mem.now).cached c.args.heap.now c.take_slot.new.heap c.args.lane c.args.dest.0 c.args.words c.in_ok-take_slot-in-Some-lowest_room.field-0.0.left c.in_ok-take_slot-in-Some-lowest_room.field-0.1.first.0 c.in_ok-take_slot-in-Some-lowest_room.field-0.1.words
    c.in-Some.class c.in-Some-lowest_room.page rest small (least_is c.args.words c.in-Some.class lt c.in-Some.ensures.least.holds c.in-Some.ensures.least.least) (sym (c.requires.may.index_of.rooms c.in-Some.class lt) ∙ room) c.in_ok-take_slot-in-Some-lowest_room.ensures.planned)

pub returns-in-None-lowest_room-clause-allocated :
    goal.returns-in-None-lowest_room-clause-allocated
returns-in-None-lowest_room-clause-allocated g c =
    let small = at_most c.args.words 256 (λ more. true≢false (c.in-Some.ensures.none.1 more)) in
    let lt = least_low c.args.words c.in-Some.class small c.in-Some.ensures.least.least in
    ok_map _ _ c.take_new_page.result
    (λ made planned. new_page_allocated (g.M.Memory.device c.args.mem.now).cached c.args.heap.now c.take_new_page.new.heap c.args.lane c.args.dest.0 c.args.words made.0.left made.1.first.0 made.1.words
    c.in-Some.class small (least_is c.args.words c.in-Some.class lt c.in-Some.ensures.least.holds c.in-Some.ensures.least.least) (sym (c.requires.may.index_of.rooms c.in-Some.class lt) ∙ c.in-None-lowest_room.ensures.none.0 refl) planned)
    c.take_new_page.ensures.planned

pub returns-in-None-lowest_room-clause-room : goal.returns-in-None-lowest_room-clause-room
returns-in-None-lowest_room-clause-room g c =
    let small = at_most c.args.words 256 (λ more. true≢false (c.in-Some.ensures.none.1 more)) in
    let lt = least_low c.args.words c.in-Some.class small c.in-Some.ensures.least.least in
    ok_map _ _ c.take_new_page.result
    (λ made planned. allocated_fits (g.M.Memory.device c.args.mem.now) (g.met.M.Memory.whole c.args.mem.now) c.args.heap.now c.args.lane c.args.dest.0 c.requires.may c.take_new_page.new.heap c.args.words made.0.left made.1.first.0 made.1.words
    (new_page_allocated (g.M.Memory.device c.args.mem.now).cached c.args.heap.now c.take_new_page.new.heap c.args.lane c.args.dest.0 c.args.words made.0.left made.1.first.0 made.1.words
    c.in-Some.class small (least_is c.args.words c.in-Some.class lt c.in-Some.ensures.least.holds c.in-Some.ensures.least.least) (sym (c.requires.may.index_of.rooms c.in-Some.class lt) ∙ c.in-None-lowest_room.ensures.none.0 refl) planned))
    c.take_new_page.ensures.planned

pub returns-in-None-clause-room : goal.returns-in-None-clause-room
returns-in-None-clause-room g c =
    let big = c.in-None.ensures.none.0 refl in
    ok_map _ _ c.take_pages.result
    (λ made planned. allocated_fits (g.M.Memory.device c.args.mem.now) (g.met.M.Memory.whole c.args.mem.now) c.args.heap.now c.args.lane c.args.dest.0 c.requires.may c.take_pages.new.heap c.args.words made.0.left made.1.first.0 made.1.words
    (pages_allocated (g.M.Memory.device c.args.mem.now).cached c.args.heap.now c.take_pages.new.heap c.args.lane c.args.dest.0 c.args.words made.0.left made.1.first.0 made.1.words c.div_ceil.result big (search rules) planned))
    c.take_pages.ensures.planned
