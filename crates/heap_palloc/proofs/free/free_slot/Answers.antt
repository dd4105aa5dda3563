use Rattle.std.proofs.Common.{◌≡◌, ◌≢◌, ◌⊎◌, inl, inr, ℕ, ◌-◌, ◌/◌, ◌%◌, ◌++◌, refl, sym, ◌∙◌, ap, subst, arith}
use Rattle.heap_palloc.specs.Lane.{is_big_place}
use Rattle.image_layout.specs.Fixed.{descriptor_at}
use Rattle.pm_model.specs.Plans.{one_store, part_actions}
use Rattle.heap_palloc.specs.Index.{HeapIndex}
use Rattle.heap_palloc.proofs.Allocating.{dest_in_device}
use Rattle.heap_palloc.proofs.Freeing.{slot_page, slot_value, slot_number, slot_page_in, slot_read, read_has_room, read_no_room, read_not_free, read_within, read_released, ReleasesAt, GaveBack, gave_back}
use Rattle.heap_palloc.proofs.SlotCalls.{full_is}
use Rattle.heap_palloc.proofs.free.free_slot.Goals as goal
use Rattle.heap_palloc.proofs.free.free_slot.Goals.{then-clear-eq0, else-clear-eq0+then-was_full, else-clear-eq0+else-was_full}

pub overflow_cast-page : goal.overflow_cast-page
overflow_cast-page g c =
    let page = slot_page (g.M.Memory.device c.args.mem.now) (g.met.M.Memory.whole c.args.mem.now) c.args.heap.now c.args.lane c.args.dest.0 c.requires.may (sym (ap is_big_place c.requires.named) ∙ c.requires.small) c.requires.owned.0 c.requires.owned.1 c.args.first.0 c.requires.named in
    omega (arith, page.0, page.1)

pub descriptor-requires : goal.descriptor-requires
descriptor-requires g c =
    let page = slot_page (g.M.Memory.device c.args.mem.now) (g.met.M.Memory.whole c.args.mem.now) c.args.heap.now c.args.lane c.args.dest.0 c.requires.may (sym (ap is_big_place c.requires.named) ∙ c.requires.small) c.requires.owned.0 c.requires.owned.1 c.args.first.0 c.requires.named in
    omega (arith, page.0, page.1)

pub load-requires : goal.load-requires
load-requires g c =
    let page = slot_page (g.M.Memory.device c.args.mem.now) (g.met.M.Memory.whole c.args.mem.now) c.args.heap.now c.args.lane c.args.dest.0 c.requires.may (sym (ap is_big_place c.requires.named) ∙ c.requires.small) c.requires.owned.0 c.requires.owned.1 c.args.first.0 c.requires.named in
    let within = slot_page_in (g.M.Memory.device c.args.mem.now) (g.met.M.Memory.whole c.args.mem.now) c.args.heap.now c.args.lane c.args.dest.0 c.requires.may (sym (ap is_big_place c.requires.named) ∙ c.requires.small) c.requires.owned.0 c.requires.owned.1 in
    omega (arith, c.descriptor.ensures, page.0, within)

pub overflow_sub-load : goal.overflow_sub-load
overflow_sub-load g c = (slot_value (g.M.Memory.device c.args.mem.now) (g.met.M.Memory.whole c.args.mem.now) c.args.heap.now c.args.lane c.args.dest.0 c.requires.may (sym (ap is_big_place c.requires.named) ∙ c.requires.small) c.requires.owned.0 c.requires.owned.1 c.args.first.0 c.descriptor.result.0 c.load.result c.requires.named c.descriptor.ensures c.load.ensures).0

pub overflow_cast-load : goal.overflow_cast-load
overflow_cast-load g c =
    let value = slot_value (g.M.Memory.device c.args.mem.now) (g.met.M.Memory.whole c.args.mem.now) c.args.heap.now c.args.lane c.args.dest.0 c.requires.may (sym (ap is_big_place c.requires.named) ∙ c.requires.small) c.requires.owned.0 c.requires.owned.1 c.args.first.0 c.descriptor.result.0 c.load.result c.requires.named c.descriptor.ensures c.load.ensures in
    omega (arith, value.0, value.2)

pub new-class-requires : goal.new-class-requires
new-class-requires g c =
    let value = slot_value (g.M.Memory.device c.args.mem.now) (g.met.M.Memory.whole c.args.mem.now) c.args.heap.now c.args.lane c.args.dest.0 c.requires.may (sym (ap is_big_place c.requires.named) ∙ c.requires.small) c.requires.owned.0 c.requires.owned.1 c.args.first.0 c.descriptor.result.0 c.load.result c.requires.named c.descriptor.ensures c.load.ensures in
    omega (arith, value.0, value.2)

pub overflow_sub-slot : goal.overflow_sub-slot
overflow_sub-slot g c = (slot_number (g.M.Memory.device c.args.mem.now) (g.met.M.Memory.whole c.args.mem.now) c.args.heap.now c.args.lane c.args.dest.0 c.requires.may (sym (ap is_big_place c.requires.named) ∙ c.requires.small) c.requires.owned.0 c.requires.owned.1 c.args.first.0 c.requires.named).0

pub load-bitmap-requires : goal.load-bitmap-requires
load-bitmap-requires g c =
    let page = slot_page (g.M.Memory.device c.args.mem.now) (g.met.M.Memory.whole c.args.mem.now) c.args.heap.now c.args.lane c.args.dest.0 c.requires.may (sym (ap is_big_place c.requires.named) ∙ c.requires.small) c.requires.owned.0 c.requires.owned.1 c.args.first.0 c.requires.named in
    let within = slot_page_in (g.M.Memory.device c.args.mem.now) (g.met.M.Memory.whole c.args.mem.now) c.args.heap.now c.args.lane c.args.dest.0 c.requires.may (sym (ap is_big_place c.requires.named) ∙ c.requires.small) c.requires.owned.0 c.requires.owned.1 in
    omega (arith, c.from.ensures, page.0, within)

pub push_freeing-requires-clause-block : goal.push_freeing-requires-clause-block
push_freeing-requires-clause-block g c = (slot_page (g.M.Memory.device c.args.mem.now) (g.met.M.Memory.whole c.args.mem.now) c.args.heap.now c.args.lane c.args.dest.0 c.requires.may (sym (ap is_big_place c.requires.named) ∙ c.requires.small) c.requires.owned.0 c.requires.owned.1 c.args.first.0 c.requires.named).2

pub descriptor-requires-then-clear-eq0 : goal.descriptor-requires-then-clear-eq0
descriptor-requires-then-clear-eq0 g c =
    let page = slot_page (g.M.Memory.device c.args.mem.now) (g.met.M.Memory.whole c.args.mem.now) c.args.heap.now c.args.lane c.args.dest.0 c.requires.may (sym (ap is_big_place c.requires.named) ∙ c.requires.small) c.requires.owned.0 c.requires.owned.1 c.args.first.0 c.requires.named in
    omega (arith, page.0, page.1)

pub give_back_page-requires-clause-within : goal.give_back_page-requires-clause-within
give_back_page-requires-clause-within g c = read_within (g.M.Memory.device c.args.mem.now) (g.met.M.Memory.whole c.args.mem.now) c.args.heap.now c.args.lane c.args.dest.0 c.requires.may (sym (ap is_big_place c.requires.named) ∙ c.requires.small) c.requires.owned.0 c.requires.owned.1 c.args.first.0 c.new-class.result ((c.args.first.0 % 512 - 8) / c.class_words.result) c.load-bitmap.result c.without-clear.result (slot_read (g.M.Memory.device c.args.mem.now) (g.met.M.Memory.whole c.args.mem.now) c.args.heap.now c.args.lane c.args.dest.0 c.requires.may (sym (ap is_big_place c.requires.named) ∙ c.requires.small) c.requires.owned.0 c.requires.owned.1 c.args.first.0 c.descriptor.result.0 c.load.result c.new-class.result c.class_words.result ((c.args.first.0 % 512 - 8) / c.class_words.result) c.from.result c.load-bitmap.result c.without-clear.result c.requires.named c.descriptor.ensures c.load.ensures c.new-class.ensures c.class_words.ensures refl c.from.ensures c.load-bitmap.ensures c.without-clear.ensures.value)

pub give_back_page-requires-clause-not_free : goal.give_back_page-requires-clause-not_free
give_back_page-requires-clause-not_free g c = read_not_free (g.M.Memory.device c.args.mem.now) (g.met.M.Memory.whole c.args.mem.now) c.args.heap.now c.args.lane c.args.dest.0 c.requires.may (sym (ap is_big_place c.requires.named) ∙ c.requires.small) c.requires.owned.0 c.requires.owned.1 c.args.first.0 c.new-class.result ((c.args.first.0 % 512 - 8) / c.class_words.result) c.load-bitmap.result c.without-clear.result (slot_read (g.M.Memory.device c.args.mem.now) (g.met.M.Memory.whole c.args.mem.now) c.args.heap.now c.args.lane c.args.dest.0 c.requires.may (sym (ap is_big_place c.requires.named) ∙ c.requires.small) c.requires.owned.0 c.requires.owned.1 c.args.first.0 c.descriptor.result.0 c.load.result c.new-class.result c.class_words.result ((c.args.first.0 % 512 - 8) / c.class_words.result) c.from.result c.load-bitmap.result c.without-clear.result c.requires.named c.descriptor.ensures c.load.ensures c.new-class.ensures c.class_words.ensures refl c.from.ensures c.load-bitmap.ensures c.without-clear.ensures.value)

pub give_back_page-requires-clause-room : goal.give_back_page-requires-clause-room
give_back_page-requires-clause-room g c = λ rest. read_has_room (g.M.Memory.device c.args.mem.now) (g.met.M.Memory.whole c.args.mem.now) c.args.heap.now c.args.lane c.args.dest.0 c.requires.may (sym (ap is_big_place c.requires.named) ∙ c.requires.small) c.requires.owned.0 c.requires.owned.1 c.args.first.0 c.new-class.result ((c.args.first.0 % 512 - 8) / c.class_words.result) c.load-bitmap.result c.without-clear.result (slot_read (g.M.Memory.device c.args.mem.now) (g.met.M.Memory.whole c.args.mem.now) c.args.heap.now c.args.lane c.args.dest.0 c.requires.may (sym (ap is_big_place c.requires.named) ∙ c.requires.small) c.requires.owned.0 c.requires.owned.1 c.args.first.0 c.descriptor.result.0 c.load.result c.new-class.result c.class_words.result ((c.args.first.0 % 512 - 8) / c.class_words.result) c.from.result c.load-bitmap.result c.without-clear.result c.requires.named c.descriptor.ensures c.load.ensures c.new-class.ensures c.class_words.ensures refl c.from.ensures c.load-bitmap.ensures c.without-clear.ensures.value) (full_is c.new-class.result c.load-bitmap.result c.first_free.result c.is_none-was_full.result c.first_free.ensures.none c.is_none-was_full.ensures ∙ rest)

pub add_room-requires-clause-within : goal.add_room-requires-clause-within
add_room-requires-clause-within g c =
    let page = slot_page (g.M.Memory.device c.args.mem.now) (g.met.M.Memory.whole c.args.mem.now) c.args.heap.now c.args.lane c.args.dest.0 c.requires.may (sym (ap is_big_place c.requires.named) ∙ c.requires.small) c.requires.owned.0 c.requires.owned.1 c.args.first.0 c.requires.named in
    omega (arith, page.0, page.1)

pub add_room-requires-clause-new : goal.add_room-requires-clause-new
add_room-requires-clause-new g c = read_no_room (g.M.Memory.device c.args.mem.now) (g.met.M.Memory.whole c.args.mem.now) c.args.heap.now c.args.lane c.args.dest.0 c.requires.may (sym (ap is_big_place c.requires.named) ∙ c.requires.small) c.requires.owned.0 c.requires.owned.1 c.args.first.0 c.new-class.result ((c.args.first.0 % 512 - 8) / c.class_words.result) c.load-bitmap.result c.without-clear.result (slot_read (g.M.Memory.device c.args.mem.now) (g.met.M.Memory.whole c.args.mem.now) c.args.heap.now c.args.lane c.args.dest.0 c.requires.may (sym (ap is_big_place c.requires.named) ∙ c.requires.small) c.requires.owned.0 c.requires.owned.1 c.args.first.0 c.descriptor.result.0 c.load.result c.new-class.result c.class_words.result ((c.args.first.0 % 512 - 8) / c.class_words.result) c.from.result c.load-bitmap.result c.without-clear.result c.requires.named c.descriptor.ensures c.load.ensures c.new-class.ensures c.class_words.ensures refl c.from.ensures c.load-bitmap.ensures c.without-clear.ensures.value) (full_is c.new-class.result c.load-bitmap.result c.first_free.result c.is_none-was_full.result c.first_free.ensures.none c.is_none-was_full.ensures ∙ c.if-was_full.true)

pub returns-clause-freed : goal.returns-clause-freed
returns-clause-freed g c =
    let full = full_is c.new-class.result c.load-bitmap.result c.first_free.result c.is_none-was_full.result c.first_free.ensures.none c.is_none-was_full.ensures in
    let ends : ((c.without-clear.result ≡ 0) × (c.if-clear-eq0.plan.left ≡ c.push_freeing.new.plan.left ++ part_actions (one_store (descriptor_at (c.args.first.0 / 512)) 0))) ⊎ ((c.without-clear.result ≢ 0) × (c.if-clear-eq0.plan.left ≡ c.push_freeing.new.plan.left)) = elim c.if-clear-eq0.branch [
      | then-clear-eq0 w ↦ inl (w.if-clear-eq0.true, ap (λ p. p.left) w.plan-is ∙ w.push_store.ensures.left ∙ ap (λ (at : ℕ). c.push_freeing.new.plan.left ++ part_actions (one_store at 0)) w.descriptor-then-clear-eq0.ensures)
      | else-clear-eq0+then-was_full w ↦ inr (w.if-clear-eq0.false, ap (λ p. p.left) w.plan-is)
      | else-clear-eq0+else-was_full w ↦ inr (w.if-clear-eq0.false, ap (λ p. p.left) w.plan-is)
    ] in
    let releases : ReleasesAt c.args.heap.now c.if-clear-eq0.heap c.new-class.result (c.args.first.0 / 512) c.load-bitmap.result c.without-clear.result = elim c.if-clear-eq0.branch [
      | then-clear-eq0 w ↦
          let e = w.give_back_page.ensures in
          let gave : GaveBack c.args.heap.now w.give_back_page.new.heap c.new-class.result (c.args.first.0 / 512) c.is_none-was_full.result = record {
            loses = e.loses;
            others = e.others;
            same = e.same;
            added = record { adds = e.added; well_formed = e.well_formed; count = e.page_count };
          } in
          subst (λ (h : HeapIndex). ReleasesAt c.args.heap.now h c.new-class.result (c.args.first.0 / 512) c.load-bitmap.result c.without-clear.result) (sym w.heap-is)
          (gave_back c.args.heap.now w.give_back_page.new.heap c.new-class.result (c.args.first.0 / 512) c.load-bitmap.result c.without-clear.result c.is_none-was_full.result w.if-clear-eq0.true full gave)
      | else-clear-eq0+then-was_full w ↦
          subst (λ (h : HeapIndex). ReleasesAt c.args.heap.now h c.new-class.result (c.args.first.0 / 512) c.load-bitmap.result c.without-clear.result) (sym w.heap-is)
          (inr (inl (w.if-clear-eq0.false, full ∙ w.if-was_full.true, record { same = w.add_room.ensures.free }, record { gains = w.add_room.ensures.gains; rising = w.add_room.ensures.rising; others = w.add_room.ensures.others })))
      | else-clear-eq0+else-was_full w ↦
          subst (λ (h : HeapIndex). ReleasesAt c.args.heap.now h c.new-class.result (c.args.first.0 / 512) c.load-bitmap.result c.without-clear.result) (sym w.heap-is)
          (inr (inr (w.if-clear-eq0.false, full ∙ w.if-was_full.false, record { same = refl }, record { each = λ class. refl })))
    ] in
    read_released (g.M.Memory.device c.args.mem.now) (g.met.M.Memory.whole c.args.mem.now) c.args.heap.now c.args.lane c.args.dest.0 c.requires.may (sym (ap is_big_place c.requires.named) ∙ c.requires.small) c.requires.owned.0 c.requires.owned.1 c.args.first.0 c.new-class.result ((c.args.first.0 % 512 - 8) / c.class_words.result) c.load-bitmap.result c.without-clear.result (descriptor_at (c.args.first.0 / 512)) c.if-clear-eq0.plan.left c.push_freeing.new.plan.left c.in_ok-plan.plan.left c.if-clear-eq0.heap
    (slot_read (g.M.Memory.device c.args.mem.now) (g.met.M.Memory.whole c.args.mem.now) c.args.heap.now c.args.lane c.args.dest.0 c.requires.may (sym (ap is_big_place c.requires.named) ∙ c.requires.small) c.requires.owned.0 c.requires.owned.1 c.args.first.0 c.descriptor.result.0 c.load.result c.new-class.result c.class_words.result ((c.args.first.0 % 512 - 8) / c.class_words.result) c.from.result c.load-bitmap.result c.without-clear.result c.requires.named c.descriptor.ensures c.load.ensures c.new-class.ensures c.class_words.ensures refl c.from.ensures c.load-bitmap.ensures c.without-clear.ensures.value) c.requires.named c.push_freeing.ensures.left c.in_ok-plan.ensures.empty (λ zero. refl) ends releases

pub push_freeing-requires-clause-owner : goal.push_freeing-requires-clause-owner
push_freeing-requires-clause-owner g c = dest_in_device (g.M.Memory.device c.args.mem.now) (g.met.M.Memory.whole c.args.mem.now) c.args.heap.now c.args.lane c.args.dest.0 c.requires.may
