use Rattle.std.proofs.Common.{ℕ, ◌-◌, ◌/◌, List, [], get_or, sym, ◌∙◌, ap, arith}
use Rattle.heap_palloc.specs.Lane.{is_big_place}
use Rattle.heap_palloc.proofs.Freeing.{pages_page, pages_value, pages_in, pages_not_free, pages_released, run_adds}
use Rattle.heap_palloc.proofs.free.free_pages.Goals as goal

pub overflow_cast-page : goal.overflow_cast-page
overflow_cast-page g c =
    let page = pages_page (g.M.Memory.device c.args.mem.now) (g.met.M.Memory.whole c.args.mem.now) c.args.heap.now c.args.lane c.args.dest.0 c.requires.may (sym (ap is_big_place c.requires.named) ∙ c.requires.big) c.requires.owned.0 c.requires.owned.1 c.args.first.0 c.requires.named in
    omega (arith, page.0, page.1)

pub descriptor-requires : goal.descriptor-requires
descriptor-requires g c =
    let page = pages_page (g.M.Memory.device c.args.mem.now) (g.met.M.Memory.whole c.args.mem.now) c.args.heap.now c.args.lane c.args.dest.0 c.requires.may (sym (ap is_big_place c.requires.named) ∙ c.requires.big) c.requires.owned.0 c.requires.owned.1 c.args.first.0 c.requires.named in
    omega (arith, page.0, page.1)

pub load-pages-requires : goal.load-pages-requires
load-pages-requires g c =
    let page = pages_page (g.M.Memory.device c.args.mem.now) (g.met.M.Memory.whole c.args.mem.now) c.args.heap.now c.args.lane c.args.dest.0 c.requires.may (sym (ap is_big_place c.requires.named) ∙ c.requires.big) c.requires.owned.0 c.requires.owned.1 c.args.first.0 c.requires.named in
    let within = pages_in (g.M.Memory.device c.args.mem.now) (g.met.M.Memory.whole c.args.mem.now) c.args.heap.now c.args.lane c.args.dest.0 c.requires.may (sym (ap is_big_place c.requires.named) ∙ c.requires.big) c.requires.owned.0 c.requires.owned.1 in
    omega (arith, c.descriptor.ensures, page.0, within)

pub overflow_sub-pages : goal.overflow_sub-pages
overflow_sub-pages g c = (pages_value (g.M.Memory.device c.args.mem.now) (g.met.M.Memory.whole c.args.mem.now) c.args.heap.now c.args.lane c.args.dest.0 c.requires.may (sym (ap is_big_place c.requires.named) ∙ c.requires.big) c.requires.owned.0 c.requires.owned.1 c.args.first.0 c.descriptor.result.0 c.load-pages.result c.requires.named c.descriptor.ensures c.load-pages.ensures).0

pub push_freeing-requires-clause-block : goal.push_freeing-requires-clause-block
push_freeing-requires-clause-block g c = (pages_page (g.M.Memory.device c.args.mem.now) (g.met.M.Memory.whole c.args.mem.now) c.args.heap.now c.args.lane c.args.dest.0 c.requires.may (sym (ap is_big_place c.requires.named) ∙ c.requires.big) c.requires.owned.0 c.requires.owned.1 c.args.first.0 c.requires.named).2

pub overflow_cast-pages : goal.overflow_cast-pages
overflow_cast-pages g c =
    let value = pages_value (g.M.Memory.device c.args.mem.now) (g.met.M.Memory.whole c.args.mem.now) c.args.heap.now c.args.lane c.args.dest.0 c.requires.may (sym (ap is_big_place c.requires.named) ∙ c.requires.big) c.requires.owned.0 c.requires.owned.1 c.args.first.0 c.descriptor.result.0 c.load-pages.result c.requires.named c.descriptor.ensures c.load-pages.ensures in
    omega (arith, value.0, value.2)

pub put_back-requires-clause-in_segment : goal.put_back-requires-clause-in_segment
put_back-requires-clause-in_segment g c =
    let value = pages_value (g.M.Memory.device c.args.mem.now) (g.met.M.Memory.whole c.args.mem.now) c.args.heap.now c.args.lane c.args.dest.0 c.requires.may (sym (ap is_big_place c.requires.named) ∙ c.requires.big) c.requires.owned.0 c.requires.owned.1 c.args.first.0 c.descriptor.result.0 c.load-pages.result c.requires.named c.descriptor.ensures c.load-pages.ensures in
    let page = pages_page (g.M.Memory.device c.args.mem.now) (g.met.M.Memory.whole c.args.mem.now) c.args.heap.now c.args.lane c.args.dest.0 c.requires.may (sym (ap is_big_place c.requires.named) ∙ c.requires.big) c.requires.owned.0 c.requires.owned.1 c.args.first.0 c.requires.named in
    (pages_not_free (g.M.Memory.device c.args.mem.now) (g.met.M.Memory.whole c.args.mem.now) c.args.heap.now c.args.lane c.args.dest.0 c.requires.may (sym (ap is_big_place c.requires.named) ∙ c.requires.big) c.requires.owned.0 c.requires.owned.1 (record { first = c.args.first.0 / 512; pages = c.load-pages.result - 16 }) page.0 value.1).0

pub put_back-requires-clause-within : goal.put_back-requires-clause-within
put_back-requires-clause-within g c =
    let value = pages_value (g.M.Memory.device c.args.mem.now) (g.met.M.Memory.whole c.args.mem.now) c.args.heap.now c.args.lane c.args.dest.0 c.requires.may (sym (ap is_big_place c.requires.named) ∙ c.requires.big) c.requires.owned.0 c.requires.owned.1 c.args.first.0 c.descriptor.result.0 c.load-pages.result c.requires.named c.descriptor.ensures c.load-pages.ensures in
    let page = pages_page (g.M.Memory.device c.args.mem.now) (g.met.M.Memory.whole c.args.mem.now) c.args.heap.now c.args.lane c.args.dest.0 c.requires.may (sym (ap is_big_place c.requires.named) ∙ c.requires.big) c.requires.owned.0 c.requires.owned.1 c.args.first.0 c.requires.named in
    (pages_not_free (g.M.Memory.device c.args.mem.now) (g.met.M.Memory.whole c.args.mem.now) c.args.heap.now c.args.lane c.args.dest.0 c.requires.may (sym (ap is_big_place c.requires.named) ∙ c.requires.big) c.requires.owned.0 c.requires.owned.1 (record { first = c.args.first.0 / 512; pages = c.load-pages.result - 16 }) page.0 value.1).1

pub put_back-requires-clause-not_free : goal.put_back-requires-clause-not_free
put_back-requires-clause-not_free g c =
    let value = pages_value (g.M.Memory.device c.args.mem.now) (g.met.M.Memory.whole c.args.mem.now) c.args.heap.now c.args.lane c.args.dest.0 c.requires.may (sym (ap is_big_place c.requires.named) ∙ c.requires.big) c.requires.owned.0 c.requires.owned.1 c.args.first.0 c.descriptor.result.0 c.load-pages.result c.requires.named c.descriptor.ensures c.load-pages.ensures in
    let page = pages_page (g.M.Memory.device c.args.mem.now) (g.met.M.Memory.whole c.args.mem.now) c.args.heap.now c.args.lane c.args.dest.0 c.requires.may (sym (ap is_big_place c.requires.named) ∙ c.requires.big) c.requires.owned.0 c.requires.owned.1 c.args.first.0 c.requires.named in
    (pages_not_free (g.M.Memory.device c.args.mem.now) (g.met.M.Memory.whole c.args.mem.now) c.args.heap.now c.args.lane c.args.dest.0 c.requires.may (sym (ap is_big_place c.requires.named) ∙ c.requires.big) c.requires.owned.0 c.requires.owned.1 (record { first = c.args.first.0 / 512; pages = c.load-pages.result - 16 }) page.0 value.1).2

pub returns-clause-freed : goal.returns-clause-freed
returns-clause-freed g c =
    let value = pages_value (g.M.Memory.device c.args.mem.now) (g.met.M.Memory.whole c.args.mem.now) c.args.heap.now c.args.lane c.args.dest.0 c.requires.may (sym (ap is_big_place c.requires.named) ∙ c.requires.big) c.requires.owned.0 c.requires.owned.1 c.args.first.0 c.descriptor.result.0 c.load-pages.result c.requires.named c.descriptor.ensures c.load-pages.ensures in
    let page = pages_page (g.M.Memory.device c.args.mem.now) (g.met.M.Memory.whole c.args.mem.now) c.args.heap.now c.args.lane c.args.dest.0 c.requires.may (sym (ap is_big_place c.requires.named) ∙ c.requires.big) c.requires.owned.0 c.requires.owned.1 c.args.first.0 c.requires.named in
    let adds = run_adds c.args.heap.now c.put_back.new.self (record { first = c.args.first.0 / 512; pages = c.load-pages.result - 16 }) _ _ page.0 value.1 c.put_back.ensures.added c.put_back.ensures.well_formed c.put_back.ensures.page_count in
    pages_released (g.M.Memory.device c.args.mem.now) (g.met.M.Memory.whole c.args.mem.now) c.args.heap.now c.args.lane c.args.dest.0 c.requires.may (sym (ap is_big_place c.requires.named) ∙ c.requires.big) c.requires.owned.0 c.requires.owned.1 c.args.first.0 c.push_freeing.new.plan.left c.in_ok-plan.plan.left c.put_back.new.self c.requires.named c.push_freeing.ensures.left c.in_ok-plan.ensures.empty adds
    (record { each = λ class. ap (λ (xs : List (List ℕ)). get_or xs class []) c.put_back.ensures.rooms })
