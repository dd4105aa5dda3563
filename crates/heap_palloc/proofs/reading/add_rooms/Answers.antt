use Rattle.std.proofs.Common.{ℕ, ◌+◌, List, refl, sym, ◌∙◌, subst, arith}
use Rattle.std.specs.Prelude.{Contains}
use Rattle.image_layout.specs.Places.{page_count}
use Rattle.heap_big.specs.Pages.{IsRising}
use Rattle.heap_palloc.specs.Index.{has_room, rooms_of}
use Rattle.heap_big.proofs.Rising.{rising-lower}
use Rattle.heap_palloc.proofs.Scans.{rooms_start, rooms_step, rooms_rise, small_in, small_rise, popped, contains_front, contains_last}
use Rattle.heap_palloc.proofs.reading.add_rooms.Goals as goal

pub loop-page-init : goal.loop-page-init
loop-page-init g c = record {
  bound = page_count (g.M.Memory.device c.args.mem.now).cached;
  small_rises = small_rise (g.M.Memory.device c.args.mem.now).cached c.args.small.items c.requires.small;
  rooms_rise = λ class lt. subst (λ (xs : List ℕ). IsRising (page_count (g.M.Memory.device c.args.mem.now).cached) xs 8192) (sym (c.requires.none class)) (let most = (g.met.M.Memory.whole c.args.mem.now).most in omega (arith, most));
  rooms = λ class lt. rooms_start (g.M.Memory.device c.args.mem.now).cached class c.args.small.items (rooms_of c.args.heap.now class) c.requires.small (c.requires.none class);
  are_small = λ page has. small_in (g.M.Memory.device c.args.mem.now).cached page (subst (λ (xs : List ℕ). Contains xs page) c.requires.small has);
  free = refl;
}

pub add_room-requires-clause-in_image : goal.add_room-requires-clause-in_image
add_room-requires-clause-in_image g c = (c.loop-page.invariant.are_small c.in-Some.page (contains_last c.loop-page.small.items c.pop.new.self.items c.in-Some.page c.in-Some.ensures.items)).0

pub add_room-requires-clause-small : goal.add_room-requires-clause-small
add_room-requires-clause-small g c = (c.loop-page.invariant.are_small c.in-Some.page (contains_last c.loop-page.small.items c.pop.new.self.items c.in-Some.page c.in-Some.ensures.items)).1

pub add_room-requires-clause-rising : goal.add_room-requires-clause-rising
add_room-requires-clause-rising g c = λ class lt.
    let inv = c.loop-page.invariant in
    let below = (popped c.loop-page.small.items c.pop.new.self.items c.in-Some.page inv.bound c.in-Some.ensures.items inv.small_rises).1 in
    rising-lower inv.bound (c.in-Some.page + 1) (rooms_of c.loop-page.heap class) 8192 (omega (arith, below)) (inv.rooms_rise class lt)

pub loop-page-preserved : goal.loop-page-preserved
loop-page-preserved g c =
    let inv = c.loop-page.invariant in
    let both = popped c.loop-page.small.items c.pop.new.self.items c.in-Some.page inv.bound c.in-Some.ensures.items inv.small_rises in
    record {
      bound = c.in-Some.page;
      small_rises = both.0;
      rooms_rise = λ class lt. rooms_rise inv.bound c.in-Some.page (rooms_of c.loop-page.heap class) (rooms_of c.add_room.new.heap class) (has_room (g.M.Memory.device c.args.mem.now).cached class c.in-Some.page) both.1 (inv.rooms_rise class lt) (c.add_room.ensures.rooms class lt);
      rooms = λ class lt. rooms_step (g.M.Memory.device c.args.mem.now).cached class c.in-Some.page c.loop-page.small.items c.pop.new.self.items (rooms_of c.loop-page.heap class) (rooms_of c.add_room.new.heap class) c.in-Some.ensures.items (inv.rooms class lt) (c.add_room.ensures.rooms class lt);
      are_small = λ page has. inv.are_small page (contains_front c.loop-page.small.items c.pop.new.self.items c.in-Some.page page c.in-Some.ensures.items has);
      free = c.add_room.ensures.free ∙ inv.free;
    }
