-- The one law of all ways of an allocation, and that of a freeing.
use Rattle.std.proofs.Common.{ℕ, List, length}
use Rattle.pm_model.specs.Plans.{IsPlan}
use Rattle.heap_palloc.specs.Law.{Allocates, Frees, pages_allocation}
use Rattle.heap_palloc.specs.Choice.{Choice, in_page, on_new_page, in_run, choice_allocation, choice_parts, choice_page, choice_pages, choice_block, MayMake, Freed, of_slot, of_pages, freed_allocation, freed_parts, freed_page, freed_pages, freed_block, MayRelease}
use Rattle.heap_palloc.proofs.SlotPlans.{take_slot_allocates}
use Rattle.heap_palloc.proofs.PagePlans.{new_slot_allocates, free_slot_frees_all}
use Rattle.heap_palloc.proofs.BigPlans.{pages_placed, free_pages_frees}
use Rattle.heap_palloc.proofs.GivenBack.{take_run_plan, take_run_allocates}
use Rattle.heap_palloc.proofs.Survival.{take_slot_plan, new_slot_plan, free_slot_plan, freeing_plan}

pub choice_plan : (base : List ℕ) (choice : Choice) → MayMake base choice → IsPlan (length base) (choice_parts base choice)
choice_plan base (in_page s) may = take_slot_plan base s may
choice_plan base (on_new_page s) may = new_slot_plan base s may
choice_plan base (in_run r) may = take_run_plan base r may

pub choice_allocates : (base : List ℕ) (choice : Choice) → MayMake base choice → Allocates (choice_allocation base choice) (choice_page choice) (choice_pages choice) (choice_block choice).words (choice_parts base choice) base
choice_allocates base (in_page s) may = take_slot_allocates base s may
choice_allocates base (on_new_page s) may = new_slot_allocates base s may
choice_allocates base (in_run r) may = take_run_allocates base r may

pub freed_plan : (base : List ℕ) (freed : Freed) → MayRelease base freed → IsPlan (length base) (freed_parts base freed)
freed_plan base (of_slot s) may = free_slot_plan base s may
freed_plan base (of_pages r) may = freeing_plan (length base) (pages_allocation r) (pages_placed base r may.idle may.run) 0

pub freed_frees : (base : List ℕ) (freed : Freed) → MayRelease base freed → Frees (freed_allocation base freed) (freed_page freed) (freed_pages freed) (freed_block freed).words (freed_parts base freed) base
freed_frees base (of_slot s) may = free_slot_frees_all base s may
freed_frees base (of_pages r) may = free_pages_frees base r may
