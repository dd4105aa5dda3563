use Rattle.std.proofs.Common.{◌≡◌, ◌∙◌, [], ◌∷◌, ◌++◌, length, ap, subst, arith}
use Rattle.std.specs.Prelude.{IfSome}
use Rattle.pm_model.proofs.Cuts.{length-finished}
use Rattle.catalog.specs.Entries.{CatalogState}
use Rattle.tree_ground.proofs.Created.{created_parts, first_block, is_column, within}
use Rattle.tree_ground.proofs.column.create.Goals as goal

pub play_whole-requires-clause-planned : goal.play_whole-requires-clause-planned
play_whole-requires-clause-planned g c =
    created_parts (g.M.Memory.device c.args.memory.now) (g.met.M.Memory.whole c.args.memory.now) c.args.heap.now c.requires.settled c.plan_create.new.heap c.in-Some-Some.name c.in-Some-Some.shape c.in_ok-plan.ensures.planned.0 c.in_ok-plan.plan.left c.in_ok-plan.ensures.planned.1 c.in-Some-Some.ensures'

pub column-at-requires : goal.column-at-requires
column-at-requires g c =
    let whole = g.met.M.Memory.whole c.args.memory.now in
    let made = subst (λ (state : CatalogState). IfSome state.planned (λ table. c.published.new.self.tables ≡ state.tables ++ table ∷ [])) c.in_ok-plan.ensures.planned.2 c.published.ensures.tables in
    let block = first_block c.args.catalog.now.tables c.published.new.self.tables _ c.block.result.0 (omega (arith, c.count.ensures.count, c.if-count-ne0.false)) made c.block.ensures in
    let inside = within (g.M.Memory.device c.args.memory.now) whole c.args.heap.now c.requires.settled c.plan_create.new.heap c.in-Some-Some.name c.in-Some-Some.shape c.in_ok-plan.ensures.planned.0 c.in_ok-plan.plan.left c.in_ok-plan.ensures.planned.1 c.in-Some-Some.ensures' in
    let most = whole.most in
    omega (arith, block, inside, most)

pub is_empty_column-requires : goal.is_empty_column-requires
is_empty_column-requires g c =
    let whole = g.met.M.Memory.whole c.args.memory.now in
    let made = subst (λ (state : CatalogState). IfSome state.planned (λ table. c.published.new.self.tables ≡ state.tables ++ table ∷ [])) c.in_ok-plan.ensures.planned.2 c.published.ensures.tables in
    let block = first_block c.args.catalog.now.tables c.published.new.self.tables _ c.block.result.0 (omega (arith, c.count.ensures.count, c.if-count-ne0.false)) made c.block.ensures in
    let inside = within (g.M.Memory.device c.args.memory.now) whole c.args.heap.now c.requires.settled c.plan_create.new.heap c.in-Some-Some.name c.in-Some-Some.shape c.in_ok-plan.ensures.planned.0 c.in_ok-plan.plan.left c.in_ok-plan.ensures.planned.1 c.in-Some-Some.ensures' in
    let parts = created_parts (g.M.Memory.device c.args.memory.now) whole c.args.heap.now c.requires.settled c.plan_create.new.heap c.in-Some-Some.name c.in-Some-Some.shape c.in_ok-plan.ensures.planned.0 c.in_ok-plan.plan.left c.in_ok-plan.ensures.planned.1 c.in-Some-Some.ensures' in
    let size = ap length (c.play_whole.ensures.words parts.0 parts.1 parts.2) ∙ length-finished parts.0 (g.M.Memory.device c.args.memory.now).cached in
    omega (arith, block, inside, size, c.column-at.ensures)

pub returns : goal.returns
returns g c =
    let whole = g.met.M.Memory.whole c.args.memory.now in
    let made = subst (λ (state : CatalogState). IfSome state.planned (λ table. c.published.new.self.tables ≡ state.tables ++ table ∷ [])) c.in_ok-plan.ensures.planned.2 c.published.ensures.tables in
    let block = first_block c.args.catalog.now.tables c.published.new.self.tables _ c.block.result.0 (omega (arith, c.count.ensures.count, c.if-count-ne0.false)) made c.block.ensures in
    let parts = created_parts (g.M.Memory.device c.args.memory.now) whole c.args.heap.now c.requires.settled c.plan_create.new.heap c.in-Some-Some.name c.in-Some-Some.shape c.in_ok-plan.ensures.planned.0 c.in_ok-plan.plan.left c.in_ok-plan.ensures.planned.1 c.in-Some-Some.ensures' in
    let size = ap length (c.play_whole.ensures.words parts.0 parts.1 parts.2) ∙ length-finished parts.0 (g.M.Memory.device c.args.memory.now).cached in
    let empty = c.is_empty_column.ensures c.if-not-is_empty_column.false in
    is_column (g.M.Memory.device c.args.memory.now) whole c.args.heap.now c.requires.settled c.plan_create.new.heap c.in-Some-Some.name c.in-Some-Some.shape c.in_ok-plan.ensures.planned.0 c.in_ok-plan.plan.left c.in_ok-plan.ensures.planned.1 c.in-Some-Some.ensures'
    (g.M.Memory.device c.play_whole.new.memory) c.play_whole.ensures.words size c.column-at.result.0 (omega (arith, block, c.column-at.ensures)) empty.integers empty.first empty.quiet empty.idle c.play_whole.ensures.clean
