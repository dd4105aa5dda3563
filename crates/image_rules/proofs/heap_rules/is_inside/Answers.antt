use Rattle.std.proofs.Common.{◌≡◌, ℕ, ◌*◌, ◌/◌, ◌%◌, sym, ◌∙◌, ap, arith}
use Rattle.image_layout.specs.Blocks.{inside_at}
use Rattle.image_rules.proofs.HeapChecks.{inside-is, inside-step}
use Rattle.image_rules.proofs.heap_rules.is_inside.Goals as goal

pub loop-before-init : goal.loop-before-init
loop-before-init c =
    let first : (c.args.page / 64 * 64) % 64 ≡ 0 = omega arith in
    sym (ap (inside_at c.args.words.now (c.args.page / 64 * 64 / 64)) first)

pub loop-before-preserved : goal.loop-before-preserved
loop-before-preserved c = inside-step c.args.words.now c.loop-before.before c.loop-before.inside c.descriptor_place.result c.left_behind-inside.result c.loop-before.invariant c.descriptor_place.ensures c.left_behind-inside.ensures

pub returns : goal.returns
returns c =
    let last : c.loop-before.before ≡ c.args.page = omega (arith, c.loop-before-test.false, c.loop-before.auto.before-end (omega arith)) in
    sym (inside-is c.args.words.now c.args.page c.loop-before.inside (c.loop-before.invariant ∙ ap (λ (b : ℕ). inside_at c.args.words.now (b / 64) (b % 64)) last))
