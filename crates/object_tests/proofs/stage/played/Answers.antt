use Rattle.std.proofs.Common.{◌≡◌, ℕ, length, sym, ap, subst, arith}
use Rattle.std.proofs.lemmas.List.{length-replicate}
use Rattle.pm_model.specs.Device.{Device}
use Rattle.pm_model.specs.Plans.{MayPlay}
use Rattle.object_tests.proofs.stage.played.Goals as goal

pub play_and_look-seen-requires : goal.play_and_look-seen-requires
play_and_look-seen-requires c =
    let zeros = c.in_ok-words.ensures.items_if_clones_equal (λ y e. e) in
    let size : length c.in_ok-words.words.items ≡ 32768 = omega (arith, ap length zeros, length-replicate {A = ℕ}) in
    subst (λ (d : Device). MayPlay 3 c.in_ok-plan.plan.left d) (sym c.in_ok-memory.ensures) (c.in_ok-plan.ensures c.in_ok-words.words.items size)
