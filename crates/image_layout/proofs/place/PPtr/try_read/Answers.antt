use Rattle.std.proofs.Common.{◌≡◌, inr, ◌+◌, ◌-◌, ◌*◌, ◌/◌, ◌%◌, ◌^◌, ◌<◌, refl, arith}
use Rattle.image_layout.specs.Pointer.{pointer_word}
use Rattle.image_layout.proofs.place.PPtr.try_read.Goals as goal

pub returns-then-place-from-clause-pointer : goal.returns-then-place-from-clause-pointer
returns-then-place-from-clause-pointer c =
    let place = (c.args.word / 2 ^ 32 - 1) * 32768 + c.args.word % 2 ^ 32 in
    let below : place < c.args.words = omega arith in
    let same : c.args.word ≡ pointer_word place = omega arith in
    (λ _. inr (place, below, same), λ _. refl)
