use Rattle.std.proofs.Common.{◌≡◌, ◌*◌, length, arith}
use Rattle.std.proofs.lemmas.List.{with_items_is}
use Rattle.engine_core.proofs.StageImage.{stage_words_is}
use Rattle.engine_core.proofs.stage.stage_fresh.Goals as goal

pub returns-clause-words : goal.returns-clause-words
returns-clause-words c =
    let size : length c.in_ok-words.words.items ≡ 32768 * c.args.segments = omega (arith, c.in_ok-words.ensures.size) in
    rw (with_items_is c.in_ok-words.words c.make_stage.new.words (omega arith))
    (stage_words_is c.args.segments c.make_stage.new.words c.in_ok-words.words.items (omega arith) c.in_ok-words.ensures.words (λ w. rw c.deref_mut.ensures.value at (c.make_stage.ensures w)))
