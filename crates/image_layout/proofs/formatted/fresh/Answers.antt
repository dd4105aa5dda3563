use Rattle.std.proofs.Common.{◌≡◌, ℕ, ◌*◌, length, ap, arith}
use Rattle.std.proofs.lemmas.List.{with_items_is, length-replicate}
use Rattle.image_layout.proofs.FreshImage.{fresh_words_is}
use Rattle.image_layout.proofs.formatted.fresh.Goals as goal

pub returns-clause-words : goal.returns-clause-words
returns-clause-words c =
    let zeros = c.in_ok-words.ensures.items_if_clones_equal (λ y e. e) in
    let size : length c.in_ok-words.words.items ≡ 32768 * c.args.segments = omega (arith, ap length zeros, length-replicate {A = ℕ}) in
    rw (with_items_is c.in_ok-words.words c.format_words.new.words (omega arith))
    (fresh_words_is c.args.segments c.format_words.new.words (omega arith) (λ w lt. c.format_words.ensures w (omega arith)))

pub returns-clause-size : goal.returns-clause-size
returns-clause-size c =
    let zeros = c.in_ok-words.ensures.items_if_clones_equal (λ y e. e) in
    let size : length c.in_ok-words.words.items ≡ 32768 * c.args.segments = omega (arith, ap length zeros, length-replicate {A = ℕ}) in
    rw (with_items_is c.in_ok-words.words c.format_words.new.words (omega arith)) (omega arith)
