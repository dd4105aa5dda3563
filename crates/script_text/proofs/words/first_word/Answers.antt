use Rattle.std.proofs.Common.{List, ℕ, ◌∷◌, ap, sym, ◌∙◌}
use Rattle.std.specs.Prelude.{option_map}
use Rattle.script_text.specs.Words.{words_of}
use Rattle.script_text.proofs.Splitting.{front_is, words_of-at}
use Rattle.script_text.proofs.words.first_word.Goals as goal

pub returns-clause-some : goal.returns-clause-some
returns-clause-some c =
    let rest = c.without_blanks-rest.result.now in
    let tail = c.range_from.result.now in
    c.without_blanks-rest.ensures.words
    ∙ words_of-at c.as_bytes.result.now rest tail c.in_ok-end.end c.as_bytes.ensures.value c.range_from.ensures.value c.in_ok-end.ensures.word
    ∙ ap (λ (front : List ℕ). option_map (λ (words : List (List ℕ)). front ∷ words) (words_of tail)) (sym (front_is rest c.range.result.now c.in_ok-end.end c.range.ensures.value))
