use Rattle.std.proofs.Common.{◌∙◌, ℕ, List, length, ap, arith}
use Rattle.image_layout.specs.Trees.{text_words}
use Rattle.text_block.proofs.Pushed.{write_within, write_room, write_left, write_spare}
use Rattle.text_block.proofs.writing.push_write.Goals as goal

pub end_part-requires-clause-count : goal.end_part-requires-clause-count
end_part-requires-clause-count c =
    let same = c.as_bytes-bytes.ensures.value ∙ c.as_str.ensures.text in
    write_within c.args.plan.now.left c.push_words.new.plan.left c.args.at.0 c.as_bytes-bytes.result.now c.args.text.now same c.push_words.ensures.left c.words_of.result (c.words_of.ensures ∙ ap (λ (xs : List ℕ). text_words (length xs)) same)

pub end_part-requires-clause-room : goal.end_part-requires-clause-room
end_part-requires-clause-room c =
    let same = c.as_bytes-bytes.ensures.value ∙ c.as_str.ensures.text in
    let size = ap (length {A = ℕ}) same in
    write_room c.args.plan.now.left c.push_words.new.plan.left c.args.at.0 c.as_bytes-bytes.result.now c.args.text.now same c.push_words.ensures.left c.words_of.result (c.words_of.ensures ∙ ap (λ (xs : List ℕ). text_words (length xs)) same)
    c.push_words.new.plan.spare (omega (arith, c.requires.room, c.push_words.ensures.spare, c.words_of.ensures, size))

pub returns-clause-left : goal.returns-clause-left
returns-clause-left c =
    let same = c.as_bytes-bytes.ensures.value ∙ c.as_str.ensures.text in
    write_left c.args.plan.now.left c.push_words.new.plan.left c.args.at.0 c.as_bytes-bytes.result.now c.args.text.now same c.push_words.ensures.left c.words_of.result (c.words_of.ensures ∙ ap (λ (xs : List ℕ). text_words (length xs)) same)
    c.end_part.new.self.left c.end_part.ensures.left

pub returns-clause-spare : goal.returns-clause-spare
returns-clause-spare c =
    let same = c.as_bytes-bytes.ensures.value ∙ c.as_str.ensures.text in
    let size = ap (length {A = ℕ}) same in
    write_spare c.args.plan.now.left c.push_words.new.plan.left c.args.at.0 c.as_bytes-bytes.result.now c.args.text.now same c.push_words.ensures.left c.words_of.result (c.words_of.ensures ∙ ap (λ (xs : List ℕ). text_words (length xs)) same)
    c.args.plan.now.spare c.push_words.new.plan.spare c.end_part.new.self.spare (omega (arith, c.push_words.ensures.spare, size)) c.end_part.ensures.spare
