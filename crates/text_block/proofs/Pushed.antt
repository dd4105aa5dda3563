-- The part of a writing in a plan: its stores, and then its end.
use Rattle.std.proofs.Common.{◌≡◌, ℕ, ◌+◌, ◌-◌, ◌<◌, ◌≤◌, List, ◌++◌, length, drop, append-nil, sym, ◌∙◌, ap, arith}
use Rattle.image_layout.specs.Trees.{text_words}
use Rattle.pm_model.specs.declared.action.Action.{Action}
use Rattle.pm_model.specs.Plans.{lines_of, part_actions, part_end, plan_of}
use Rattle.pm_model.proofs.Lines.{length-part_actions, length-part_end, part_has_room}
use Rattle.shown_state.specs.Mending.{fill_from}
use Rattle.text_block.specs.Blocks.{text_record, write_parts}
use Rattle.text_block.proofs.Filled.{filled_within, filled_last, filled_whole, length-fill_from}
use Rattle.text_block.proofs.ReadBack.{length-text_record}

module _ (old left : List Action) (at : ℕ) (bytes text : List ℕ) (same : bytes ≡ text) (pushed : left ≡ old ++ fill_from at (text_record bytes)) (count : ℕ) (counted : count ≡ text_words (length text)) where
  left_is : left ≡ old ++ fill_from at (text_record text)
  left_is = pushed ∙ ap (λ (xs : List ℕ). old ++ fill_from at (text_record xs)) same

  count_is : count ≡ length (text_record text)
  count_is = counted ∙ sym (length-text_record text)

  pub write_within : count ≤ length left
  write_within = filled_within old left at (text_record text) left_is count count_is

  pub write_room : (spare : ℕ) → count < spare → length (lines_of (drop (length left - count) left)) < spare
  write_room spare room = part_has_room left count spare write_within room

  whole_is : plan_of (write_parts at text) ≡ part_actions (fill_from at (text_record text))
  whole_is = append-nil (part_actions (fill_from at (text_record text)))

  pub write_left : (whole : List Action) → whole ≡ left ++ part_end (drop (length left - count) left) → whole ≡ old ++ plan_of (write_parts at text)
  write_left whole ended = filled_whole old left at (text_record text) left_is count count_is whole ended ∙ ap (λ (xs : List Action). old ++ xs) (sym whole_is)

  pub write_spare : (before spare after : ℕ) → spare + text_words (length text) ≡ before → after + length (part_end (drop (length left - count) left)) ≡ spare → after + length (plan_of (write_parts at text)) ≡ before
  write_spare before spare after stored ended =
      let last = ap (λ (xs : List Action). length (part_end xs)) (filled_last old left at (text_record text) left_is count count_is) in
      let whole = ap (length {A = Action}) whole_is in
      let all = length-part_actions (fill_from at (text_record text)) in
      let end = length-part_end (fill_from at (text_record text)) in
      let some = length-fill_from at (text_record text) in
      let size = length-text_record text in
      omega (arith, last, whole, all, end, some, size, stored, ended)
