-- The columns of a table, in its block and in its extensions.
use Rattle.std.proofs.Common.{◌≡◌, ⊎_elim, ℕ, ◌+◌, ◌%◌, ◌<◌, ◌≤◌, true, false, ltb, List, [], ◌∷◌, length, get_or, map, sym, ◌∙◌, ap, add-one, arith}
use Rattle.std.specs.Prelude.{None}
use Rattle.std.proofs.lemmas.Bool.{and_parts, cases_Bool, cond-true, cond-false, leb-true, ltb-true}
use Rattle.image_layout.specs.Places.{below, place_in, is_pointer, is_pointer_to, is_in_segment}
use Rattle.image_layout.specs.Records.{extension_words}
use Rattle.image_layout.specs.Tables.{NamesExtension, extension_count, extension_of, extension_pointer_at, is_first_version}
use Rattle.image_layout.specs.Checks.{first_failing}
use Rattle.image_layout.specs.EntryRules.{extension_checks, extension_pointer_check, last_pointer_check}
use Rattle.image_layout.proofs.Faults.{all_hold}
use Rattle.image_layout.proofs.TableParts.{first_inner}
use Rattle.image_rules.specs.Parts.{pointer_checks}
use Rattle.image_rules.proofs.Firsts.{map_holds, none-append}

module _ (words : List ℕ) (block : ℕ) where
  pub next_extension : (extension : ℕ) → extension_pointer_at words block (extension + 1) ≡ extension_of words block extension
  next_extension extension = ap (extension_pointer_at words block) (add-one extension)

  pub checks_first : is_first_version words ≡ true → extension_checks words block ≡ []
  unfolding extension_checks
  checks_first first = cond-true (is_first_version words) [] (pointer_checks words block (extension_count words block)) first

  pub checks_later : is_first_version words ≡ false → extension_checks words block ≡ pointer_checks words block (extension_count words block)
  unfolding extension_checks
  checks_later later = cond-false (is_first_version words) [] (pointer_checks words block (extension_count words block)) later

  -- where none of the checks fails, each pointer names words of the image
  pub each_extension : length words % 32768 ≡ 0 → first_failing (extension_checks words block) ≡ None → (extension : ℕ) → extension < extension_count words block → NamesExtension words block extension
  each_extension whole none extension lt = ⊎_elim
      (λ first. let same = first_inner words block first in absurd (omega (arith, lt, same)))
      (λ later. named later)
      (cases_Bool (is_first_version words))
    where
      fits : (place count size : ℕ) → size % 32768 ≡ 0 → place < size → place % 32768 + count ≤ 32768 → place + count ≤ size
      fits place count size whole inside within = omega arith

      named : is_first_version words ≡ false → NamesExtension words block extension
      named later =
          let count = extension_count words block in
          let word : ℕ = get_or words (extension_pointer_at words block extension) 0 in
          let pointers = (none-append (map (extension_pointer_check words block) (below count)) (last_pointer_check words block ∷ []) (ap first_failing (sym (checks_later later)) ∙ none)).0 in
          let holds = map_holds (extension_pointer_check words block) count (all_hold (map (extension_pointer_check words block) (below count)) pointers) extension lt in
          let parts = and_parts (is_pointer words word) (is_in_segment (place_in word) extension_words) (and_parts (is_pointer_to words extension_words word) _ holds).0 in
          record {
            pointer = parts.0;
            within = fits (place_in word) extension_words (length words) whole (ltb-true (place_in word) (length words) (and_parts _ (ltb (place_in word) (length words)) parts.0).1) (leb-true _ 32768 parts.1);
          }
