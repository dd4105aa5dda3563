use Rattle.std.proofs.Common.{◌≡◌, ◌+◌, ℕ, true, false, List, get_or, sym, ◌∙◌, ap}
use Rattle.std.proofs.lemmas.Bool.{eq-eqb, ne_eqb}
use Rattle.image_layout.specs.Tables.{inner_columns, is_first_version}
use Rattle.image_layout.proofs.TableParts.{first_inner, second_inner}
use Rattle.catalog.proofs.reading.inner_counter.Goals as goal

pub returns-then-load-eq-FIRST_VERSION-clause-count : goal.returns-then-load-eq-FIRST_VERSION-clause-count
returns-then-load-eq-FIRST_VERSION-clause-count g c =
    let words : List ℕ = (g.M.Memory.device c.args.mem.now).cached in
    let first : is_first_version words ≡ true = eq-eqb (get_or words 513 0) 1 (sym (c.load.ensures ∙ ap (λ (p : ℕ). get_or words p 0) c.version.ensures) ∙ c.if-load-eq-FIRST_VERSION.true) in
    ap (λ (p : ℕ). get_or words p 0) c.column_count.ensures ∙ sym (first_inner words c.args.block.0 first)

module _ (words : List ℕ) (block version at load : ℕ) (version_is : version ≡ 513) (at_is : at ≡ block + 6) (load_is : load ≡ get_or words version 0) (other : load ≡ 1 → ⊥) where
  inner_read : get_or words at 0 ≡ inner_columns words block
  inner_read =
      let later : is_first_version words ≡ false = ne_eqb (get_or words 513 0) 1 (λ one. other (load_is ∙ ap (λ (p : ℕ). get_or words p 0) version_is ∙ one)) in
      ap (λ (p : ℕ). get_or words p 0) at_is ∙ sym (second_inner words block later)

pub returns-clause-count : goal.returns-clause-count
returns-clause-count g c =
    let words : List ℕ = (g.M.Memory.device c.args.mem.now).cached in
    inner_read words c.args.block.0 c.version.result.0 c.inner_columns.result.0 c.load.result c.version.ensures c.inner_columns.ensures c.load.ensures c.if-load-eq-FIRST_VERSION.false
