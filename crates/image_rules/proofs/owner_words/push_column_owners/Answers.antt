use Rattle.std.proofs.Common.{◌++◌, ◌∙◌, ap, ℕ}
use Rattle.std.specs.Prelude.{Result, Ok, Err, IfOk}
use Rattle.image_layout.specs.Owners.{array_owners}
use Rattle.image_rules.proofs.OwnerWalk.{column_read, read}
use Rattle.image_rules.proofs.owner_words.push_column_owners.Goals as goal

pub returns : goal.returns
returns c = if_ok c.push_leaf_owners.result c.push_leaf_owners.ensures (λ leaves.
    column_read c.args.words.now c.args.column.0 c.args.owners.now.items c.push_array_owners.new.owners.items c.push_array_owners-2.new.owners.items c.push_leaf_owners.new.owners.items
    (c.in_ok-push_array_owners.ensures ∙ ap (λ (h : ℕ). c.args.owners.now.items ++ read c.args.words.now (array_owners c.args.words.now h)) c.codes_header.ensures)
    (c.in_ok-push_array_owners-2.ensures ∙ ap (λ (h : ℕ). c.push_array_owners.new.owners.items ++ read c.args.words.now (array_owners c.args.words.now h)) c.dictionary_header.ensures)
    leaves)
  where
    if_ok : {T E P Q : Type 0} (r : Result T E) → IfOk r (λ x. P) → (P → Q) → IfOk r (λ x. Q)
    if_ok (Ok x) holds then = then holds
    if_ok (Err e) holds then = holds
