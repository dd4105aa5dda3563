use Rattle.std.proofs.Common.{◌≡◌, ℕ, ◌&&◌, get_or, ltb, map, ◌+◌, sym, ◌∙◌, ap, subst, arith}
use Rattle.std.specs.Prelude.{Option, filter}
use Rattle.std.specs.List.{list_all}
use Rattle.image_layout.specs.Places.{below}
use Rattle.image_layout.specs.Records.{key_at}
use Rattle.image_rules.specs.BuiltTrees.{is_above, is_used}
use Rattle.image_rules.proofs.Gathered.{Greatest, greatest_more, greatest_same}
use Rattle.image_rules.proofs.pair_rules.greatest_key.Goals as goal
use Rattle.image_rules.proofs.pair_rules.greatest_key.Goals.{then-is_used, else-is_used}

pub loop-slot-preserved : goal.loop-slot-preserved
loop-slot-preserved c =
    let words = c.args.words.now in
    elim c.if-is_used.branch [
      | then-is_used w ↦
          subst (λ (found : Option ℕ). Greatest words c.args.leaf c.args.greatest found (c.loop-slot.slot + 1)) (sym w.found-is)
          (greatest_more words c.args.leaf c.args.greatest c.loop-slot.found w.greater-found.result c.loop-slot.slot (get_or words w.key_place.result 0) (sym c.is_used.ensures ∙ w.if-is_used.true)
          (ap (λ (p : ℕ). get_or words p 0) w.key_place.ensures) c.loop-slot.invariant w.greater-found.ensures)
      | else-is_used w ↦
          subst (λ (found : Option ℕ). Greatest words c.args.leaf c.args.greatest found (c.loop-slot.slot + 1)) (sym w.found-is)
          (greatest_same words c.args.leaf c.args.greatest c.loop-slot.found c.loop-slot.slot (sym c.is_used.ensures ∙ w.if-is_used.false) c.loop-slot.invariant)
    ]

pub returns : goal.returns
returns c key =
    let over : c.loop-slot.slot ≡ 48 = omega (arith, c.loop-slot-test.false, c.loop-slot.auto.slot-end) in
    c.loop-slot.invariant key
    ∙ ap (λ (k : ℕ). is_above c.args.greatest key && list_all (λ other. ltb other key) (map (λ slot. get_or c.args.words.now (key_at c.args.leaf slot) 0) (filter (is_used c.args.words.now c.args.leaf) (below k)))) over
