use Rattle.std.proofs.Common.{List, ◌++◌, sym, ◌∙◌, ap, arith}
use Rattle.std.proofs.lemmas.Bool.{eqb-true, eqb-false}
use Rattle.pm_model.specs.Plans.{Part, plan_of, unless_empty}
use Rattle.pmem_recover.specs.declared.change.WordChange.{WordChange}
use Rattle.pmem_recover.specs.Changes.{change_part}
use Rattle.pmem_recover.proofs.Parts.{end-room, end-length, ended, nothing-left, length-part}
use Rattle.pmem_recover.proofs.part.push_part.Goals as goal
use Rattle.pmem_recover.proofs.part.push_part.Goals.{then-not-is_empty, else-not-is_empty}

pub overflow_cast-len : goal.overflow_cast-len
overflow_cast-len g c = omega (arith, c.len.ensures, c.in_ok-needed.ensures.few, c.requires.few)

pub end_part-requires-clause-room : goal.end_part-requires-clause-room
end_part-requires-clause-room g c =
    let size = length-part c.in_ok-needed.needed.items in
    end-room c.args.plan.now.left c.push_stores.new.plan.left (change_part c.in_ok-needed.needed.items) c.len.result
    (c.push_stores.ensures.left ∙ ap (λ (cs : List WordChange). c.args.plan.now.left ++ change_part cs) c.deref.ensures.value) (omega (arith, c.len.ensures, size)) c.push_stores.new.plan.spare
    (omega (arith, size, c.push_stores.ensures.spare, c.deref.ensures.len, c.in_ok-needed.ensures.few, c.requires.room))

pub returns-clause-left : goal.returns-clause-left
returns-clause-left g c = let size = length-part c.in_ok-needed.needed.items in
    elim c.if-not-is_empty.branch [
      | then-not-is_empty w ↦ ap (λ plan. plan.left) w.plan-is
          ∙ ended c.args.plan.now.left w.push_stores.new.plan.left (change_part c.in_ok-needed.needed.items) w.len.result
          (w.push_stores.ensures.left ∙ ap (λ (cs : List WordChange). c.args.plan.now.left ++ change_part cs) w.deref.ensures.value) (omega (arith, w.len.ensures, size)) w.end_part.new.self.left w.end_part.ensures.left
          (λ none. eqb-false _ 0 (sym c.is_empty.ensures ∙ w.if-not-is_empty.true) (omega (arith, none, size)))
          ∙ ap (λ (p : Part). c.args.plan.now.left ++ plan_of (unless_empty p)) c.in_ok-needed.ensures.needed
      | else-not-is_empty w ↦ ap (λ plan. plan.left) w.plan-is ∙ nothing-left c.args.plan.now.left (change_part c.in_ok-needed.needed.items) (omega (arith, size, eqb-true _ 0 (sym c.is_empty.ensures ∙ w.if-not-is_empty.false)))
          ∙ ap (λ (p : Part). c.args.plan.now.left ++ plan_of (unless_empty p)) c.in_ok-needed.ensures.needed
    ]

pub returns-clause-spare : goal.returns-clause-spare
returns-clause-spare g c = let size = length-part c.in_ok-needed.needed.items in
    elim c.if-not-is_empty.branch [
      | then-not-is_empty w ↦ let at_end = end-length c.args.plan.now.left w.push_stores.new.plan.left (change_part c.in_ok-needed.needed.items) w.len.result
          (w.push_stores.ensures.left ∙ ap (λ (cs : List WordChange). c.args.plan.now.left ++ change_part cs) w.deref.ensures.value) (omega (arith, w.len.ensures, size)) in
          omega (arith, ap (λ plan. plan.spare) w.plan-is, at_end, size, w.end_part.ensures.spare, w.push_stores.ensures.spare, w.deref.ensures.len, c.in_ok-needed.ensures.few)
      | else-not-is_empty w ↦ omega (arith, ap (λ plan. plan.spare) w.plan-is)
    ]
