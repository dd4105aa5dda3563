use Rattle.std.proofs.Common.{◌≡◌, ◌∙◌, ℕ, ◌++◌, length, ap, subst, arith, [], ◌∷◌}
use Rattle.std.proofs.lemmas.List.{length-append}
use Rattle.pm_model.specs.declared.action.Action.TheVariants.{Store}
use Rattle.pm_model.specs.Plans.{store}
use Rattle.pm_model.specs.declared.action.Action.{Action}
use Rattle.pm_model.specs.Plans.{plan_of}
use Rattle.pm_model.proofs.Lines.{part_has_room}
use Rattle.seg_array.specs.Growth.{publishing_parts}
use Rattle.seg_array.proofs.Lengths.{published_left, punched_within, punched_lines, punched_end}
use Rattle.seg_array.proofs.grow.push_publishing.Goals as goal

pub end_part-requires-clause-count : goal.end_part-requires-clause-count
end_part-requires-clause-count c = punched_within c.args.plan.now.left c.push_punches.new.plan.left c.args.first c.chunk_pages-pages.result c.push_punches.ensures.left

pub end_part-requires-clause-room : goal.end_part-requires-clause-room
end_part-requires-clause-room c =
    let none = punched_lines c.args.plan.now.left c.push_punches.new.plan.left c.args.first c.chunk_pages-pages.result c.push_punches.ensures.left in
    omega (arith, none, c.push_punches.ensures.spare, c.chunk_pages-pages.ensures.pages, c.requires.room)

pub push-requires : goal.push-requires
push-requires c =
    let end = ap (length {A = Action}) (punched_end c.args.plan.now.left c.push_punches.new.plan.left c.args.first c.chunk_pages-pages.result c.push_punches.ensures.left) in
    omega (arith, end, c.end_part.ensures.spare, c.push_punches.ensures.spare, c.chunk_pages-pages.ensures.pages, c.requires.room)

pub end_part-requires-2-clause-room : goal.end_part-requires-2-clause-room
end_part-requires-2-clause-room c =
    let end = ap (length {A = Action}) (punched_end c.args.plan.now.left c.push_punches.new.plan.left c.args.first c.chunk_pages-pages.result c.push_punches.ensures.left) in
    let some = ap (length {A = Action}) c.push.ensures.left in
    part_has_room c.push.new.self.left 1 c.push.new.self.spare (omega (arith, some, length-append c.end_part.new.self.left (Store c.args.header c.from.result ∷ [])))
    (omega (arith, end, c.push.ensures.spare, c.end_part.ensures.spare, c.push_punches.ensures.spare, c.chunk_pages-pages.ensures.pages, c.requires.room))

pub returns : goal.returns
returns c =
    subst (λ (n : ℕ). c.end_part-2.new.self.left ≡ c.args.plan.now.left ++ plan_of (publishing_parts c.args.header.0 c.args.count c.args.first n)) c.chunk_pages-pages.ensures.pages
    (published_left c.args.plan.now.left c.push_punches.new.plan.left c.args.first c.chunk_pages-pages.result c.push_punches.ensures.left
    c.end_part.new.self.left c.end_part.ensures.left c.args.header.0 c.args.count c.push.new.self.left c.end_part-2.new.self.left (c.push.ensures.left ∙ ap (λ (n : ℕ). c.end_part.new.self.left ++ store c.args.header.0 n ∷ []) c.from.ensures) c.end_part-2.ensures.left)
