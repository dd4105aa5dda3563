use Rattle.std.proofs.Common.{◌∙◌, ap, sym, rules, arith}
use Rattle.pm_model.specs.Plans.{at_rest}
use Rattle.pm_model.specs.Device.{Device, IsWhole}
use Rattle.engine_core.proofs.OpenedCore.{rules-none, kept-opened, accepted-opened, device-opened, refused-entry, refused-stamp, never-refused}
use Rattle.engine_core.proofs.store_core.Core.from_memory.Goals as goal

pub mend_all-requires-clause-rules : goal.mend_all-requires-clause-rules
mend_all-requires-clause-rules g c =
    let whole : IsWhole (g.M.Memory.device c.args.memory) = search rules in
    rules-none (g.M.Memory.device c.args.memory).cached whole.one_or_more c.broken_entry_rule.result c.broken_entry_rule.ensures c.in_default.is

pub invariant_of-result : goal.invariant_of-result
invariant_of-result g c =
    let whole : IsWhole (g.M.Memory.device c.args.memory) = search rules in
    let words = (g.M.Memory.device c.args.memory).cached in
    let kept = kept-opened words c.in_ok-opened.opened.items (g.M.Memory.device c.mend_all.new.memory) whole.one_or_more
    (rules-none words whole.one_or_more c.broken_entry_rule.result c.broken_entry_rule.ensures c.in_default.is)
    c.in_ok-mend_all.ensures (sym c.in_default-bad_stamp.is ∙ c.bad_stamp.ensures) c.in_ok-opened.ensures.words in
    (rw (c.new.ensures.items, c.none.ensures) kept, omega (arith, c.new.ensures.len), c.stage_shape.ensures)

pub returns-clause-accepted : goal.returns-clause-accepted
returns-clause-accepted g c =
    let whole : IsWhole (g.M.Memory.device c.args.memory) = search rules in
    let words = (g.M.Memory.device c.args.memory).cached in
    accepted-opened words (g.M.Memory.device c.mend_all.new.memory) whole.one_or_more
    (rules-none words whole.one_or_more c.broken_entry_rule.result c.broken_entry_rule.ensures c.in_default.is) c.in_ok-mend_all.ensures (sym c.in_default-bad_stamp.is ∙ c.bad_stamp.ensures)

pub returns-clause-device : goal.returns-clause-device
returns-clause-device g c =
    let whole : IsWhole (g.M.Memory.device c.args.memory) = search rules in
    let words = (g.M.Memory.device c.args.memory).cached in
    device-opened (g.M.Memory.device c.args.memory) (g.M.Memory.device c.mend_all.new.memory) whole.one_or_more
    (rules-none words whole.one_or_more c.broken_entry_rule.result c.broken_entry_rule.ensures c.in_default.is) c.requires.rests c.in_ok-mend_all.ensures

pub returns-clause-opened : goal.returns-clause-opened
returns-clause-opened g c = c.in_ok-opened.ensures.words ∙ ap (λ (d : Device). d.cached) c.in_ok-mend_all.ensures

pub returns-clause-rests : goal.returns-clause-rests
returns-clause-rests g c = c.in_ok-mend_all.ensures ∙ ap at_rest (sym (ap (λ (d : Device). d.cached) c.in_ok-mend_all.ensures) ∙ sym c.in_ok-opened.ensures.words)

pub returns-in-Some-clause-recoverable : goal.returns-in-Some-clause-recoverable
returns-in-Some-clause-recoverable g c recoverable =
    let whole : IsWhole (g.M.Memory.device c.args.memory) = search rules in
    absurd (never-refused (g.M.Memory.device c.args.memory).cached _ whole.one_or_more
    (refused-entry (g.M.Memory.device c.args.memory).cached c.broken_entry_rule.result c.in-Some.broken c.broken_entry_rule.ensures c.in-Some.is) recoverable)

pub returns-in-Some-bad_stamp-clause-refused : goal.returns-in-Some-bad_stamp-clause-refused
returns-in-Some-bad_stamp-clause-refused g c =
    let whole : IsWhole (g.M.Memory.device c.args.memory) = search rules in
    let words = (g.M.Memory.device c.args.memory).cached in
    refused-stamp words (g.M.Memory.device c.mend_all.new.memory) c.in-Some-bad_stamp.place whole.one_or_more
    (rules-none words whole.one_or_more c.broken_entry_rule.result c.broken_entry_rule.ensures c.in_default.is) c.in_ok-mend_all.ensures (sym c.in-Some-bad_stamp.is ∙ c.bad_stamp.ensures)

pub returns-in-Some-bad_stamp-clause-recoverable : goal.returns-in-Some-bad_stamp-clause-recoverable
returns-in-Some-bad_stamp-clause-recoverable g c recoverable =
    let whole : IsWhole (g.M.Memory.device c.args.memory) = search rules in
    let words = (g.M.Memory.device c.args.memory).cached in
    absurd (never-refused words _ whole.one_or_more
    (refused-stamp words (g.M.Memory.device c.mend_all.new.memory) c.in-Some-bad_stamp.place whole.one_or_more
    (rules-none words whole.one_or_more c.broken_entry_rule.result c.broken_entry_rule.ensures c.in_default.is) c.in_ok-mend_all.ensures (sym c.in-Some-bad_stamp.is ∙ c.bad_stamp.ensures)) recoverable)
