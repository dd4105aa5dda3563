use Rattle.std.proofs.Common.{◌-◌, length, drop, get_or, sym, ◌∙◌, ap, arith}
use Rattle.std.specs.Prelude.{vec_len, vec_capacity}
use Rattle.pm_model.specs.Plans.{words_after}
use Rattle.pmem_recover.specs.Changes.{change, change_part}
use Rattle.pmem_recover.proofs.Parts.{taken-kept, taken-later, taken-there, taken-none, taken-next, taken-all, word-one}
use Rattle.pmem_recover.proofs.part.needed.Goals as goal
use Rattle.pmem_recover.proofs.part.needed.Goals.{then-is_last+then-word_after-change, else-is_last, else-is_last-via-then-is_last+else-word_after-change, else-is_last-via-else-is_last}

pub loop-done-init : goal.loop-done-init
loop-done-init g c = record {
  taken = taken-none (words_after (change_part c.args.earlier.now) (g.M.Memory.device c.args.mem.now).cached) c.args.part.now c.in_ok-kept.kept.items c.new-stored.result c.in_ok-kept.ensures.items c.new-stored.ensures.empty;
  len = omega (arith, c.in_ok-kept.ensures.len);
  room = omega (arith, c.in_ok-kept.ensures.capacity);
}

pub loop-done-preserved : goal.loop-done-preserved
loop-done-preserved g c =
    let words = words_after (change_part c.args.earlier.now) (g.M.Memory.device c.args.mem.now).cached in
    let part = c.args.part.now in
    let k = length c.args.part.now - 1 - c.loop-done.done in
    let d = change 0 0 in
    let inv = c.loop-done.invariant in
    let left = drop (length c.args.part.now - c.loop-done.done) c.args.part.now in
    elim c.if-is_last.branch [
      | then-is_last+then-word_after-change w ↦ record {
        taken = taken-next words part c.loop-done.done d c.if-is_last.kept.items c.insert.new.self c.loop-done-test.true
            (taken-kept words left (get_or part k d) c.loop-done.kept.items c.loop-done.stored c.insert.new.self c.in_ok-is_last.is_last inv.taken c.in_ok-is_last.ensures.updates c.in_ok-is_last.ensures.added
            c.if-is_last.kept.items (ap (λ v. v.items) w.kept-is ∙ w.push_reserved.ensures.items) w.if-is_last.true
            (λ e. w.if-word_after-change.true (sym (word-one c.args.earlier.now (g.M.Memory.device c.args.mem.now).cached (get_or part k d).place.0 w.word_after.result w.word_after.ensures) ∙ e)));
        len = omega (arith, ap vec_len w.kept-is, w.push_reserved.ensures.len, inv.len);
        room = omega (arith, ap vec_capacity w.kept-is, w.push_reserved.ensures.capacity, inv.room);
      }
      | else-is_last w ↦ record {
        taken = elim w.else-is_last.branch [
          | else-is_last-via-then-is_last+else-word_after-change v ↦ taken-next words part c.loop-done.done d c.if-is_last.kept.items c.insert.new.self c.loop-done-test.true
              (taken-there words left (get_or part k d) c.loop-done.kept.items c.loop-done.stored c.insert.new.self c.in_ok-is_last.is_last inv.taken c.in_ok-is_last.ensures.updates c.in_ok-is_last.ensures.added
              c.if-is_last.kept.items (ap (λ v. v.items) w.kept-is)
              (word-one c.args.earlier.now (g.M.Memory.device c.args.mem.now).cached (get_or part k d).place.0 v.word_after.result v.word_after.ensures ∙ v.if-word_after-change.false))
          | else-is_last-via-else-is_last v ↦ taken-next words part c.loop-done.done d c.if-is_last.kept.items c.insert.new.self c.loop-done-test.true
              (taken-later words left (get_or part k d) c.loop-done.kept.items c.loop-done.stored c.insert.new.self c.in_ok-is_last.is_last inv.taken c.in_ok-is_last.ensures.updates c.in_ok-is_last.ensures.added
              c.if-is_last.kept.items (ap (λ v. v.items) w.kept-is) v.if-is_last.false)
        ];
        len = omega (arith, ap vec_len w.kept-is, inv.len);
        room = omega (arith, ap vec_capacity w.kept-is, inv.room);
      }
    ]

pub returns-clause-needed : goal.returns-clause-needed
returns-clause-needed g c =
    ap change_part c.reverse.ensures.items
    ∙ taken-all (words_after (change_part c.args.earlier.now) (g.M.Memory.device c.args.mem.now).cached) c.args.part.now c.loop-done.done c.loop-done.kept.items c.loop-done.stored (omega arith) c.loop-done.invariant.taken
