use Rattle.std.proofs.Common.{◌≡◌, ℕ, get_or, max, arith, sym, ◌∙◌, ap}
use Rattle.pmem_recover.proofs.Steps.{commits_below, commits-more}
use Rattle.pmem_recover.proofs.objects.count_commits.Goals as goal

pub loop-object-init : goal.loop-object-init
loop-object-init g c = c.load-number.ensures ∙ ap (λ (w : ℕ). get_or (g.M.Memory.device c.args.mem.now).cached w 0) c.last_commit.ensures

pub loop-object-preserved : goal.loop-object-preserved
loop-object-preserved g c =
    let words = (g.M.Memory.device c.args.mem.now).cached in
    let before : c.loop-object.number ≡ commits_below words c.loop-object.object = c.loop-object.invariant in
    c.max-number.ensures ∙ ap (λ (n : ℕ). max n c.open_commit.result) before ∙ ap (max (commits_below words c.loop-object.object)) c.open_commit.ensures ∙ sym (commits-more words c.loop-object.object)

pub returns : goal.returns
returns g c = let end : c.loop-object.object ≡ 16 = omega arith in c.loop-object.invariant ∙ ap (commits_below (g.M.Memory.device c.args.mem.now).cached) end
