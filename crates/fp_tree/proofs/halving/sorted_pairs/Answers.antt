use Rattle.fp_tree.proofs.SortedPairs.{sorted_found}
use Rattle.fp_tree.proofs.halving.sorted_pairs.Goals as goal

pub returns : goal.returns
returns g c =
    sorted_found (g.M.Memory.device c.args.mem.now).cached c.args.leaf.0 c.requires.full c.first_words.result c.first_words.ensures c.requires.sound c.requires.distinct
    c.in_ok-list.list.pairs c.sort.new.self.pairs c.in_ok-list.ensures.pairs c.sort.ensures.pairs c.sort.ensures.sorted
