use Rattle.text_block.specs.Blocks.{write_parts}
use Rattle.block_tests.proofs.Low.{low_plan, low_size, low_sound}
use Rattle.block_tests.proofs.blocks.write.Goals as goal

pub play_whole-requires-clause-planned : goal.play_whole-requires-clause-planned
play_whole-requires-clause-planned g c =
    (write_parts c.args.at.0 c.args.text.now, c.in_ok-plan.ensures, low_plan (g.M.Memory.device c.args.memory.now).cached c.args.at.0 c.args.text.now c.requires.place c.requires.short c.requires.size)

pub returns-clause-size : goal.returns-clause-size
returns-clause-size g c =
    let words = (g.M.Memory.device c.args.memory.now).cached in
    low_size words c.args.at.0 c.args.text.now c.requires.place c.requires.short c.requires.size (g.M.Memory.device c.play_whole.new.memory).cached
    (c.play_whole.ensures.words (write_parts c.args.at.0 c.args.text.now) c.in_ok-plan.ensures (low_plan words c.args.at.0 c.args.text.now c.requires.place c.requires.short c.requires.size))

pub returns-clause-sound : goal.returns-clause-sound
returns-clause-sound g c =
    let words = (g.M.Memory.device c.args.memory.now).cached in
    low_sound words c.args.at.0 c.args.text.now c.requires.place c.requires.short c.requires.size (g.M.Memory.device c.play_whole.new.memory).cached
    (c.play_whole.ensures.words (write_parts c.args.at.0 c.args.text.now) c.in_ok-plan.ensures (low_plan words c.args.at.0 c.args.text.now c.requires.place c.requires.short c.requires.size))
    c.requires.utf8
