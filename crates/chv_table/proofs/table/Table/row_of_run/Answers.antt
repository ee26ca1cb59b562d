-- A level is below the number of a part, of which there are few.
use Rattle.std.proofs.Common.{arith}
use Rattle.chv_table.proofs.MergeLemmas.{run_level-bound}
use Rattle.chv_table.proofs.table.Table.row_of_run.Goals as goal

pub overflow_add-result-2 : goal.overflow_add-result-2
overflow_add-result-2 c =
    let sound = c.requires.within.sound in
    record { fits = omega (arith, run_level-bound c.args.self.now.replay.state c.args.run sound c.requires.run, sound.counted, sound.bounded) }
