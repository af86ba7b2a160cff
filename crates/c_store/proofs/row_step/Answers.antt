use Rattle.c_store.proofs.ToldLaws.{saved_told}
use Rattle.c_store.proofs.row_step.Goals as goal

pub returns : goal.returns
returns c =
    let load = c.load.ensures in
    saved_told c.args.queue.now c.save.new.words load c.step-stepped.ensures c.save.ensures c.step_told.ensures
