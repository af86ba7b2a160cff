use Rattle.c_store.proofs.ToldLaws.{saved_told}
use Rattle.c_store.proofs.row_fresh.Goals as goal

pub returns : goal.returns
returns c =
    let load = c.load.ensures in
    saved_told c.args.queue.now c.save.new.words load c.fresh-begun.ensures c.save.ensures c.fresh_told.ensures
