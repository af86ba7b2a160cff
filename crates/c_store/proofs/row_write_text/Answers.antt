use Rattle.c_store.proofs.ToldLaws.{text_told}
use Rattle.c_store.proofs.row_write_text.Goals as goal

pub returns : goal.returns
returns c =
    text_told c.args.queue.now c.load.ensures c.put_text.ensures c.length_told.ensures
