use Rattle.reader.proofs.HeldLaws.{pair_leaves}
use Rattle.reader.proofs.build.pair.Goals as goal

pub returns : goal.returns
returns c =
    let i = c.args in
    pair_leaves i.table.now i.queue i.x i.y _ _ _ _ c.cons-reply.ensures c.new_word.ensures
