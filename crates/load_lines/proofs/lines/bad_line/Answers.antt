use Rattle.std.proofs.Common.{arith}
use Rattle.load_lines.proofs.WriteLaws.{bad_told}
use Rattle.load_lines.proofs.lines.bad_line.Goals as goal

pub returns : goal.returns
returns c = λ t scratch.
    let put = c.put_word-written in
    bad_told c.args.load t scratch c.requires (omega arith) (omega (arith, c.if-out-lt-BOTH_ROOM.false)) put.auto.out put.ensures
