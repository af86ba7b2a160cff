use native.Mathlib.Omega.{arith}
use Rattle.base_ten.proofs.PutLaws.{put_both_lem}
use Rattle.call_text.proofs.TextLaws.{asked_length, asked_line_is}
use Rattle.call_text.proofs.put_call_line.Goals as goal

pub put_word-requires : goal.put_word-requires
put_word-requires c =
    let put = c.put_asked-end in
    omega (arith, put.ensures.ends, put.auto.out, asked_length c.args.asked, c.requires)

pub returns : goal.returns
returns c = rw (asked_line_is c.args.asked) (put_both_lem c.put_asked-end.ensures c.put_word.ensures)
