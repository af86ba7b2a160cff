use native.Mathlib.Omega.{arith}
use Rattle.base_ten.proofs.PutLaws.{put_both_lem}
use Rattle.printer.specs.Pieces.{bytes_of}
use Rattle.printer.proofs.PieceLaws.{dotted_length}
use Rattle.printer.proofs.pieces.put_dotted.Goals as goal

pub put_word-start-requires : goal.put_word-start-requires
put_word-start-requires c = omega (arith, c.requires, dotted_length c.args.v)

pub put_number-end-requires : goal.put_number-end-requires
put_number-end-requires c = omega (arith, c.requires, dotted_length c.args.v, c.put_word-start.ensures.ends, c.put_word-start.auto.out)

pub put_word-requires : goal.put_word-requires
put_word-requires c = omega (arith, c.requires, dotted_length c.args.v, c.put_word-start.ensures.ends, c.put_word-start.auto.out, c.put_number-end.ensures.ends, c.put_number-end.auto.out)

pub returns : goal.returns
unfolding bytes_of
returns c = put_both_lem c.put_word-start.ensures (put_both_lem c.put_number-end.ensures c.put_word.ensures)
