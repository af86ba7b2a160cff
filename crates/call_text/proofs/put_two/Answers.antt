use native.Mathlib.Omega.{arith}
use lib.ListN.{length-append}
use Rattle.base_ten.specs.Decimal.{most_digits, decimal}
use Rattle.base_ten.proofs.PutLaws.{put_both_lem, digits_length}
use Rattle.call_text.proofs.put_two.Goals as goal

pub put_counted-requires : goal.put_counted-requires
put_counted-requires c =
    let put = c.put_counted-end in
    omega (arith, put.ensures.ends, put.auto.out, digits_length most_digits c.args.x, length-append c.args.word.now (decimal c.args.x), c.requires)

pub returns : goal.returns
returns c = put_both_lem c.put_counted-end.ensures c.put_counted.ensures
