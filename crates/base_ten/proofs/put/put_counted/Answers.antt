use native.Mathlib.Omega.{arith}
use Rattle.base_ten.specs.Decimal.{most_digits}
use Rattle.base_ten.proofs.PutLaws.{put_both_lem, put_byte, digits_one}
use Rattle.base_ten.proofs.put.put_counted.Goals as goal

pub returns-then-n-lt10 : goal.returns-then-n-lt10
returns-then-n-lt10 c =
    let put = c.put_word-end in
    rw (digits_one most_digits c.args.n (omega arith) c.if-n-lt10.true)
    (put_both_lem put.ensures (put_byte _ _ _ (omega (arith, put.ensures.ends, put.auto.out, c.requires))))

pub returns : goal.returns
returns c =
    put_both_lem c.put_word-end.ensures c.put_digits.ensures
