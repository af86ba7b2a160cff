use Prim.Native.Nat.{ℕ, ◌<◌, ◌-◌, ◌/◌}
use native.Mathlib.Omega.{arith}
use lib.ListN.{length}
use lib.ListN.{length-set}
use Rattle.base_ten.proofs.PutLaws.{put_both_lem, put_none, put_byte, digits_none, digits_one, digits_more, digits_length}
use Rattle.base_ten.proofs.put.+put_digits.Goals as goal

pub returns-then-most-eq0 : goal.returns-then-most-eq0
returns-then-most-eq0 t c = rw (digits_none _ c.args.n c.if-most-eq0.true) (put_none _ _)

pub shape_of-out-then-n-lt10 : goal.shape_of-out-then-n-lt10
shape_of-out-then-n-lt10 t c = simp length-set

pub returns-then-n-lt10 : goal.returns-then-n-lt10
returns-then-n-lt10 t c =
    let a = c.args in
    rw (digits_one a.most a.n (omega arith) c.if-n-lt10.true) (put_byte _ _ _ (omega arith))

pub put_digits-end-requires : goal.put_digits-end-requires
put_digits-end-requires t c = (omega arith, omega arith)

-- the digits before the last leave room for it
room :
    (t : ℕ) →
    (c : goal.After-slice_known-2-1 t) →
    c.put_digits-end.result < length c.put_digits-end.new.out
room t c =
    let a = c.args in
    let put = c.put_digits-end in
    omega (arith, put.ensures.ends, put.auto.out, digits_length (a.most - 1) (a.n / 10), c.requires)

pub bounds-out-end : goal.bounds-out-end
bounds-out-end t c = omega (arith, room t c)

pub overflow_add-result-2 : goal.overflow_add-result-2
overflow_add-result-2 t c = omega (arith, room t c)

pub shape_of-out : goal.shape_of-out
shape_of-out t c = simp length-set c.put_digits-end.auto.out

pub returns : goal.returns
returns t c =
    let a = c.args in
    rw (digits_more a.most a.n (omega arith) (omega arith)) (put_both_lem c.put_digits-end.ensures (put_byte _ _ _ (room t c)))
