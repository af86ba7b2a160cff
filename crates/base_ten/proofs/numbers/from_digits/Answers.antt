use Rattle.std.proofs.Common.{sym, ◌∙◌, ◌+◌, ◌-◌, ◌*◌, arith, get_or, drop, ◌≡◌, ◌<◌, le-leb}
use borrow.Author.Tests.{lt-leb}
use Rattle.base_ten.proofs.NumberLaws.{number_large, number_step, number_no_digit, number_end}
use Rattle.base_ten.proofs.numbers.from_digits.Goals as goal

pub returns-then-not-is_ascii_digit : goal.returns-then-not-is_ascii_digit
returns-then-not-is_ascii_digit c =
    let l = c.loop-d in
    let other = sym c.is_ascii_digit.ensures.value ∙ c.if-not-is_ascii_digit.true in
    (sym (number_no_digit c.args.most l.v c.args.s.now l.d-index c.loop-d-test.true other) ∙ l.invariant, tt)

pub returns-in_err-checked_mul : goal.returns-in_err-checked_mul
returns-in_err-checked_mul c =
    let l = c.loop-d in
    let s = c.args.s.now in
    let digit = sym c.is_ascii_digit.ensures.value ∙ c.if-not-is_ascii_digit.false in
    let step = number_step c.args.most l.v s l.d-index c.loop-d-test.true digit in
    let large : c.args.most < 10 * l.v + (get_or s l.d-index 0 - 48) = omega (arith, c.in_err-checked_mul.ensures) in
    rw c.from_residual.ensures (sym (number_large c.args.most _ (drop (l.d-index + 1) s) large) ∙ sym step ∙ l.invariant, tt)

pub returns-in_err-v : goal.returns-in_err-v
returns-in_err-v c =
    let l = c.loop-d in
    let s = c.args.s.now in
    let digit = sym c.is_ascii_digit.ensures.value ∙ c.if-not-is_ascii_digit.false in
    let step = number_step c.args.most l.v s l.d-index c.loop-d-test.true digit in
    let large : c.args.most < 10 * l.v + (get_or s l.d-index 0 - 48) =
    omega (arith, c.in_err-v.ensures, c.in_ok-checked_mul.ensures.1, c.from.ensures) in
    rw c.from_residual-in_err-v.ensures (sym (number_large c.args.most _ (drop (l.d-index + 1) s) large) ∙ sym step ∙ l.invariant, tt)

pub loop-d-preserved : goal.loop-d-preserved
loop-d-preserved c =
    let l = c.loop-d in
    let s = c.args.s.now in
    let digit = sym c.is_ascii_digit.ensures.value ∙ c.if-not-is_ascii_digit.false in
    let value : c.in_ok-v.v ≡ 10 * l.v + (get_or s l.d-index 0 - 48) = omega (arith, c.in_ok-v.ensures.1, c.in_ok-checked_mul.ensures.1, c.from.ensures) in
    rw value (sym (number_step c.args.most l.v s l.d-index c.loop-d-test.true digit) ∙ l.invariant)

pub returns-then-v-most : goal.returns-then-v-most
returns-then-v-most c =
    let l = c.loop-d in
    (sym (rw (le-leb l.v c.args.most c.if-v-most.true) at (number_end c.args.most l.v c.args.s.now l.d-index (omega arith))) ∙ l.invariant, c.if-v-most.true)

pub returns-else-v-most : goal.returns-else-v-most
returns-else-v-most c =
    let l = c.loop-d in
    (sym (rw (lt-leb l.v c.args.most c.if-v-most.false) at (number_end c.args.most l.v c.args.s.now l.d-index (omega arith))) ∙ l.invariant, tt)
