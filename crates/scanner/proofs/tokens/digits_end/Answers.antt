use Rattle.std.proofs.Common.{◌≡◌, length, sym, ◌∙◌, arith}
use Rattle.scanner.specs.Tokens.{DigitAt}
use Rattle.scanner.proofs.TokenLaws.{digits_none, digits_more, after_other, after_all}
use Rattle.scanner.proofs.tokens.digits_end.Goals as goal

pub loop-i-init : goal.loop-i-init
loop-i-init c =
    let text = c.args.text.now in
    let at = c.args.at in
    digits_more text at at (omega arith) c.requires (digits_none text at)

pub returns-then-not-is_ascii_digit : goal.returns-then-not-is_ascii_digit
returns-then-not-is_ascii_digit c =
    let l = c.loop-i in
    let other = sym c.is_ascii_digit.ensures.value ∙ c.if-not-is_ascii_digit.true in
    record { further = omega arith; inside = omega arith; marks = l.invariant ∙ after_other _ _ l.i (omega arith) other }

pub loop-i-preserved : goal.loop-i-preserved
loop-i-preserved c =
    let l = c.loop-i in
    let range = c.if-not-is_ascii_digit.ensures.cases in
    let digit : DigitAt c.args.text.now l.i = record { inside = omega arith; low = omega (arith, range); high = omega (arith, range) } in
    digits_more _ _ l.i (omega arith) digit l.invariant

pub returns : goal.returns
returns c =
    let l = c.loop-i in
    let ended : l.i ≡ length c.args.text.now = omega (arith, c.requires.inside) in
    record { further = omega (arith, c.requires.inside); inside = omega arith; marks = rw (← ended) (l.invariant ∙ after_all _ _ l.i (omega arith)) }
