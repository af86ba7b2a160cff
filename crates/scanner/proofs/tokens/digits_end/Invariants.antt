use Rattle.scanner.proofs.TokenLaws.{Digits}
use Rattle.scanner.proofs.tokens.digits_end.Given as goal

abbrev pub invariant-loop-i : goal.invariant-loop-i
invariant-loop-i l = Digits l.text l.at l.i
