use Rattle.std.proofs.Common.{◌≡◌, drop}
use Rattle.base_ten.specs.Numbers.{number_from}
use Rattle.base_ten.proofs.numbers.from_digits.Given as goal

abbrev pub invariant-loop-d : goal.invariant-loop-d
invariant-loop-d l = number_from l.most l.v (drop l.d-index l.s) ≡ number_from l.most 0 l.s
