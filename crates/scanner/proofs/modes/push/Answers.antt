use Rattle.std.proofs.Common.{arith}
use Rattle.scanner.proofs.ModeLaws.{digit_small, room, pushes}
use Rattle.scanner.proofs.modes.push.Goals as goal

pub overflow_mul-words : goal.overflow_mul-words
overflow_mul-words c = omega (arith, room _ _ c.requires.1 c.requires.0)

pub overflow_add-words : goal.overflow_add-words
overflow_add-words c = omega (arith, room _ _ c.requires.1 c.requires.0, c.digit.ensures, digit_small c.args.mode)

pub returns : goal.returns
returns c = let asked = c.requires in rw c.digit.ensures (pushes _ _ asked.1 _ (digit_small c.args.mode) asked.0)
