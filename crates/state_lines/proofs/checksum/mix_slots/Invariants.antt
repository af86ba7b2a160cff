use Rattle.std.proofs.Common.{◌<◌}
use Rattle.state_lines.specs.Checksum.{modulus}
use Rattle.state_lines.proofs.checksum.mix_slots.Given as goal

abbrev pub invariant-loop-j : goal.invariant-loop-j
invariant-loop-j l = l.s < modulus
