use Rattle.std.proofs.Common.{◌<◌}
use Rattle.state_lines.specs.Checksum.{modulus}
use Rattle.state_lines.proofs.checksum.mix_words.Given as goal

abbrev pub invariant-loop-word : goal.invariant-loop-word
invariant-loop-word l = l.s < modulus
