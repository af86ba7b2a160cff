use Rattle.std.proofs.Common.{ℕ, sym}
use Rattle.std.proofs.lemmas.List.{length-replicate}
use Rattle.state_lines.proofs.input.input_array.Goals as goal

pub returns : goal.returns
returns c = sym (length-replicate {A = ℕ} 3670016 0)
