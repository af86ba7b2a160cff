use Rattle.std.proofs.Common.{rules}
use Rattle.machine.specs.Table.{scratch_words}
use Rattle.up_and_step.proofs.answer.Goals as goal

pub slice_bounds-scratch-end : goal.slice_bounds-scratch-end
unfolding scratch_words
slice_bounds-scratch-end g c = search rules

pub slice_bounds-run-end-2 : goal.slice_bounds-run-end-2
unfolding scratch_words
slice_bounds-run-end-2 g c = search rules
