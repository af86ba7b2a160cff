use Rattle.printer.specs.Walk.{Measuring}
use Rattle.printer.proofs.measure.Given as goal

abbrev pub invariant-loop-piece : goal.invariant-loop-piece
invariant-loop-piece l = Measuring l.room l.table l.word l.left l.walk l.rests

abbrev pub decreases-loop-piece : goal.decreases-loop-piece
decreases-loop-piece l = l.left
