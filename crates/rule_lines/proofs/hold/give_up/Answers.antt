use Rattle.std.proofs.Common.{arith}
use Rattle.rule_lines.proofs.HoldLaws.{gives_nil, gives_atom, gives_cell}
use Rattle.rule_lines.proofs.hold.give_up.Goals as goal
use Rattle.rule_lines.proofs.hold.give_up.Goals.{else-word-gt0-via-then-word-gt0+else-word-lt-FIRST_ATOM, else-word-gt0-via-else-word-gt0}

pub returns-then-word-lt-FIRST_ATOM : goal.returns-then-word-lt-FIRST_ATOM
returns-then-word-lt-FIRST_ATOM c = gives_cell (λ e. omega arith) c.if-word-lt-FIRST_ATOM.true c.down.ensures

pub returns-else-word-gt0 : goal.returns-else-word-gt0
returns-else-word-gt0 c =
    elim c.else-word-gt0.branch [
      | else-word-gt0-via-then-word-gt0+else-word-lt-FIRST_ATOM w ↦ gives_atom _ _ _ w.if-word-lt-FIRST_ATOM.false
      | else-word-gt0-via-else-word-gt0 w ↦ gives_nil _ _ _ (omega (arith, w.if-word-gt0.false))
    ]
