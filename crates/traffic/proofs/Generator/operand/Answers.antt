use Rattle.traffic.proofs.DrawLaws.{operand_atom, operand_word}
use Rattle.traffic.proofs.Generator.operand.Goals as goal

pub returns-then-word-from-clause-value : goal.returns-then-word-from-clause-value
returns-then-word-from-clause-value c =
    rw (← c.draw.ensures.value) (operand_atom _ _ (rw (c.from.ensures, c.from-2.ensures, c.from-3.ensures) at c.if-word-from.true))

pub returns-else-word-from-clause-value : goal.returns-else-word-from-clause-value
returns-else-word-from-clause-value c =
    rw (c.from.ensures, c.from-2.ensures, ← c.draw.ensures.value)
    (operand_word _ _ (rw (c.from.ensures, c.from-2.ensures, c.from-3.ensures) at c.if-word-from.false))
