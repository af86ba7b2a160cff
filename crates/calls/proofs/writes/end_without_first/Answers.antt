use borrow.Author.Tests.{ne_eqb}
use Rattle.questions.proofs.Rules.{chain}
use Rattle.calls.proofs.writes.end_without_first.Goals as goal

pub returns-then-next-eq0 : goal.returns-then-next-eq0
returns-then-next-eq0 c = search chain

pub returns-else-next-eq0 : goal.returns-else-next-eq0
returns-else-next-eq0 c = rw (ne_eqb _ 0 c.if-next-eq0.false) c.last_free.ensures
