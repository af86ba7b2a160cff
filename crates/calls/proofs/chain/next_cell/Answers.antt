use Rattle.calls.proofs.FreshLaws.{next_last, next_on}
use Rattle.calls.proofs.chain.next_cell.Goals as goal

pub returns-then-i-c : goal.returns-then-i-c
returns-then-i-c c = next_last _ _ c.if-i-c.true

pub returns-else-i-c : goal.returns-else-i-c
returns-else-i-c c = next_on _ _ c.if-i-c.false
