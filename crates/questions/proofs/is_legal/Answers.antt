use borrow.Author.Rules.{rules}
use mathlib.Core.Path.{sym, ◌∙◌}
use borrow.Author.Tests.{le-leb}
use Rattle.questions.proofs.Words.{legal_low, legal_atom}
use Rattle.questions.proofs.is_legal.Goals as goal

pub returns-then-w-c : goal.returns-then-w-c
returns-then-w-c c = le-leb _ _ c.if-w-c.true ∙ sym (legal_low _ _ c.if-w-c.true)

pub returns-else-w-c : goal.returns-else-w-c
returns-else-w-c c = sym (legal_atom _ _ c.if-w-c.false (search rules))
