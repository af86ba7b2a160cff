use borrow.Author.Rules.{rules}
use mathlib.Core.Path.{◌∙◌}
use borrow.Author.Tests.{lt-ltb}
use Rattle.questions.proofs.Words.{other_stored, atom_stored}
use Rattle.questions.proofs.may_be_stored.Goals as goal

pub returns-then-w-lt-FIRST_ATOM : goal.returns-then-w-lt-FIRST_ATOM
returns-then-w-lt-FIRST_ATOM c = lt-ltb _ _ c.if-w-lt-FIRST_ATOM.true ∙ other_stored _ c.if-w-lt-FIRST_ATOM.true

pub returns-else-w-lt-FIRST_ATOM : goal.returns-else-w-lt-FIRST_ATOM
returns-else-w-lt-FIRST_ATOM c = atom_stored _ c.if-w-lt-FIRST_ATOM.false (search rules)
