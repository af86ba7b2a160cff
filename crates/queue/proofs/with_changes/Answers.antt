use mathlib.Core.Logic.{⊎_elim}
use borrow.Author.Rules.{rules}
use native.Mathlib.Omega.{arith}
use Rattle.machine.specs.Table.{left, right}
use Rattle.machine.specs.Packets.{replaces, changes_of, moved_by}
use Rattle.queue.proofs.Totals.{added, none_added}
use Rattle.queue.proofs.with_changes.Goals as goal

pub returns-then-b-x : goal.returns-then-b-x
returns-then-b-x c = search (rules, none_added)

pub returns-in_default : goal.returns-in_default
unfolding moved_by changes_of
returns-in_default c = search (rules, added)

pub returns-in-Read : goal.returns-in-Read
unfolding moved_by changes_of
returns-in-Read c = search (rules, added)

pub returns-in-Cons : goal.returns-in-Cons
unfolding moved_by changes_of
returns-in-Cons c = search (rules, added)

pub returns-in-ReplaceLeft : goal.returns-in-ReplaceLeft
unfolding moved_by changes_of
returns-in-ReplaceLeft c =
    let i = c.args in
    ⊎_elim
    (λ e. added i.s _ i.kind i.a i.b i.x (replaces left) (rw e at c.in-Some.ensures) (omega arith) (omega arith) (omega arith) (omega arith))
    (λ e. added i.s _ i.kind i.a i.b i.x (replaces right) (rw e at c.in-Some.ensures) (omega arith) (omega arith) (omega arith) (omega arith))
    c.in-ReplaceLeft.is

pub returns-in-Up : goal.returns-in-Up
unfolding moved_by changes_of
returns-in-Up c = search (rules, added)

pub returns-in-Down : goal.returns-in-Down
unfolding moved_by changes_of
returns-in-Down c = search (rules, added)
