use Rattle.std.specs.Prelude.{Ok}
use mathlib.Core.Path.{◌≡◌, refl}
use mathlib.Core.List.{List}
use Prim.Native.Nat.{ℕ}
use native.Mathlib.Omega.{arith}
use Rattle.machine.specs.declared.Queue.{Queue}
use Rattle.machine.specs.Answers.{Asked}
use Rattle.machine.specs.Answers.{asked_number}
use Rattle.machine.specs.Queue.{slot, put_slot, taken}
use Rattle.machine.specs.Calls.{step, store}
use Rattle.machine.specs.Questions.{first_no, early}
use Rattle.machine.specs.Facts.{Lent}
use Rattle.machine.proofs.Questions.{says_yes, says_no, asked_lent}
use Rattle.collector.proofs.StepContract.{refuses, idles, applies}
use Rattle.collector.proofs.step.Goals as goal

-- questions 1 and 2 said yes
past : (t : List ℕ) (q : Queue) (s : List ℕ) (x : Asked) → asked_number x ≡ first_no (early (store t q s) step) → x ≡ Ok tt → Lent t q s
past t q s x e y = asked_lent t q s (says_yes t q s x e y)

pub bounds-rest-j : goal.bounds-rest-j
bounds-rest-j c = let l = (past _ _ _ _ c.lent-asked.ensures c.in-Ok.is).shape.queue in omega arith

pub bounds-rest-j-then-rest-gt0 : goal.bounds-rest-j-then-rest-gt0
bounds-rest-j-then-rest-gt0 c = let l = (past _ _ _ _ c.lent-asked.ensures c.in-Ok.is).shape.queue in omega arith

pub bounds-rest-j-then-rest-gt0-2 : goal.bounds-rest-j-then-rest-gt0-2
bounds-rest-j-then-rest-gt0-2 c = let l = (past _ _ _ _ c.lent-asked.ensures c.in-Ok.is).shape.queue in omega arith

pub bounds-rest-j-then-rest-gt0-3 : goal.bounds-rest-j-then-rest-gt0-3
bounds-rest-j-then-rest-gt0-3 c = let l = (past _ _ _ _ c.lent-asked.ensures c.in-Ok.is).shape.queue in omega arith

pub bounds-rest-j-then-rest-gt0-4 : goal.bounds-rest-j-then-rest-gt0-4
bounds-rest-j-then-rest-gt0-4 c = let l = (past _ _ _ _ c.lent-asked.ensures c.in-Ok.is).shape.queue in omega arith

pub bounds-rest-j-then-rest-gt0-5 : goal.bounds-rest-j-then-rest-gt0-5
bounds-rest-j-then-rest-gt0-5 c = let l = (past _ _ _ _ c.lent-asked.ensures c.in-Ok.is).shape.queue in omega arith

pub bounds-rest-j-then-rest-gt0-6 : goal.bounds-rest-j-then-rest-gt0-6
bounds-rest-j-then-rest-gt0-6 c = let l = (past _ _ _ _ c.lent-asked.ensures c.in-Ok.is).shape.queue in omega arith

pub bounds-rest-j-then-rest-gt0-7 : goal.bounds-rest-j-then-rest-gt0-7
bounds-rest-j-then-rest-gt0-7 c = let l = (past _ _ _ _ c.lent-asked.ensures c.in-Ok.is).shape.queue in omega arith

pub overflow_add-rest : goal.overflow_add-rest
overflow_add-rest c = let l = (past _ _ _ _ c.lent-asked.ensures c.in-Ok.is).shape.queue in omega arith

pub apply_oldest-freed-requires : goal.apply_oldest-freed-requires
apply_oldest-freed-requires c =
    let h = past _ _ _ _ c.lent-asked.ensures c.in-Ok.is in
    (h.shape.table, h.scratch)

pub returns-in-Err : goal.returns-in-Err
returns-in-Err c =
    let i = c.args in
    refuses i.table.now i.queue i.scratch.now c.in-Err.refusal
    (says_no i.table.now i.queue i.scratch.now _ c.in-Err.refusal c.lent-asked.ensures c.in-Err.is)
    _ refl refl

pub returns-then-rest-gt0 : goal.returns-then-rest-gt0
unfolding slot taken put_slot
returns-then-rest-gt0 c =
    let i = c.args in
    applies i.table.now i.queue i.scratch.now (says_yes _ _ _ _ c.lent-asked.ensures c.in-Ok.is) c.if-rest-gt0.true _ _ _ _ c.apply_oldest-freed.ensures refl refl

pub returns-else-rest-gt0 : goal.returns-else-rest-gt0
returns-else-rest-gt0 c =
    let i = c.args in
    idles i.table.now i.queue i.scratch.now (says_yes _ _ _ _ c.lent-asked.ensures c.in-Ok.is) (omega arith) _ refl refl
