use native.Mathlib.Omega.{arith}
use Rattle.walks.proofs.Counting.{still_kept, within, pointers_at, counted_there, counted_new, counted_full}
use Rattle.walks.proofs.Walk.count.Goals as goal

pub overflow_add-as_mut_slice : goal.overflow_add-as_mut_slice
overflow_add-as_mut_slice c =
    omega (arith, pointers_at _ _ c.self.view_is _ c.in-Some.place c.as_mut_slice.ensures.value, c.requires.small c.in-Some.place)

pub invariant_of-self : goal.invariant_of-self
invariant_of-self c =
    still_kept _ _ (within _ _ c.self.view_is c.in-Some.place c.in-Some.ensures.within) _ c.as_mut_slice.ensures.value _ c.self.invariant

pub returns-in-Some : goal.returns-in-Some
returns-in-Some c =
    counted_there _ 1 _ c.requires _ _ c.self.view_is _ c.in-Some.ensures (within _ _ c.self.view_is c.in-Some.place c.in-Some.ensures.within)
    _ c.as_mut_slice.ensures.value

pub returns-then-most-len : goal.returns-then-most-len
returns-then-most-len c = counted_full _ 1 _ c.requires _ _ c.self.view_is c.in_default.ensures (omega arith)

pub returns : goal.returns
returns c =
    rw c.put.ensures (counted_new _ 1 _ c.requires _ _ c.self.view_is c.in_default.ensures (omega arith))
