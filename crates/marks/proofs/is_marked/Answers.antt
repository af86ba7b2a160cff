use Prim.Native.Nat.{suc}
use lib.ListN.{length}
use native.Mathlib.Omega.{arith}
use borrow.Author.Rules.{rules}
use Rattle.marks.specs.Marks.{is_marked}
use Rattle.marks.proofs.Scratch.{word_within_lem}
use Rattle.marks.proofs.is_marked.Goals as goal

pub offset_bounds-scratch-index : goal.offset_bounds-scratch-index
offset_bounds-scratch-index c = omega (arith, word_within_lem (suc c.args.index) c.args.index (length c.args.scratch.now) (omega arith) c.requires)

pub bounds-scratch-index : goal.bounds-scratch-index
bounds-scratch-index c = word_within_lem _ _ _ (omega arith) c.requires

pub returns : goal.returns
unfolding is_marked
returns c = search rules
