use Rattle.std.proofs.Common.{sym, ◌∙◌, arith}
use Rattle.line_text.proofs.RequestLaws.{same_lengths, same_step, same_differ, same_end}
use Rattle.line_text.proofs.parse.same.Goals as goal

pub returns-then-a-b : goal.returns-then-a-b
returns-then-a-b c = sym (same_lengths _ _ c.if-a-b.true)

pub returns-then-a-i : goal.returns-then-a-i
returns-then-a-i c =
    let l = c.loop-i in sym (same_differ _ _ l.i (omega arith) (omega arith) c.if-a-i.true) ∙ l.invariant

pub loop-i-preserved : goal.loop-i-preserved
loop-i-preserved c =
    let l = c.loop-i in sym (same_step _ _ l.i (omega arith) (omega arith) c.if-a-i.false) ∙ l.invariant

pub returns : goal.returns
returns c = let l = c.loop-i in sym (same_end _ _ l.i (omega arith) (omega arith)) ∙ l.invariant
