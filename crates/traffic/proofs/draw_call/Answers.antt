use Rattle.std.proofs.Common.{◌≡◌, ◌%◌, arith}
use Rattle.traffic.specs.Traffic.{call_drawn}
use Rattle.traffic.proofs.draw_call.Goals as goal

pub returns-in-0 : goal.returns-in-0
unfolding call_drawn
returns-in-0 c =
    rw (c.operand.ensures.value, c.operand.ensures.state, c.draw-kind.ensures.state, ← c.draw-kind.ensures.value, c.in-0.is)

pub returns-in-1 : goal.returns-in-1
unfolding call_drawn
returns-in-1 c =
    rw (c.operand-in-1.ensures.value, c.operand-in-1.ensures.state, c.draw-kind.ensures.state, ← c.draw-kind.ensures.value, c.in-1.is)

pub returns-in-2 : goal.returns-in-2
unfolding call_drawn
returns-in-2 c =
    rw (c.operand-in-2-2.ensures.value, c.operand-in-2-2.ensures.state, c.operand-in-2.ensures.value, c.operand-in-2.ensures.state, c.draw-kind.ensures.state, ← c.draw-kind.ensures.value, c.in-2.is)

pub returns-in-3 : goal.returns-in-3
unfolding call_drawn
returns-in-3 c =
    rw (c.operand-in-3-2.ensures.value, c.operand-in-3-2.ensures.state, c.operand-in-3.ensures.value, c.operand-in-3.ensures.state, c.draw-kind.ensures.state, ← c.draw-kind.ensures.value, c.in-3.is)

pub returns-in-4 : goal.returns-in-4
unfolding call_drawn
returns-in-4 c =
    rw (c.operand-in-4-2.ensures.value, c.operand-in-4-2.ensures.state, c.operand-in-4.ensures.value, c.operand-in-4.ensures.state, c.draw-kind.ensures.state, ← c.draw-kind.ensures.value, c.in-4.is)

pub returns-in-5 : goal.returns-in-5
unfolding call_drawn
returns-in-5 c =
    rw (c.number.ensures.value, c.number.ensures.state, c.operand-in-5.ensures.value, c.operand-in-5.ensures.state, c.draw-kind.ensures.state, ← c.draw-kind.ensures.value, c.in-5.is)

pub returns-in-6 : goal.returns-in-6
unfolding call_drawn
returns-in-6 c =
    rw (c.number-in-6.ensures.value, c.number-in-6.ensures.state, c.operand-in-6.ensures.value, c.operand-in-6.ensures.state, c.draw-kind.ensures.state, ← c.draw-kind.ensures.value, c.in-6.is)

pub returns-in_default : goal.returns-in_default
unfolding call_drawn
returns-in_default c =
    let seven : c.draw-kind.result % 8 ≡ 7 = omega arith in
    rw (c.draw-kind.ensures.state, ← c.draw-kind.ensures.value, seven)
