use Rattle.traffic.proofs.DrawLaws.{moves}
use Rattle.traffic.proofs.next_state.Goals as goal

pub returns : goal.returns
returns c = moves _ c.wrapping_mul_u32.ensures.wraps
