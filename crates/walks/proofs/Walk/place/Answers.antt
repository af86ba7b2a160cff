use Rattle.walks.proofs.Counting.{found_in}
use Rattle.walks.proofs.Walk.place.Goals as goal

pub returns-then-self-from : goal.returns-then-self-from
returns-then-self-from c = found_in _ _ c.self.view_is _ c.as_slice.ensures.value _ _ c.place_in.ensures
