use Rattle.store.proofs.StepPromise.{step_promise}
use Rattle.store.proofs.step.Goals as goal

pub returns : goal.returns
returns c = step_promise _ _ _ _ _ _ c.step.ensures
