use Rattle.serving.proofs.ServeLaws.{step_serves}
use Rattle.serving.proofs.requests.serve_step.Goals as goal

pub returns : goal.returns
returns c = λ g. step_serves c.step_verdict.ensures g c.step-reply.ensures
