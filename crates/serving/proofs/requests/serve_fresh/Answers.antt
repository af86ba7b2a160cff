use Rattle.serving.proofs.ServeLaws.{fresh_serves}
use Rattle.serving.proofs.requests.serve_fresh.Goals as goal

pub returns : goal.returns
returns c = λ scratch g. fresh_serves c.fresh_verdict.ensures g _ c.fresh-reply.ensures
