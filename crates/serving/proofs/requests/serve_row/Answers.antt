use Rattle.serving.proofs.ServeLaws.{row_serves}
use Rattle.serving.proofs.requests.serve_row.Goals as goal

pub returns : goal.returns
returns c = λ scratch g. row_serves c.row_verdict.ensures g _ c.row-reply.ensures
