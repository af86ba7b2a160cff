use Rattle.serving.proofs.fresh_verdict.Goals as goal

pub returns-in-Err : goal.returns-in-Err
returns-in-Err c = rw (c.in-Err.is, c.refused.ensures)
