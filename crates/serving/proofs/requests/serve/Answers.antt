use Rattle.serving.proofs.requests.serve.Goals as goal

pub returns-in-Fresh : goal.returns-in-Fresh
returns-in-Fresh c = rw c.in-Fresh.is (c.serve_fresh.ensures _)

pub returns-in-Row : goal.returns-in-Row
returns-in-Row c = rw c.in-Row.is (c.serve_row.ensures _)

pub returns-in-Step : goal.returns-in-Step
returns-in-Step c = rw c.in-Step.is c.serve_step.ensures
