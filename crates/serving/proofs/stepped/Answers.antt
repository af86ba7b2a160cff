use Rattle.serving.proofs.stepped.Goals as goal

pub returns-in-Applied : goal.returns-in-Applied
returns-in-Applied c = rw c.in-Applied.is
