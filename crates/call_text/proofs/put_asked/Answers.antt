use Rattle.base_ten.proofs.PutLaws.{put_none}
use Rattle.call_text.proofs.put_asked.Goals as goal

pub returns-in-Some : goal.returns-in-Some
returns-in-Some c = rw c.in-Some.is c.put_call.ensures

pub returns-in-None : goal.returns-in-None
returns-in-None c = rw c.in-None.is (put_none _ _)
