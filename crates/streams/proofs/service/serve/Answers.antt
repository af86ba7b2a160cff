use Rattle.std.proofs.Common.{false, Bool}
use Rattle.std.proofs.lemmas.Result.{err_from_is_err_and}
use Rattle.streams.proofs.ServiceLaws.{not_taken, taken_sent}
use Rattle.streams.proofs.service.serve.Goals as goal

pub returns-in_err-take_input : goal.returns-in_err-take_input
returns-in_err-take_input g c =
    let p = err_from_is_err_and c.from_residual.result c.from_residual.ensures.1 in
    rw (p.1, p.2) (not_taken (λ last y. g.S.Source.sends last y false c.take_input.new.out c.take_input.new.service) (λ last y. (more : Bool) × g.S.Source.sends last y more c.take_input.new.out c.take_input.new.service) c.in_err-take_input.ensures)

pub returns : goal.returns
returns g c = taken_sent (λ last y. g.S.Source.sends last y false c.send.new.out c.send.new.source) (λ last y. (more : Bool) × g.S.Source.sends last y more c.send.new.out c.send.new.source) c.in_ok-take_input.ensures c.send.ensures.failure c.send.ensures.sends (λ y p. p) (λ y m p. (m, p))
