use Rattle.std.proofs.Common.{ap, ◌∙◌}
use Rattle.std.proofs.lemmas.Result.{err_from_is_err_and}
use Rattle.streams.proofs.ServiceLaws.{not_taken, taken_sent}
use Rattle.load_lines.specs.Whole.{begin}
use Rattle.load.specs.Threading.{Ends, Tries}
use Rattle.load.proofs.ThreadingLaws.{serves_listed}
use Rattle.load.proofs.answer.Goals as goal

pub returns-in_err-take_input : goal.returns-in_err-take_input
returns-in_err-take_input g c =
    let p = err_from_is_err_and c.from_residual.result c.from_residual.ensures.1 in
    rw (p.1, p.2) (record { kept_last = _; serves = not_taken Ends Tries c.in_err-take_input.ensures; listed = tt })

pub returns : goal.returns
returns g c =
    let serves = taken_sent Ends Tries {s'' = c.take_input.new.service} c.in_ok-take_input.ensures c.send.ensures.failure c.send.ensures.sends (λ y sends. record {
      first = c.start-sending.result;
      last = c.send.new.source;
      begins = c.start-sending.ensures ∙ ap begin c.workload.ensures;
      sends = sends;
    }) (λ y m sends. record {
      first = c.start-sending.result;
      last = c.send.new.source;
      more = m;
      begins = c.start-sending.ensures ∙ ap begin c.workload.ensures;
      sends = sends;
    }) in
    record { kept_last = c.take_input.new.service; serves = serves; listed = serves_listed c.send.result serves }
