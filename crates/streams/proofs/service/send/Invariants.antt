use Rattle.streams.proofs.ServiceLaws.{Going}
use Rattle.streams.proofs.service.send.Given as goal

abbrev pub invariant-loop : goal.invariant-loop
invariant-loop g l =
    g.S.Source.ready l.source
    × Going g.S.Source.sends l.initial.source (g.W.Write.contents l.initial.writer) l.source (g.W.Write.contents l.writer)

abbrev pub decreases-loop : goal.decreases-loop
decreases-loop g l = g.S.Source.calls_left l.source
