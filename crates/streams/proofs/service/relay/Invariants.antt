use Rattle.std.proofs.Common.{length, ◌-◌}
use Rattle.streams.proofs.ServiceLaws.{Relaying}
use Rattle.streams.proofs.service.relay.Given as goal

abbrev pub invariant-loop-from : goal.invariant-loop-from
invariant-loop-from g l =
    Relaying g.S.Feed.feeds l.initial.service l.input (g.W.Write.contents l.initial.writer) l.service (g.W.Write.contents l.writer) l.from

abbrev pub decreases-loop-from : goal.decreases-loop-from
decreases-loop-from g l = length l.input - l.from
