use Rattle.streams.proofs.ServiceLaws.{Taking}
use Rattle.streams.proofs.service.take_input.Given as goal

abbrev pub invariant-reads : goal.invariant-reads
invariant-reads g l =
    Taking g.S.Feed.feeds l.initial.service (g.R.Read.remaining l.initial.reader) (g.W.Write.contents l.initial.writer)
    l.service (g.R.Read.remaining l.reader) (g.W.Write.contents l.writer) l.counter
