use Rattle.std.proofs.Common.{arith}
use Rattle.std.proofs.lemmas.Result.{err_from_is_err_and}
use Rattle.streams.proofs.ServiceLaws.{followed_failed, followed_more, followed_end, taking_too_long}
use Rattle.streams.proofs.service.take_input.Goals as goal

pub returns-in_err-more : goal.returns-in_err-more
returns-in_err-more g c =
    let p = err_from_is_err_and c.from_residual.result c.from_residual.ensures.1 in
    let read = c.read_front-read in
    rw (p.1, p.2) (followed_failed g.met.S.Feed.feeds_both c.reads.invariant read.new.input read.result _ read.ensures.failure read.ensures.bytes c.in_err-more.ensures)

pub reads-preserved : goal.reads-preserved
reads-preserved g c =
    let read = c.read_front-read in
    followed_more g.met.S.Feed.feeds_both c.reads.invariant read.new.input read.result read.ensures.within read.ensures.bytes (rw c.if-not-more.false at c.in_ok-more.ensures)

pub returns-then-not-more : goal.returns-then-not-more
returns-then-not-more g c =
    let read = c.read_front-read in
    let some = c.requires.buffer in
    followed_end g.met.S.Feed.feeds_both c.reads.invariant read.new.input read.result (omega (arith, some, read.auto.input, c.reads.auto.input)) read.ensures.bytes
    (rw c.if-not-more.true at c.in_ok-more.ensures)

pub returns : goal.returns
returns g c = taking_too_long c.reads.invariant (omega arith)
