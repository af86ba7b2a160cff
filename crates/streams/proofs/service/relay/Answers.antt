use Rattle.std.proofs.Common.{arith, ◌+◌, ◌++◌, take, Err}
use Rattle.std.proofs.KnownBytes.{Appends-nil, Appends-trans}
use Rattle.std.proofs.lemmas.Result.{err_from_is_err_and}
use Rattle.streams.proofs.ServiceLaws.{adds_both, more_threads, rest_length}
use Rattle.streams.proofs.service.relay.Goals as goal

pub loop-from-init : goal.loop-from-init
loop-from-init g c = record {
  given = _;
  most = omega arith;
  threads = g.met.S.Feed.feeds_none c.args.service.now;
  appends = Appends-nil (g.W.Write.contents c.args.writer.now);
}

pub loop-from-preserved : goal.loop-from-preserved
loop-from-preserved g c =
    let l = c.loop-from in
    let most = c.feed-fed.ensures.most in
    record {
      given = l.invariant.given ++ _;
      most = omega (arith, rest_length c.args.input.now l.from);
      threads = more_threads g.met.S.Feed.feeds_both c.args.input.now _ _ l.from _ l.invariant.threads c.feed-fed.ensures.feeds;
      appends = Appends-trans _ _ _ _ _ l.invariant.appends c.in_ok-write_all.ensures.bytes;
    }

pub returns-in_err-write_all-clause-relays : goal.returns-in_err-write_all-clause-relays
returns-in_err-write_all-clause-relays g c =
    let p = err_from_is_err_and c.from_residual.result c.from_residual.ensures.1 in
    let l = c.loop-from in
    let most = c.feed-fed.ensures.most in
    rw (p.1, p.2) (record {
      taken = l.from + c.feed-fed.result.taken;
      given = l.invariant.given ++ _;
      most = omega (arith, rest_length c.args.input.now l.from);
      all = tt;
      threads = more_threads g.met.S.Feed.feeds_both c.args.input.now _ _ l.from _ l.invariant.threads c.feed-fed.ensures.feeds;
      adds = adds_both (g.W.Write.contents c.args.writer.now) (g.W.Write.contents l.writer) (g.W.Write.contents c.write_all.new.writer) l.invariant.given
          (take c.feed-fed.result.written c.feed-fed.new.out) (Err c.in_err-write_all.field-0.0) l.invariant.appends c.in_err-write_all.ensures.bytes;
    })
