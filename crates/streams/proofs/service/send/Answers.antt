use Rattle.std.proofs.Common.{refl, ◌++◌, take, Err}
use Rattle.std.proofs.lemmas.Result.{err_from_is_err_and}
use Rattle.std.proofs.lemmas.Bool.{not-false}
use Rattle.streams.proofs.ServiceLaws.{adds_both, going_more}
use Rattle.streams.proofs.service.send.Goals as goal

pub returns-in_err-write_all-clause-sends : goal.returns-in_err-write_all-clause-sends
returns-in_err-write_all-clause-sends g c =
    let p = err_from_is_err_and c.from_residual.result c.from_residual.ensures.1 in
    let so_far = c.loop.invariant.1 in
    rw (p.1, p.2) (record {
      given = so_far.given ++ _;
      more = c.next-sent.result.more;
      sends = so_far.goes_on _ _ _ _ c.next-sent.ensures.send;
      over = tt;
      adds = adds_both (g.W.Write.contents c.args.writer.now) (g.W.Write.contents c.loop.writer) (g.W.Write.contents c.write_all.new.writer) so_far.given
          (take c.next-sent.result.written c.next-sent.new.out) (Err c.in_err-write_all.field-0.0) so_far.appends c.in_err-write_all.ensures.bytes;
    })

pub loop-preserved : goal.loop-preserved
loop-preserved g c =
    let more = not-false _ c.if-not-sent.false in
    let send = rw more at c.next-sent.ensures.send in
    (c.next-sent.ensures.ready (rw more refl), going_more g.met.S.Source.sends_both c.loop.invariant.1 send c.in_ok-write_all.ensures.bytes)
