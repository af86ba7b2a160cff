use Rattle.std.proofs.Common.{rules, arith, refl, sym, ◌∙◌}
use Rattle.session_lines.proofs.FeedLaws.{next_tells, next_within, ended}
use Rattle.session_lines.proofs.lines.serve_lines.Goals as goal

pub loop-feed-preserved : goal.loop-feed-preserved
loop-feed-preserved c =
    let l = c.loop-feed in
    let i = l.invariant in
    let served = c.serve_line-verdict in
    let told = c.next.ensures.told in
    let put = c.put_line-written in
    let inside = c.loop-feed-test.true in
    let counts = rw (i.counted, ← told) at c.next.ensures.counts in
    record {
      most = omega (arith, inside);
      within = next_within c.next.new.self served.result (omega (arith, c.if-out-written-lt-ROOM.false, i.within)) put.auto.out put.ensures;
      nothing = λ e. omega arith;
      none = λ h. refl;
      found = c.next_line_feed-feed-in-loop-feed.ensures;
      counted = sym told;
      line_size = i.line_size;
      table_size = served.auto.table ∙ i.table_size;
      scratch_size = served.auto.scratch ∙ i.scratch_size;
      out_size = put.auto.out ∙ i.out_size;
      tells =
          next_tells c.args.input.now l.taken i.found l.out l.written i.tells inside c.request-asked.ensures served.ensures counts
          (rw (← told) at put.ensures);
    }

pub returns : goal.returns
returns c =
    let i = c.loop-feed.invariant in
    ended i c.loop-feed-test.false (i.line_size ∙ search rules) c.keep.ensures
