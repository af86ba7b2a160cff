use Rattle.std.proofs.Common.{arith, refl, ◌∙◌}
use Rattle.rule_lines.proofs.FeedLaws.{next_tells, ended}
use Rattle.rule_lines.proofs.feed.Goals as goal

pub loop-next-preserved : goal.loop-next-preserved
loop-next-preserved c =
    let i = c.loop-next.invariant in
    let answered = c.answer_held-written in
    let inside = c.loop-next-test.true in
    record {
      most = omega (arith, inside);
      within = omega (arith, answered.ensures.within, answered.auto.out, c.if-out-written-lt-ROOM.false, i.within);
      nothing = λ e. omega arith;
      found = c.next_line_feed-next-in-loop-next.ensures;
      table_size = answered.auto.table ∙ i.table_size;
      scratch_size = answered.auto.scratch ∙ i.scratch_size;
      line_size = answered.auto.line ∙ i.line_size;
      out_size = answered.auto.out ∙ i.out_size;
      tells = next_tells i inside refl answered.auto.line answered.ensures;
    }

pub returns : goal.returns
returns c = ended c.loop-next.invariant c.loop-next-test.false c.keep.ensures
