use Rattle.std.proofs.Common.{◌≡◌, ◌+◌, ◌≤◌, arith, ◌∙◌}
use Rattle.base_ten.proofs.PutLaws.{put_both_lem, put_within}
use Rattle.call_text.specs.CallText.{line_room}
use Rattle.call_text.proofs.TextLaws.{line_length}
use Rattle.load_lines.proofs.WriteLaws.{next_listing, both_within}
use Rattle.load_lines.proofs.lines.serve_calls.Goals as goal

pub put_line-written-requires : goal.put_line-written-requires
put_line-written-requires c =
    let put = c.put_call_line-written in
    let within = put_within line_room put.ensures (line_length c.next_call-drawn.result.request) in
    omega (arith, within, put.auto.out, c.if-out-written-lt-BOTH_ROOM.false, c.loop-present.invariant.within)

pub loop-present-preserved : goal.loop-present-preserved
loop-present-preserved c =
    let l = c.loop-present in
    let i = l.invariant in
    let served = c.serve-verdict in
    let request = c.next_call-drawn.result.request in
    let asked = i.asked ∙ c.requires in
    let left : l.present.done ≤ c.args.workload.calls = omega (arith, c.loop-present-test.true, c.from-in-loop-present.ensures) in
    let number : c.next.new.self ≡ l.present.done + 1 = omega (arith, i.counted, left, c.next.ensures.counts.one (omega (arith, i.counted, left))) in
    let both = put_both_lem c.put_call_line-written.ensures (rw number at c.put_line-written.ensures) in
    let size = c.put_line-written.auto.out ∙ c.put_call_line-written.auto.out in
    record {
      within = both_within request (l.present.done + 1) served.result (omega (arith, c.if-out-written-lt-BOTH_ROOM.false, i.within)) size both;
      nothing = λ e. omega (arith, i.grows);
      grows = omega (arith, i.grows);
      counted = number;
      asked = i.asked;
      table_size = served.auto.table ∙ i.table_size;
      scratch_size = served.auto.scratch ∙ i.scratch_size;
      out_size = size ∙ i.out_size;
      good = λ g. (served.ensures (i.good g)).good;
      listing = λ g. next_listing l.present l.table l.scratch asked left c.next_call-drawn.ensures (served.ensures (i.good g)) both (i.listing g);
    }
