use Rattle.machine.specs.Queue.{put_slot}
use Rattle.queue.specs.Sums.{packet_of}
use Rattle.calls.proofs.RowLaws.{queued_refused, queued_done, appended_at}
use Rattle.calls.proofs.queued.Goals as goal
use Rattle.calls.proofs.queued.Goals.{in-Ok, in_default}

pub returns : goal.returns
unfolding put_slot
returns c =
    let i = c.args in
    let t = i.table.now in
    let p = packet_of i.packet in
    let asked = c.late_asked-asked in
    let late = asked.ensures in
    let answer = c.and-answer in
    let value = c.value_of-value in
    let next = c.match-asked.next in
    elim c.match-asked.branch [
      | in-Ok w ↦
          queued_done t i.queue p asked.result late value.result answer.result next w.in-Ok.is answer.ensures value.ensures
          (appended_at i.queue next p w.slot_after-j.result w.slot_after-j.ensures.0 w.next-is)
      | in_default w ↦
          queued_refused t i.queue p asked.result late value.result w.in_default.field-0 answer.result next w.in_default.is answer.ensures w.next-is
    ]
