use Rattle.std.proofs.Common.{◌≡◌, ◌∙◌, arith, ◌+◌, ◌-◌, ◌*◌}
use Rattle.std.proofs.Math.Seq.{paste, length-paste}
use Rattle.std.proofs.lemmas.Slice.{put_mid-paste}
use borrow.Rule.Slice.PartMut.{put_mid}
use Rattle.machine.specs.Queue.{slots}
use Rattle.c_layout.specs.Queues.{array_at}
use Rattle.c_layout.proofs.queues.put_array.Goals as goal

pub returns : goal.returns
returns c =
    let words = c.args.words.now in
    let array = c.args.array.now in
    let at = array_at c.args.k in
    let many = 64 * (c.args.k + 1) - 64 * c.args.k in
    let put : put_mid at many words c.copy_from_slice.new.self ≡ paste words at array slots =
    put_mid-paste at many words c.copy_from_slice.new.self array slots c.copy_from_slice.ensures.after (omega arith) (omega arith)
    in
    record { words = put; size = rw put (length-paste words at array slots (omega arith) (omega arith) ∙ c.told-words) }
