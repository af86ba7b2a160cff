-- A reply that is written, as the machine's.
use Rattle.machine.specs.Calls as machine
use Rattle.machine.specs.Answers.{refusal_number, rule_number}
use Rattle.state_lines.specs.declared.replies.Reply.{Reply}
use Rattle.state_lines.specs.declared.replies.Reply.TheVariants.{Value, Refused, Idle, Applied, Sound, Broken}

abbrev pub paper_reply : Reply → machine.Reply
paper_reply (Value w) = machine.value w
paper_reply (Refused r) = machine.refused (refusal_number r)
paper_reply Idle = machine.idle
paper_reply (Applied k n) = machine.applied k n
paper_reply Sound = machine.sound
paper_reply (Broken r) = machine.broken (rule_number r)
