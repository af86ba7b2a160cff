-- What an output line says of a reply.
use Rattle.machine.specs.Calls.{Reply, value, refused, idle, applied, sound, broken, text}
use Rattle.line_text.specs.declared.Verdict.{Verdict}

-- the value of a step is the cells freed; a session has no audits and no texts
abbrev pub verdict_of : Reply → Verdict
verdict_of (value v) = Verdict.Ok v
verdict_of (refused n) = Verdict.No n
verdict_of idle = Verdict.Idle
verdict_of (applied kind freed) = Verdict.Ok freed
verdict_of sound = Verdict.Ok 0
verdict_of (broken n) = Verdict.No n
verdict_of (text bytes) = Verdict.Ok 0
