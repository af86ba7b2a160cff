use mathlib.Core.Path.{ap}
use lib.ListN.{replicate}
use Rattle.line_text.specs.Kept.{kept_bytes}
use Rattle.machine.specs.declared.Queue.{Queue}
use Rattle.session_lines.proofs.Session.start.Goals as goal

pub returns : goal.returns
returns c = ap (λ (q : Queue). record { line = replicate kept_bytes 0; held = 0; lines = 0; queue = q }) c.empty.ensures
