use native.Mathlib.Omega.{arith}
use borrow.Author.Rules.{rules}
use Rattle.session_lines.proofs.FeedLaws.{finish_none, finish_line, all_told, more_waits}
use Rattle.session_lines.proofs.finish.Goals as goal

pub returns-then-session-eq0 : goal.returns-then-session-eq0
returns-then-session-eq0 c = all_told (finish_none c.args.session c.if-session-eq0.true)

pub returns-then-out-lt-ROOM : goal.returns-then-out-lt-ROOM
returns-then-out-lt-ROOM c = more_waits c.if-out-lt-ROOM.true

pub returns : goal.returns
returns c =
    let k = c.serve_lines-fed in
    all_told
    (finish_line c.args.session (search rules) c.if-session-eq0.false (omega (arith, k.auto.out, c.if-out-lt-ROOM.false)) k.ensures)
