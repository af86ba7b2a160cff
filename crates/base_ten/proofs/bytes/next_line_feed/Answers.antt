use Rattle.std.proofs.Common.{◌+◌, None, Some, arith, ap, length-drop}
use Rattle.base_ten.specs.Bytes.{line_feed}
use Rattle.base_ten.proofs.ByteLaws.{first_from}
use Rattle.base_ten.proofs.bytes.next_line_feed.Goals as goal

pub returns-in-Some : goal.returns-in-Some
returns-in-Some c =
    let f = first_from line_feed c.args.s.now c.args.start (Some c.in-Some.found) c.in-Some.ensures in
    ap (λ i. c.args.start + i) f.0

pub returns-in-None : goal.returns-in-None
returns-in-None c =
    let s = c.args.s.now in
    let f = first_from line_feed s c.args.start None c.in-None.ensures in
    omega (arith, f, length-drop c.args.start s)
