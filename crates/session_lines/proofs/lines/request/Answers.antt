use mathlib.Core.Path.{sym, ap, ◌∙◌}
use native.Mathlib.Omega.{arith}
use lib.Seq.{length-take-le}
use Rattle.line_text.specs.Requests.{request_of}
use Rattle.line_text.proofs.KeepLaws.{request_capped}
use Rattle.session_lines.proofs.lines.request.Goals as goal

pub returns-then-held-eq0 : goal.returns-then-held-eq0
returns-then-held-eq0 c = rw c.if-held-eq0.true c.parse.ensures

pub slice_bounds-parse-end : goal.slice_bounds-parse-end
slice_bounds-parse-end c =
    let kept = c.keep-size.ensures in
    sym (length-take-le _ _ (omega (arith, kept.most, kept.size)))

pub returns : goal.returns
returns c =
    let front = rw c.requires at c.keep-size.ensures.front in
    c.parse-2.ensures ∙ ap request_of front ∙ sym (request_capped _)
