use mathlib.Core.Path.{sym, ap, ◌∙◌}
use native.Mathlib.Omega.{arith}
use Rattle.scanner.specs.Scans.{judged}
use Rattle.scanner.proofs.ScanLaws.{long_outside, short_judged}
use Rattle.scanner.proofs.ModeLaws.{none_stacked}
use Rattle.scanner.proofs.scan.Goals as goal

pub returns-then-text-gt-MOST_TEXT : goal.returns-then-text-gt-MOST_TEXT
returns-then-text-gt-MOST_TEXT c = long_outside _ c.if-text-gt-MOST_TEXT.true

pub loop-s-init : goal.loop-s-init
loop-s-init c = c.start-s.ensures _ _ c.if-text-gt-MOST_TEXT.false none_stacked

pub loop-s-smaller : goal.loop-s-smaller
loop-s-smaller c = omega (arith, c.in-Some.ensures.1, c.loop-s-test.true)

pub loop-s-preserved : goal.loop-s-preserved
loop-s-preserved c = c.in-Some.ensures.0

pub returns-in_default : goal.returns-in_default
returns-in_default c =
    let x = c.loop-s.invariant in
    ap (judged _) (sym c.in_default.ensures) ∙ short_judged _ x.short

pub returns : goal.returns
returns c =
    let x = c.loop-s.invariant in
    c.judge.ensures _ _ x c.loop-s-test.false ∙ short_judged _ x.short
