use Rattle.roster.proofs.PromiseLaws.{reading_illegal, reading_clipped, reading_low}
use native.Mathlib.Omega.{arith}
use Rattle.roster.proofs.ask.reading_asked.Goals as goal

pub returns-then-reading-ge-FIRST_ATOM : goal.returns-then-reading-ge-FIRST_ATOM
returns-then-reading-ge-FIRST_ATOM c = reading_illegal _ c.if-reading-ge-FIRST_ATOM.true

pub returns-then-reading-ge-CLIP : goal.returns-then-reading-ge-CLIP
returns-then-reading-ge-CLIP c = reading_clipped _ (omega (arith, c.if-reading-ge-FIRST_ATOM.false)) c.if-reading-ge-CLIP.true

pub returns : goal.returns
returns c = reading_low c.args.reading (omega (arith, c.if-reading-ge-CLIP.false))
