use mathlib.Core.Bool.{not}
use mathlib.Core.Path.{sym, ap}
use borrow.Author.Tests.{not-true, not-false}
use native.Mathlib.Omega.{arith}
use Rattle.reader.proofs.CalledLaws.{slots_few, slots_enough}
use Rattle.reader.proofs.asked.pairs_asked.Goals as goal

pub returns-then-count-n : goal.returns-then-count-n
returns-then-count-n c =
    rw (slots_few c.args.count c.args.n c.requires.1 (omega arith))

pub returns-then-not-chain_has : goal.returns-then-not-chain_has
returns-then-not-chain_has c =
    rw (slots_enough c.args.count c.args.n c.requires.1 (omega arith), sym c.chain_has.ensures, not-true _ (ap not c.if-not-chain_has.true))

pub returns : goal.returns
returns c =
    rw (slots_enough c.args.count c.args.n c.requires.1 (omega arith), sym c.chain_has.ensures, not-false _ (ap not c.if-not-chain_has.false))
