-- The definitions mean what `Facts` says.
use lib.ListN.{length}
use borrow.Author.Tests.{le-leb}
use Rattle.machine.specs.Table.{capacity, scratch_words}
use Rattle.machine.specs.Step.{unreached}
use Rattle.machine.specs.Questions.{scratch_enough}
use Rattle.machine.specs.Facts.{Meanings}
use Rattle.machine.proofs.Questions.{shape_is, shape_test, lent_is}
use Rattle.machine.proofs.Chain.{chain_is}
use Rattle.machine.proofs.Replay.{replay_is}
use Rattle.machine.proofs.Undo.{undoing_is}
use Rattle.machine.proofs.Select.{select_indices, dead_is}
use Rattle.machine.proofs.Sweep.{sweeps}
use Rattle.machine.proofs.Fresh.{fresh_is}

pub meanings : Meanings
unfolding unreached scratch_enough
meanings = record {
  shape = λ t q. (shape_is t q, shape_test t q);
  lent = λ t q s. (λ h. lent_is t q s h.0 h.1, λ l. (shape_test t q l.shape, le-leb (scratch_words (capacity t)) (length s) l.scratch));
  chain = chain_is;
  replay = replay_is;
  undoing = undoing_is;
  dead = dead_is;
  sweep = λ t f. sweeps t (unreached t) f (select_indices (capacity t) _);
  fresh = fresh_is;
}
