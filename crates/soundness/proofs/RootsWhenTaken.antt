-- Name counts stay those of the queue when a packet is taken, so roots are told from the cell there too.
use mathlib.Core.List.{List}
use Prim.Native.Nat.{ℕ}
use Rattle.machine.specs.Queue.{waiting, taken}
use Rattle.machine.specs.Step.{apply_packet}
use Rattle.machine.proofs.Select.{dead_is}
use Rattle.machine.proofs.RootsByCell.{Counted, sound_counted, protected_is, root_is, by_queue, by_cell}
use Rattle.soundness.specs.RootsWhenTaken.{TakenRoots, RootsWhenTaken}
use Rattle.soundness.proofs.Facts.{slots_of, sound_facts}
use Rattle.soundness.proofs.NameCounts.{packet_counted}
use Rattle.soundness.proofs.StepSound.{waiting_rest}

pub roots_when_taken : RootsWhenTaken
roots_when_taken t q p ps w e =
    let g = rw e at (sound_facts t q w.sound) in
    let d = packet_counted t p ps g (rw e at (sound_counted t q w.sound)) in
    rest (rw (waiting_rest q p ps (slots_of t q w.sound) e) d)
  where
    u : List ℕ
    u = apply_packet t p

    rest : Counted u (waiting (taken q)) → TakenRoots t p (taken q)
    rest n = record {
      by_cell = record {
        protected = protected_is u (waiting (taken q)) n;
        roots = root_is u (waiting (taken q)) n;
        reached = λ i. (by_queue u (waiting (taken q)) n, by_cell u (waiting (taken q)) n);
      };
      freed = λ i. (
        λ h. let k = ((dead_is u).members i).0 h in (k.0, k.1, λ r. k.2 (by_cell u (waiting (taken q)) n r)),
        λ k. ((dead_is u).members i).1 (k.0, k.1, λ r. k.2 (by_queue u (waiting (taken q)) n r)),
      );
    }
