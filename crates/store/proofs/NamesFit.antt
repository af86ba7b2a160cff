-- On a sound store the cells that an accepted call's packet names have room in their name counts: they stand at three for each slot at most.
use mathlib.Core.Path.{◌≡◌}
use mathlib.Core.List.{List, [], ◌∷◌}
use Prim.Native.Nat.{ℕ, suc, pred, ◌+◌, ◌*◌, ◌≤◌, ◌<◌}
use native.Mathlib.Omega.{arith}
use lib.ListN.{length}
use Rattle.machine.specs.declared.Queue.{Queue}
use Rattle.machine.specs.Table.{name_count, capacity, table_length, word_at}
use Rattle.machine.specs.Queue.{Arrays, Packet, slots, waiting}
use Rattle.machine.specs.Packets.{Kind, reads, makes, replaces, raises, lowers, unknown, kind_of, name, plus, names_of, names, name_changes}
use Rattle.machine.specs.Calls.{RowCall, row, store, packet_of, written}
use Rattle.machine.specs.Step.{move_count}
use Rattle.machine.specs.Questions.{first_no, questions}
use Rattle.machine.specs.Audit.{Sound}
use Rattle.machine.proofs.Words.{cell_index}
use Rattle.machine.proofs.Moves.{length_move, capacity_move, count_move}
use Rattle.machine.proofs.Names.{matching_few, times_most}
use Rattle.machine.proofs.Ring.{length_waiting}
use Rattle.machine.proofs.Questions.{shape_is}
use Rattle.machine.proofs.Kept.{early_yes, framed_written}
use Rattle.machine.proofs.RootsByCell.{sound_counted}
use Rattle.soundness.proofs.Facts.{sound_facts}
use Rattle.soundness.proofs.RowQuestions.{row_yes}
use Rattle.soundness.proofs.RowWrites.{row_names}
use Rattle.counts.specs.Changes.{ChangesFit}
use Rattle.calls.specs.Called.{NamesFit}

-- words named in a table whose name counts are at most m
few_fit : (u : List ℕ) (ws : List ℕ) (m : ℕ) → table_length (capacity u) ≤ length u → ((i : ℕ) → i < capacity u → word_at u i name_count ≤ m) → m + length ws < 65536
    → ChangesFit u (name_changes plus ws)
unfolding name_changes
few_fit u [] m f h l = tt
few_fit u (w ∷ ws) m f h l =
    let v = move_count u name w plus 1 in
    let same = capacity_move u name w plus 1 in (
      λ c. omega (arith, h (pred w) (cell_index (capacity u) w c)),
      few_fit v ws (m + 1) (rw (same, length_move u name w plus 1) f)
          (λ i k. let j : i < capacity u = rw same at k in omega (arith, count_move u name w plus 1 f i j, h i j, matching_few w (suc i))) (omega arith),
    )

three_names : (p : Packet) → length (names p) ≤ 3
unfolding names names_of
three_names p = go (kind_of p.kind)
  where
    go : (k : Kind) → length (names_of k p.a p.b p.c) ≤ 3
    go reads = omega arith
    go makes = omega arith
    go (replaces f) = omega arith
    go raises = omega arith
    go lowers = omega arith
    go unknown = omega arith

pub names_fit : (t : List ℕ) (q : Queue) → Sound t q → Arrays q → (r : RowCall) → first_no (questions (store t q []) (row r)) ≡ 0 → NamesFit t r
names_fit t q s a r e n =
    let u = written t r in
    let frame = framed_written (store t q []) r (early_yes (store t q []) (row r) e) in
    let shape = shape_is t q s.shape in
    let y = row_yes (store t q []) r n a e in
    few_fit u (names (packet_of t r)) (3 * slots) (rw (frame.same_capacity, frame.same_length) shape.table.room)
    (λ i l. let m : i < capacity t = rw frame.same_capacity at l in
    omega (arith, row_names t (waiting q) (sound_facts t q s) r y.free i m, sound_counted t q s i m, times_most (waiting q) (suc i), length_waiting q, shape.queue.count))
    (omega (arith, three_names (packet_of t r)))
