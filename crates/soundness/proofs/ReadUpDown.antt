-- The calls that write no field: car, cdr, up and down.
use mathlib.Core.Path.{◌≡◌, refl}
use mathlib.Core.Logic.{inl}
use mathlib.Core.Bool.{true}
use mathlib.Core.List.{List, [], ◌∷◌, ◌++◌}
use Prim.Native.Nat.{ℕ, suc, pred, ◌≤◌, ◌<◌}
use native.Mathlib.Omega.{arith}
use lib.Dec.{leb}
use borrow.Author.Tests.{leb-true}
use Rattle.machine.specs.Words.{is_cell, ceiling}
use Rattle.machine.specs.Table.{right, capacity, word_at}
use Rattle.machine.specs.Queue.{Packet, packet}
use Rattle.machine.specs.Packets.{Kind, reads, makes, replaces, raises, lowers, unknown, kind_of, names_of, names, uses_of, uses}
use Rattle.machine.specs.Questions.{number_in_range}
use Rattle.machine.specs.Audit.{words_of_kind, packet_legal}
use Rattle.machine.proofs.Range.{and_both, and_first, matching_same}
use Rattle.machine.proofs.Words.{cell_index}
use Rattle.soundness.proofs.Views.{shown, Same, undone_view, HoldsOf, WrittenOf}
use Rattle.soundness.proofs.LegalPackets.{Fit, fit_nil, cell_legal, cell_used, names_one, names_three, LegalPacket}
use Rattle.soundness.proofs.Facts.{Facts, Live}
use Rattle.soundness.proofs.HeldCounts.{replay_append}
use Rattle.soundness.proofs.ReachedCells.{reached_grows, root_stays}
use Rattle.soundness.proofs.NewPacket.{Wrote, append_facts, operand_fit}
use Rattle.soundness.proofs.RowQuestions.{Passed}

-- kinds whose calls write nothing
abbrev pub Idle : Kind → Type 0
Idle reads = Unit {0}
Idle makes = ⊥
Idle (replaces k) = ⊥
Idle raises = Unit {0}
Idle lowers = Unit {0}
Idle unknown = Unit {0}

pub wrote_nothing : (t : List ℕ) (n a b c : ℕ) → Idle (kind_of n) → Wrote t t (packet n a b c)
wrote_nothing t n a b c h = let w = go (kind_of n) h in record { same_capacity = refl; below = w.0; holds = w.1; undoes = w.2 }
  where
    go : (k : Kind) → Idle k
        → WrittenOf (λ i m. (i < capacity t) × (m ≤ right)) k c × HoldsOf k a b c (shown t) × Same (capacity t) (undone_view k a b c (shown t)) (shown t)
    go reads h = (tt, tt, λ i m _ _. refl)
    go makes h = absurd h
    go (replaces k) h = absurd h
    go raises h = (tt, tt, λ i m _ _. refl)
    go lowers h = (tt, tt, λ i m _ _. refl)
    go unknown h = (tt, tt, λ i m _ _. refl)

module _ (t : List ℕ) (ps : List Packet) (f : Facts t ps) where
  -- a packet whose call wrote nothing joins
  unwritten_facts : (p : Packet) → Passed t t ps p → LegalPacket t p → Wrote t t p → Facts t (ps ++ (p ∷ []))
  unwritten_facts p y l w = append_facts t t ps p f (record {
    same_length = refl;
    wrote = w;
    states = f.states;
    roots = f.roots;
    counts = λ i _. refl;
    keeps = λ i _ e. e;
    fields = f.fields;
    free = f.free;
    chain = f.chain;
    legal = l;
    replay = λ i m. replay_append (suc i) _ ps p (f.replay i m) (y.held i m) (y.most i m);
    within = y.within;
  })

  -- a packet more makes more roots
  pub unwritten_live : (p : Packet) → Live t ps → Live t (ps ++ (p ∷ []))
  unwritten_live p live i l u = reached_grows t t ps (ps ++ (p ∷ [])) refl (λ j _. root_stays t t ps p j (λ h. h)) (λ j k _ _ e. inl e) (live i l u)

  module _ (x : ℕ) (cell : is_cell (capacity t) x ≡ true) where
    -- a read of a field of x
    module _ (k : ℕ) (low : k ≤ right) (y : Passed t t ps (packet 1 x (word_at t (pred x) k) 0)) where
      abbrev read : Packet
      read = packet 1 x (word_at t (pred x) k) 0

      reader_fit : Fit t x
      reader_fit =
          operand_fit t ps f read x y.held (cell_legal (capacity t) x cell) (λ i e. unfold uses uses_of kind_of in omega (arith, matching_same x (suc i) 1 e))

      word_fit : Fit t (word_at t (pred x) k)
      word_fit = f.fields (pred x) k (cell_index (capacity t) x cell) low (cell_used t x cell reader_fit)

      pub read_facts : Facts t (ps ++ (read ∷ []))
      unfolding packet_legal words_of_kind names names_of kind_of
      read_facts =
          unwritten_facts read y
          (record { words = and_both (and_both cell word_fit.legal) refl; names = names_three (Fit t) x (word_at t (pred x) k) 0 reader_fit word_fit (fit_nil t) })
          (wrote_nothing t 1 x (word_at t (pred x) k) 0 tt)

    -- more and fewer holds of x
    module _ (n : ℕ) (number : number_in_range n ≡ true) where
      pub up_facts : Passed t t ps (packet 4 x n 0) → Facts t (ps ++ (packet 4 x n 0 ∷ []))
      unfolding packet_legal words_of_kind names names_of uses uses_of kind_of
      up_facts y =
          unwritten_facts (packet 4 x n 0) y
          (record {
            words = and_both (and_both cell number) refl;
            names = names_one (Fit t) x (operand_fit t ps f (packet 4 x n 0) x y.held (cell_legal (capacity t) x cell)
                (λ i e. omega (arith, matching_same x (suc i) 1 e)));
          })
          (wrote_nothing t 4 x n 0 tt)

      pub down_facts : Passed t t ps (packet 5 x n 0) → Facts t (ps ++ (packet 5 x n 0 ∷ []))
      unfolding packet_legal words_of_kind names names_of uses uses_of kind_of number_in_range
      down_facts y =
          unwritten_facts (packet 5 x n 0) y
          (record {
            words = and_both (and_both cell number) refl;
            names = names_one (Fit t) x (operand_fit t ps f (packet 5 x n 0) x y.held (cell_legal (capacity t) x cell)
                (λ i e. omega (arith, matching_same x (suc i) n e, leb-true 1 n (and_first (leb 1 n) (leb n ceiling) number))));
          })
          (wrote_nothing t 5 x n 0 tt)
