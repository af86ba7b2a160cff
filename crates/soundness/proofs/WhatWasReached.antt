-- What was reached before the oldest packet p is applied: a class of cells that has the roots, the cell in the watched word of p if it is one, and
-- whatever the fields of its cells hold, has every cell that was reached. So only what hangs on the watched word can be lost.
use mathlib.Core.Path.{◌≡◌, refl, sym, ◌∙◌}
use mathlib.Core.Logic.{◌⊎◌, inl, inr, ⊎_elim}
use mathlib.Core.Bool.{true, false, ◌&&◌, false≢true}
use mathlib.Core.List.{List, ◌∷◌}
use Prim.Native.Nat.{ℕ, suc, pred, ◌+◌, ◌-◌, ◌≤◌, ◌<◌}
use native.Mathlib.Omega.{arith}
use lib.Dec.{ltb, eqb}
use borrow.Author.Tests.{eqb-true, ltb-true, lt-ltb}
use Rattle.machine.specs.Words.{is_cell, is_legal}
use Rattle.machine.specs.Table.{left, right, root_count, capacity, word_at}
use Rattle.machine.specs.Queue.{Packet}
use Rattle.machine.specs.Packets.{Kind, reads, makes, replaces, raises, lowers, unknown, kind_of, root, plus, minus, changes_of, changes, names_of, names, uses_of, uses, moved_by, contains, is_named}
use Rattle.machine.specs.Reached.{is_root_by_queue, points_to, begun, onward, ReachedByQueue}
use Rattle.machine.specs.Step.{apply_packet}
use Rattle.machine.specs.Audit.{words_of_kind, packet_legal, replayed}
use Rattle.machine.specs.ShortWay.{watched_of, watched}
use Rattle.machine.proofs.Range.{tested, or_true, or_left, or_right, and_second, matching_same}
use Rattle.machine.proofs.Words.{cell_index, cell_number_lem}
use Rattle.soundness.proofs.PacketKinds.{unnamed}
use Rattle.soundness.proofs.Views.{View, shown, HoldsOf, WrittenOf, earlier, earlier_entry}
use Rattle.soundness.proofs.LegalPackets.{names_one, names_three, named_detached, WrittenIn, legal_written}
use Rattle.soundness.proofs.Stages.{shown_used}
use Rattle.soundness.proofs.Facts.{Facts}
use Rattle.soundness.proofs.ReachedCells.{points_by, points_cases}
use Rattle.soundness.proofs.OldestPacket.{applied_fields, applied_root, enough}
use Rattle.soundness.proofs.NameCounts.{packet_capacity, packet_word}

-- a cell in a field before the packets ps is still there, or one of them names it
field_or_named : (v : View) (ps : List Packet) (i k j : ℕ) → earlier v ps i k ≡ suc j → (v i k ≡ suc j) ⊎ (is_named ps (suc j) ≡ true)
field_or_named v ps i k j =
    earlier_entry (λ w. w ≡ suc j → (v i k ≡ suc j) ⊎ (is_named ps (suc j) ≡ true)) v ps i k (λ e. absurd (omega arith))
    (named_detached (λ w. w ≡ suc j → (v i k ≡ suc j) ⊎ (is_named ps (suc j) ≡ true)) ps (λ w n e. inr (rw e at n))) inl

module _ (t : List ℕ) (p : Packet) (ps : List Packet) (f : Facts t (p ∷ ps)) where
  abbrev u : List ℕ
  u = apply_packet t p

  below : {i : ℕ} → i < capacity t → i < capacity u
  below l = rw (packet_capacity t p ps f) l

  root_count_lem : (i : ℕ) → i < capacity t → word_at u i root_count ≡ replayed (suc i) p (word_at t i root_count)
  root_count_lem i l = packet_word t p ps f i root_count (omega arith) (omega arith) ∙ applied_root t p ps f i l

  same_field : (i k : ℕ) → k ≤ right → word_at u i k ≡ word_at t i k
  same_field i k l = packet_word t p ps f i k (omega arith) (omega arith) ∙ applied_fields t p ps f i k l

  edge_stands : (j i : ℕ) → points_to t j i ≡ true → points_to u j i ≡ true
  edge_stands j i e = let w = points_cases t j i e in points_by u j i w.0 w.1 (same_field j w.0 w.1 ∙ w.2)

  -- the class, and why it has the roots, what its fields hold, and the watched cell
  module _ (Class : ℕ → Type 0) (roots : (i : ℕ) → i < capacity u → is_root_by_queue u ps i ≡ true → Class i)
      (edges : (j i : ℕ) → Class j → i < capacity u → points_to u j i ≡ true → Class i) (met : (i : ℕ) → i < capacity u → watched p ≡ suc i → Class i) where
    -- the word w is no cell, or one of the class
    abbrev InClass : ℕ → Type 0
    InClass w = (i : ℕ) → i < capacity t → w ≡ suc i → Class i

    waiting_in : (i : ℕ) → i < capacity t → is_named ps (suc i) ≡ true → Class i
    unfolding is_root_by_queue
    waiting_in i l n = roots i (below l) (or_right (ltb 0 (word_at u i root_count)) n)

    counted_in : (i : ℕ) → i < capacity t → 0 < replayed (suc i) p (word_at t i root_count) → Class i
    unfolding is_root_by_queue
    counted_in i l h = roots i (below l) (or_left (is_named ps (suc i)) (lt-ltb 0 (word_at u i root_count) (rw (root_count_lem i l) h)))

    -- the word that the packet's call wrote to a cell of the class
    written_in : (i k w : ℕ) → WrittenIn t i k → earlier (shown t) ps i k ≡ w → Class i → InClass w
    written_in i k w h e r j l d =
        ⊎_elim (λ s. edges i j r (below l) (edge_stands i j (points_by t i j k h.field (sym (shown_used t i k h.used) ∙ s))))
        (waiting_in j l) (field_or_named (shown t) ps i k j (e ∙ d))

    named_in : (w : ℕ) → contains (names p) w ≡ true → InClass w
    unfolding names watched uses replayed changes packet_legal words_of_kind names_of watched_of uses_of changes_of moved_by
    named_in =
        go (kind_of p.kind) p.a p.b p.c f.legal.0.words (legal_written t p f.legal.0) f.stages.1 (λ i l. met i (below l))
        (enough t p ps f) counted_in
      where
        go : (n : Kind) (a b c : ℕ) → words_of_kind (capacity t) n a b c ≡ true → WrittenOf (WrittenIn t) n c → HoldsOf n a b c (earlier (shown t) ps)
            → InClass (watched_of n a b c)
            → ((i : ℕ) → i < capacity t → uses_of n a b c (suc i) ≤ word_at t i root_count)
            → ((i : ℕ) → i < capacity t
            → 0 < word_at t i root_count + moved_by root plus (suc i) (changes_of n a b) - moved_by root minus (suc i) (changes_of n a b) → Class i)
            → (w : ℕ) → contains (names_of n a b c) w ≡ true → InClass w
        go reads a b c legal written holds met held counted = names_three InClass a b c met raised none
          where
            raised : InClass b
            raised i l e = counted i l (omega (arith, held i l, matching_same b (suc i) 1 e))

            none : InClass c
            none i l e = absurd (omega (arith, eqb-true c 0 (and_second (is_cell (capacity t) a && is_legal (capacity t) b) (eqb c 0) legal)))
        go makes a b c legal written holds met held counted =
            names_three InClass a b c (written_in (pred c) left a written.0 holds.0 new) (written_in (pred c) right b written.1 holds.1 new) met
          where
            new : Class (pred c)
            new =
                let number = and_second (is_legal (capacity t) a && is_legal (capacity t) b) (is_cell (capacity t) c) legal in
                met (pred c) (cell_index (capacity t) c number) (cell_number_lem (capacity t) c number)
        go (replaces k) a b c legal written holds met held counted =
            names_three InClass a b c (written_in (pred c) k a written holds (replaced (pred c) (cell_index (capacity t) c number) (cell_number_lem (capacity t) c number)))
            met replaced
          where
            number : is_cell (capacity t) c ≡ true
            number = and_second (is_legal (capacity t) a && is_legal (capacity t) b) (is_cell (capacity t) c) legal

            -- held besides the word put, whose hold alone is given up
            replaced : InClass c
            replaced i l e = counted i l (omega (arith, held i l, matching_same c (suc i) 1 e))
        go raises a b c legal written holds met held counted = names_one InClass a raised
          where
            raised : InClass a
            raised i l e = counted i l (omega (arith, held i l, matching_same a (suc i) 1 e))
        go lowers a b c legal written holds met held counted = names_one InClass a met
        go unknown a b c legal written holds met held counted = λ w m. absurd (false≢true (unfold contains in m))

    roots_in : (i : ℕ) → i < capacity t → is_root_by_queue t (p ∷ ps) i ≡ true → Class i
    unfolding is_root_by_queue is_named
    roots_in i l r = ⊎_elim (λ m. named_in (suc i) m i l refl) other (tested (contains (names p) (suc i)))
      where
        other : contains (names p) (suc i) ≡ false → Class i
        other m =
            let s = unnamed p (suc i) m in
            let e : replayed (suc i) p (word_at t i root_count) ≡ word_at t i root_count = unfold replayed in omega (arith, s.still root plus, s.still root minus) in
            ⊎_elim (λ c. counted_in i l (rw e (ltb-true 0 (word_at t i root_count) c))) (waiting_in i l)
            (or_true (ltb 0 (word_at t i root_count)) (is_named ps (suc i)) (rw m at r))

    pub reached_before : {i : ℕ} → ReachedByQueue t (p ∷ ps) i → Class i
    reached_before (begun {i = i} l r) = roots_in i l r
    reached_before (onward {j = j} {i = i} r l e) = edges j i (reached_before r) (below l) (edge_stands j i e)
