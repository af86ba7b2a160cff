-- S3's replay: a packet's own words, tested at its stage by sums of changes, decide for every cell.
use mathlib.Core.Path.{◌≡◌, refl, sym, ap, ap₂, ◌∙◌, subst}
use mathlib.Core.Logic.{⊎_elim}
use mathlib.Core.Bool.{Bool, true, false, not, ◌&&◌}
use mathlib.Core.List.{List, [], ◌∷◌, ◌++◌}
use Prim.Native.Nat.{ℕ, zero, suc, pred, ◌+◌, ◌%◌, ◌≤◌, ◌<◌}
use native.Mathlib.Numerals.{add-one}
use native.Mathlib.Omega.{arith}
use lib.Dec.{leb, eqb}
use borrow.Author.Tests.{leb-true, le-leb, eqb-true, eqb-false}
use Rattle.machine.specs.declared.Queue.{Queue}
use Rattle.machine.specs.Audit.{cell_sound, cells_sound, replayed, replays}
use Rattle.machine.specs.Packets.{root, plus, minus, Kind, reads, makes, replaces, raises, lowers, unknown, kind_of, changes_of, changes, moved_by, uses_of, uses, waiting_change}
use Rattle.machine.specs.Queue.{Packet, slots, slot, packets_from, waiting}
use Rattle.machine.specs.Range.{every}
use Rattle.machine.specs.Table.{root_count, capacity, word_at}
use Rattle.machine.specs.Words.{is_cell, ceiling}
use Rattle.machine.proofs.Lists.{waiting_snoc}
use Rattle.machine.proofs.Range.{tested, below_suc, and_both, and_first, and_second, or_right, every_at, every_all, matching_other, same_tests}
use Rattle.machine.proofs.Replay.{replays_uses, replays_bound, replays_rest}
use Rattle.machine.proofs.Ring.{packets_snoc}
use Rattle.machine.proofs.Words.{cell_number_lem, cell_index, index_cell}
use Rattle.queue.specs.Held.{HeldSums}
use Rattle.queue.specs.Sums.{CounterSums, WithCount, at_least, at_most_ceiling}
use Rattle.audit_packets.specs.Packets.{packet_on, oldest, cut_to, HeldAfter, stage_sound, word_replays, packet_replays, replays_all}
use Rattle.audit_cells.proofs.Cells.{cell_counts, counts_facts}
use Rattle.audit_cells.proofs.Tests.{and_no_first, and_decides}

-- a root count falls by no more than the call used
minus_of : (k : Kind) (a b c x : ℕ) → moved_by root minus x (changes_of k a b) ≤ uses_of k a b c x
unfolding moved_by changes_of uses_of
minus_of reads a b c x = omega arith
minus_of makes a b c x = omega arith
minus_of (replaces f) a b c x = omega arith
minus_of raises a b c x = omega arith
minus_of lowers a b c x = omega arith
minus_of unknown a b c x = omega arith

minus_uses : (p : Packet) (x : ℕ) → moved_by root minus x (changes p) ≤ uses p x
unfolding changes uses
minus_uses p x = minus_of (kind_of p.kind) p.a p.b p.c x

-- a cell that is none of the packet's words is neither used nor moved
module _ (a b c x : ℕ) (da : a ≡ x → ⊥) (db : b ≡ x → ⊥) (dc : c ≡ x → ⊥) where
  idle_of : (k : Kind) → (uses_of k a b c x ≡ 0) × (moved_by root plus x (changes_of k a b) ≡ 0)
  unfolding uses_of moved_by changes_of
  idle_of reads = (matching_other a x 1 da, omega (arith, matching_other b x 1 db))
  idle_of makes = (omega (arith, matching_other a x 1 da, matching_other b x 1 db), refl)
  idle_of (replaces f) = (omega (arith, matching_other a x 1 da, matching_other c x 1 dc), refl)
  idle_of raises = (matching_other a x 1 da, omega (arith, matching_other a x b da))
  idle_of lowers = (matching_other a x b da, refl)
  idle_of unknown = (refl, refl)

idle : (p : Packet) (x : ℕ) → (p.a ≡ x → ⊥) → (p.b ≡ x → ⊥) → (p.c ≡ x → ⊥) → (uses p x ≡ 0) × (moved_by root plus x (changes p) ≡ 0)
unfolding changes uses
idle p x da db dc = idle_of p.a p.b p.c x da db dc (kind_of p.kind)

module _ (x : ℕ) where
  -- the root count of x after all packets
  running : ℕ → List Packet → ℕ
  running n [] = n
  running n (p ∷ ps) = running (replayed x p n) ps

  abbrev up : List Packet → ℕ
  up ps = waiting_change root plus x ps

  abbrev dn : List Packet → ℕ
  dn ps = waiting_change root minus x ps

  -- where the replay holds nothing is floored
  replayed_sum : (p : Packet) (n : ℕ) → uses p x ≤ n → replayed x p n + moved_by root minus x (changes p) ≡ n + moved_by root plus x (changes p)
  unfolding replayed
  replayed_sum p n h = omega (arith, minus_uses p x)

  running_sum : (n : ℕ) (ps : List Packet) → replays x n ps ≡ true → running n ps + dn ps ≡ n + up ps
  unfolding running waiting_change
  running_sum n [] h = refl
  running_sum n (p ∷ ps) h =
      omega (arith, replayed_sum p n (leb-true (uses p x) n (replays_uses x n p ps h)), running_sum (replayed x p n) ps (replays_rest x n p ps h))

  running_most : (n : ℕ) (ps : List Packet) → n ≤ ceiling → replays x n ps ≡ true → running n ps ≤ ceiling
  unfolding running
  running_most n [] l h = l
  running_most n (p ∷ ps) l h = running_most (replayed x p n) ps (leb-true (replayed x p n) ceiling (replays_bound x n p ps h)) (replays_rest x n p ps h)

  -- one packet more
  replays_more : (n : ℕ) (ps : List Packet) (p : Packet) → replays x n ps ≡ true → uses p x ≤ running n ps → replayed x p (running n ps) ≤ ceiling
      → replays x n (ps ++ (p ∷ [])) ≡ true
  unfolding replays running
  replays_more n [] p h u b = and_both (and_both (le-leb (uses p x) n u) (le-leb (replayed x p n) ceiling b)) refl
  replays_more n (r ∷ ps) p h u b =
      and_both (and_both (replays_uses x n r ps h) (replays_bound x n r ps h)) (replays_more (replayed x r n) ps p (replays_rest x n r ps h) u b)

  replays_fewer : (n : ℕ) (ps : List Packet) (p : Packet) → replays x n (ps ++ (p ∷ [])) ≡ true → replays x n ps ≡ true
  unfolding replays
  replays_fewer n [] p h = refl
  replays_fewer n (r ∷ ps) p h =
      and_both (and_both (replays_uses x n r (ps ++ (p ∷ [])) h) (replays_bound x n r (ps ++ (p ∷ [])) h))
      (replays_fewer (replayed x r n) ps p (replays_rest x n r (ps ++ (p ∷ [])) h))

  replays_last : (n : ℕ) (ps : List Packet) (p : Packet) → replays x n (ps ++ (p ∷ [])) ≡ true
      → (uses p x ≤ running n ps) × (replayed x p (running n ps) ≤ ceiling)
  unfolding running
  replays_last n [] p h = (leb-true (uses p x) n (replays_uses x n p [] h), leb-true (replayed x p n) ceiling (replays_bound x n p [] h))
  replays_last n (r ∷ ps) p h = replays_last (replayed x r n) ps p (replays_rest x n r (ps ++ (p ∷ [])) h)

  -- a stage as the code tests it
  stage_facts : (n : ℕ) (ps : List Packet) (p : Packet) → stage_sound x n ps p ≡ true
      → (dn ps + uses p x ≤ n + up ps) × (n + up (ps ++ (p ∷ [])) ≤ ceiling + dn (ps ++ (p ∷ [])))
  unfolding stage_sound
  stage_facts n ps p h =
      let a = leb (dn ps + uses p x) (n + up ps) in
      let b = leb (n + up (ps ++ (p ∷ []))) (ceiling + dn (ps ++ (p ∷ []))) in
      (leb-true (dn ps + uses p x) (n + up ps) (and_first a b h), leb-true (n + up (ps ++ (p ∷ []))) (ceiling + dn (ps ++ (p ∷ []))) (and_second a b h))

  stage_replays : (n : ℕ) (ps : List Packet) (p : Packet) → replays x n ps ≡ true → stage_sound x n ps p ≡ true → replays x n (ps ++ (p ∷ [])) ≡ true
  stage_replays n ps p h k =
      let f = stage_facts n ps p k in
      let f0 = f.0 in
      let f1 = f.1 in
      let u : uses p x ≤ running n ps = omega (arith, running_sum n ps h) in
      replays_more n ps p h u
      (omega (arith, running_sum n ps h, replayed_sum p (running n ps) u, waiting_snoc root plus x ps p, waiting_snoc root minus x ps p))

  replays_stage : (n : ℕ) (ps : List Packet) (p : Packet) → replays x n (ps ++ (p ∷ [])) ≡ true → stage_sound x n ps p ≡ true
  unfolding stage_sound
  replays_stage n ps p h =
      let e = running_sum n ps (replays_fewer n ps p h) in
      let l = replays_last n ps p h in
      let u = l.0 in
      let m = l.1 in
      and_both (le-leb (dn ps + uses p x) (n + up ps) (omega arith))
      (le-leb (n + up (ps ++ (p ∷ []))) (ceiling + dn (ps ++ (p ∷ [])))
      (omega (arith, replayed_sum p (running n ps) u, waiting_snoc root plus x ps p, waiting_snoc root minus x ps p)))

  -- a cell that the packet does not name passes by itself
  idle_stage : (n : ℕ) (ps : List Packet) (p : Packet) → n ≤ ceiling → replays x n ps ≡ true → (p.a ≡ x → ⊥) → (p.b ≡ x → ⊥) → (p.c ≡ x → ⊥)
      → replays x n (ps ++ (p ∷ [])) ≡ true
  unfolding replayed
  idle_stage n ps p l h da db dc =
      let i = idle p x da db dc in
      let u = i.0 in
      let v = i.1 in
      replays_more n ps p h (omega arith) (omega (arith, running_most n ps l h))

module _ (t : List ℕ) (q : Queue) where
  pub oldest_more : (j : ℕ) → oldest q (suc j) ≡ oldest q j ++ (packet_on q j ∷ [])
  unfolding oldest packet_on
  oldest_more j = packets_snoc q q.place j

  oldest_replays : (x n m j : ℕ) → j ≤ m → replays x n (oldest q m) ≡ true → replays x n (oldest q j) ≡ true
  oldest_replays x n zero j l h = let e : j ≡ 0 = omega arith in rw e h
  oldest_replays x n (suc m) j l h =
      ⊎_elim (λ k. oldest_replays x n m j (omega arith) (replays_fewer x n (oldest q m) (packet_on q m) (rw (oldest_more m) at h)))
      (λ (e : j ≡ suc m). rw e h) (below_suc {i = j} {n = suc m} (omega arith))

  -- a word that is the cell at index i
  word_stage : (j x i : ℕ) → x ≡ suc i → i < capacity t → word_replays t q j x ≡ true
      → stage_sound (suc i) (word_at t i root_count) (oldest q j) (packet_on q j) ≡ true
  unfolding word_replays
  word_stage j x i e l h = let k = rw e at h in rw (index_cell (capacity t) i l) at k

  word_back : (j x : ℕ) → ((i : ℕ) → i < capacity t → replays (suc i) (word_at t i root_count) (oldest q (suc j)) ≡ true) → word_replays t q j x ≡ true
  unfolding word_replays
  word_back j x f =
      ⊎_elim (λ e. or_right (not (is_cell (capacity t) x)) (cell e)) (λ (e : is_cell (capacity t) x ≡ false). rw e) (tested (is_cell (capacity t) x))
    where
      cell : is_cell (capacity t) x ≡ true → stage_sound x (word_at t (pred x) root_count) (oldest q j) (packet_on q j) ≡ true
      cell e =
          let k = f (pred x) (cell_index (capacity t) x e) in
          subst (λ (y : ℕ). stage_sound y (word_at t (pred x) root_count) (oldest q j) (packet_on q j) ≡ true) (sym (cell_number_lem (capacity t) x e))
          (replays_stage (suc (pred x)) (word_at t (pred x) root_count) (oldest q j) (packet_on q j) (rw (oldest_more j) at k))

  abbrev wa : ℕ → Bool
  wa j = word_replays t q j (packet_on q j).a

  abbrev wb : ℕ → Bool
  wb j = word_replays t q j (packet_on q j).b

  abbrev wc : ℕ → Bool
  wc j = word_replays t q j (packet_on q j).c

  stage_all : (j : ℕ) → packet_replays t q j ≡ true → (i : ℕ) → i < capacity t → word_at t i root_count ≤ ceiling
      → replays (suc i) (word_at t i root_count) (oldest q j) ≡ true → replays (suc i) (word_at t i root_count) (oldest q (suc j)) ≡ true
  unfolding packet_replays
  stage_all j h i l b r = rw (oldest_more j) go
    where
      n : ℕ
      n = word_at t i root_count

      p : Packet
      p = packet_on q j

      by : (x : ℕ) → x ≡ suc i → word_replays t q j x ≡ true → replays (suc i) n (oldest q j ++ (p ∷ [])) ≡ true
      by x e k = stage_replays (suc i) n (oldest q j) p r (word_stage j x i e l k)

      go : replays (suc i) n (oldest q j ++ (p ∷ [])) ≡ true
      go =
          ⊎_elim (λ e. by p.a (eqb-true p.a (suc i) e) (and_first (wa j) (wb j) (and_first (wa j && wb j) (wc j) h)))
          (λ da. ⊎_elim (λ e. by p.b (eqb-true p.b (suc i) e) (and_second (wa j) (wb j) (and_first (wa j && wb j) (wc j) h)))
          (λ db. ⊎_elim (λ e. by p.c (eqb-true p.c (suc i) e) (and_second (wa j && wb j) (wc j) h))
          (λ dc. idle_stage (suc i) n (oldest q j) p b r (eqb-false p.a (suc i) da) (eqb-false p.b (suc i) db) (eqb-false p.c (suc i) dc))
          (tested (eqb p.c (suc i)))) (tested (eqb p.b (suc i)))) (tested (eqb p.a (suc i)))

  all_stages : (m : ℕ) → every m (packet_replays t q) ≡ true → (i : ℕ) → i < capacity t → word_at t i root_count ≤ ceiling
      → replays (suc i) (word_at t i root_count) (oldest q m) ≡ true
  unfolding every
  all_stages zero h i l b = unfold oldest packets_from replays in refl
  all_stages (suc m) h i l b =
      stage_all m (and_second (every m (packet_replays t q)) (packet_replays t q m) h) i l b
      (all_stages m (and_first (every m (packet_replays t q)) (packet_replays t q m) h) i l b)

  -- the packets' own words decide for all cells, where no root count is above the ceiling
  pub replay_exact : cells_sound t ≡ true → every q.count (packet_replays t q) ≡ replays_all t q
  unfolding replays_all cells_sound waiting oldest
  replay_exact s = same_tests (every q.count (packet_replays t q)) (every (capacity t) test) there back
    where
      test : ℕ → Bool
      test i = replays (suc i) (word_at t i root_count) (waiting q)

      there : every q.count (packet_replays t q) ≡ true → every (capacity t) test ≡ true
      there h =
          every_all (capacity t) test
          (λ i l. all_stages q.count h i l (counts_facts t i (cell_counts t i (every_at (capacity t) (cell_sound t) s i l))).1)

      back : every (capacity t) test ≡ true → every q.count (packet_replays t q) ≡ true
      back h = every_all q.count (packet_replays t q) (λ j l. one j (λ x. word_back j x (up_to j l)))
        where
          up_to : (j : ℕ) → j < q.count → (i : ℕ) → i < capacity t → replays (suc i) (word_at t i root_count) (oldest q (suc j)) ≡ true
          up_to j l i m = oldest_replays (suc i) (word_at t i root_count) q.count (suc j) l (every_at (capacity t) test h i m)

          one : (j : ℕ) → ((x : ℕ) → word_replays t q j x ≡ true) → packet_replays t q j ≡ true
          one j f = unfold packet_replays in and_both (and_both (f (packet_on q j).a) (f (packet_on q j).b)) (f (packet_on q j).c)

-- the waiting packets of a queue cut short
packets_cut : (q : Queue) (m k n : ℕ) → packets_from (cut_to q m) k n ≡ packets_from q k n
unfolding packets_from slot
packets_cut q m k zero = refl
packets_cut q m k (suc n) = ap (λ (ps : List Packet). slot q (k % slots) ∷ ps) (packets_cut q m (suc k) n)

waiting_cut : (q : Queue) (m : ℕ) → waiting (cut_to q m) ≡ oldest q m
unfolding waiting oldest
waiting_cut q m = packets_cut q m q.place m

-- what the code tests: of a stage,
pub oldest_next : (q : Queue) (j : ℕ) → oldest q (j + 1) ≡ oldest q j ++ (packet_on q j ∷ [])
oldest_next q j = ap (oldest q) (add-one j) ∙ oldest_more [] q j

pub held_cut : (q : Queue) (j x n : ℕ) (s s' : HeldSums) → CounterSums root (waiting (cut_to q j)) x s.raised s.lowered
    → WithCount n s.raised s.lowered s'.raised s'.lowered → HeldAfter (oldest q j) x n s'
held_cut q j x n s s' h w = record {
  raised = w.raised ∙ ap (n +◌) (h.raised ∙ ap (waiting_change root plus x) (waiting_cut q j));
  lowered = w.lowered ∙ h.lowered ∙ ap (waiting_change root minus x) (waiting_cut q j);
  few = w.few;
}

module _ (x n : ℕ) (ps : List Packet) (p : Packet) where
  abbrev Held : Bool
  Held = leb (waiting_change root minus x ps + uses p x) (n + waiting_change root plus x ps)

  pub question_6 : {r : Bool} (s : HeldSums) (u : ℕ) → HeldAfter ps x n s → u ≡ uses p x → r ≡ at_least s.raised s.lowered u → r ≡ Held
  question_6 s u h e k = k ∙ ap₂ leb (ap₂ ◌+◌ h.lowered e) h.raised

  pub stage_unheld : Held ≡ false → stage_sound x n ps p ≡ false
  unfolding stage_sound
  stage_unheld h = and_no_first _ h

  pub stage_held : Held ≡ true → {r : Bool} (s : HeldSums) → HeldAfter (ps ++ (p ∷ [])) x n s
      → r ≡ at_most_ceiling (s.raised + 0) (s.lowered + 0) → r ≡ stage_sound x n ps p
  unfolding stage_sound
  stage_held h s k e =
      let r : s.raised + 0 ≡ n + waiting_change root plus x (ps ++ (p ∷ [])) = omega (arith, k.raised) in
      let l : ceiling + (s.lowered + 0) ≡ ceiling + waiting_change root minus x (ps ++ (p ∷ [])) = omega (arith, k.lowered) in
      e ∙ ap₂ leb r l ∙ and_decides _ h
