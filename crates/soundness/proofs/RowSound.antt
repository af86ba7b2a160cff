-- Every accepted row call that queues a packet leaves a sound store sound.
use mathlib.Core.Path.{◌≡◌, refl, ◌∙◌}
use mathlib.Core.Bool.{true, false}
use mathlib.Core.List.{List, [], ◌∷◌, ◌++◌}
use Prim.Native.Nat.{ℕ, pred, ◌≤◌, ◌<◌}
use native.Mathlib.Omega.{arith}
use Rattle.machine.specs.declared.Queue.{Queue}
use Rattle.machine.specs.Table.{left, right, capacity, word_at, put_word}
use Rattle.machine.specs.Queue.{Arrays, Packet, packet, appended, waiting}
use Rattle.machine.specs.Packets.{replaces, kind_of, plus}
use Rattle.machine.specs.Step.{named}
use Rattle.machine.specs.Calls.{RowCall, car, cdr, cons, set_left, set_right, up, down, row, Store, field, packet_of, reads_nil, written}
use Rattle.machine.specs.Questions.{first_no, words_legal, x_is_cell, early_row, ask_free, questions}
use Rattle.machine.specs.Audit.{Sound}
use Rattle.machine.proofs.Ring.{waiting_appended}
use Rattle.machine.proofs.NilReads.{read_cell}
use Rattle.machine.proofs.RootsByCell.{Counted, sound_counted}
use Rattle.soundness.proofs.Facts.{Facts, Live, slots_of, sound_facts, sound_live, facts_sound}
use Rattle.soundness.proofs.ZeroSlots.{slots_appended}
use Rattle.soundness.proofs.FreeChain.{chain_some}
use Rattle.soundness.proofs.RowQuestions.{Passed, RowYes, row_yes}
use Rattle.soundness.proofs.ReadUpDown.{unwritten_live, read_facts, up_facts, down_facts}
use Rattle.soundness.proofs.Replace.{replace_facts, replace_live}
use Rattle.soundness.proofs.Cons.{cons_facts, cons_live}
use Rattle.soundness.proofs.RowWrites.{cons_case, first_legal, second_legal, row_wrote, row_names}
use Rattle.soundness.proofs.NameCounts.{naming_facts, naming_live, joins_spared, joins_counted}

pub record Kept (u : List ℕ) (ps : List Packet) : Type 0 where
  pub facts : Facts u ps
  pub live : Live u ps

module _ (t : List ℕ) (q : Queue) (f : Facts t (waiting q)) (live : Live t (waiting q)) where
  abbrev ps : List Packet
  ps = waiting q

  cons_kept : (x y : ℕ) → RowYes t q (cons x y) → Kept (written t (cons x y)) (ps ++ (packet_of t (cons x y) ∷ []))
  unfolding early_row ask_free
  cons_kept x y a =
      let w = a.early.0 in
      cons_case t f.free f.chain (chain_some t f.free f.chain a.free.0) x y (λ u p. Passed t u ps p → Kept u (ps ++ (p ∷ [])))
      (λ new rest h b. record {
        facts = cons_facts t ps f new rest h x y b (first_legal t x y w) (second_legal t x y w);
        live = cons_live t ps f new rest h x y b (first_legal t x y w) (second_legal t x y w) live;
      }) a.passed

  -- the field k of x
  replace_kept : (n k x y : ℕ) → kind_of n ≡ replaces k → k ≤ right → x_is_cell t x ≡ true → words_legal t (x ∷ y ∷ []) ≡ true
      → Passed t (put_word t (pred x) k y) ps (packet n y (word_at t (pred x) k) x)
      → Kept (put_word t (pred x) k y) (ps ++ (packet n y (word_at t (pred x) k) x ∷ []))
  unfolding x_is_cell
  replace_kept n k x y e l c w a = record {
    facts = replace_facts t ps f n k x y e l c (second_legal t x y w) a.held a;
    live = replace_live t ps f n k x y e l c (second_legal t x y w) a.held live;
  }

  row_kept : (r : RowCall) → RowYes t q r → Kept (written t r) (ps ++ (packet_of t r ∷ []))
  unfolding early_row reads_nil written packet_of field x_is_cell kind_of
  row_kept (car x) a =
      record { facts = read_facts t ps f x (read_cell t x a.queues a.early.1) left (omega arith) a.passed; live = unwritten_live t ps f (packet_of t (car x)) live }
  row_kept (cdr x) a =
      record { facts = read_facts t ps f x (read_cell t x a.queues a.early.1) right (omega arith) a.passed; live = unwritten_live t ps f (packet_of t (cdr x)) live }
  row_kept (cons x y) a = cons_kept x y a
  row_kept (set_left x y) a = replace_kept 3 left x y refl (omega arith) a.early.1.0 a.early.0 a.passed
  row_kept (set_right x y) a = replace_kept 6 right x y refl (omega arith) a.early.1.0 a.early.0 a.passed
  row_kept (up x n) a = record { facts = up_facts t ps f x a.early.1.1.0 n a.early.0 a.passed; live = unwritten_live t ps f (packet_of t (up x n)) live }
  row_kept (down x n) a =
      record { facts = down_facts t ps f x a.early.1.1.0 n a.early.0 a.passed; live = unwritten_live t ps f (packet_of t (down x n)) live }

  -- the name counts are still those of the packets before it
  row_counted : Counted t ps → (r : RowCall) → RowYes t q r → Counted (written t r) ps
  row_counted n r y i l =
      let m : i < capacity t = rw (row_wrote t ps f r y.early y.passed.held y.free).same_capacity at l in
      row_names t ps f r y.free i m ∙ n i m

pub row_sound : (s : Store) (r : RowCall) → reads_nil r ≡ false → Sound s.table s.queue → Arrays s.queue → first_no (questions s (row r)) ≡ 0
    → Sound (named plus (written s.table r) (packet_of s.table r)) (appended s.queue (packet_of s.table r))
row_sound s r n h a e =
    let t = s.table in
    let q = s.queue in
    let p = packet_of t r in
    let y = row_yes s r n a e in
    let u = written t r in
    let k = row_kept t q (sound_facts t q h) (sound_live t q h) r y in
    let d = row_counted t q (sound_facts t q h) (sound_live t q h) (sound_counted t q h) r y in
    let spared = joins_spared u (waiting q) p k.facts d in
    let joined = waiting_appended q p a y.slot in
    facts_sound (named plus u p) (appended q p) (slots_appended q p y.slot (slots_of t q h))
    (rw joined (naming_facts plus u p (waiting q ++ (p ∷ [])) k.facts spared)) (rw joined (joins_counted u (waiting q) p k.facts d))
    (rw joined (naming_live plus u p (waiting q ++ (p ∷ [])) k.facts spared k.live))
