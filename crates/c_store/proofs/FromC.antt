-- A list of calls from C is a list of demand 3's, link by link.
use mathlib.Core.Path.{◌≡◌, refl, sym, ap, subst, subst₂, fun_ext, ◌∙◌}
use mathlib.Core.List.{List, [], ◌∷◌, ◌++◌}
use mathlib.Core.Option.{Option}
use Prim.Native.Nat.{ℕ}
use native.Mathlib.Omega.{arith}
use Rattle.machine.specs.declared.Queue.{Queue}
use Rattle.machine.specs.Calls.{Call, fresh, row, step, audit, read, write}
use Rattle.machine.specs.Calls.{Reply, value, refused, idle, applied, sound, broken, text}
use Rattle.soundness.specs.Demand3 as demand
use Rattle.soundness.specs.Demand3.{Holds, holds, moved, holds_from, Clauses}
use Rattle.soundness.proofs.Theorem.{demand3}
use Rattle.c_layout.specs.Queues.{queue_in}
use Rattle.c_layout.specs.Replies.{told, said}
use Rattle.c_layout.specs.Faithful.{length_only}
use Rattle.c_layout.proofs.Faithful.{faithful}
use Rattle.c_store.specs.FromC.{Called, Joined, Begun, table_after, words_after, answered, answers, holds_after, links, FromC}

joined : (t w : List ℕ) (ls : List Called) (j : Joined t w ls) → demand.Joined t (queue_in w) (links t w ls j)
joined t w [] j = tt
joined t w (l ∷ ls) j = (j.0.promise, joined l.table l.words ls j.1)

-- the numbers of a value tell no text
value_told : (r : Reply) (w : ℕ) → length_only r ≡ value w → r ≡ value w
value_told (value v) w e = e
value_told (refused n) w e = e
value_told idle w e = e
value_told (applied k n) w e = e
value_told sound w e = e
value_told (broken n) w e = e
value_told (text bytes) w e = absurd (clash e)
  where
    clash : {b : List ℕ} {v : ℕ} → text b ≡ value v → ⊥
    clash d = let z : ◌≡◌ {A = ℕ} 0 1 = cc in omega arith

begun : (t w : List ℕ) (ls : List Called) (j : Joined t w ls) → Begun ls → demand.Begun (links t w ls j)
begun t w [] j x = elim x [ ]
begun t w (l ∷ ls) j (c, v, e, d) = (c, v, e, value_told j.0.reply v (faithful.replies j.0.reply (value v) (sym j.0.numbers ∙ d)))

same_table : (t w : List ℕ) (ls : List Called) (j : Joined t w ls) → demand.table_after t (links t w ls j) ≡ table_after t ls
same_table t w [] j = refl
same_table t w (l ∷ ls) j = same_table l.table l.words ls j.1

same_queue : (t w : List ℕ) (ls : List Called) (j : Joined t w ls) → demand.queue_after (queue_in w) (links t w ls j) ≡ queue_in (words_after w ls)
same_queue t w [] j = refl
same_queue t w (l ∷ ls) j = same_queue l.table l.words ls j.1

-- the bytes of a text move no holds
by_length : (c : ℕ) (call : Call) (r : Reply) (h : Holds) → moved c call (length_only r) h ≡ moved c call r h
unfolding moved
by_length c call (value w) h = refl
by_length c call (refused n) h = refl
by_length c call idle h = refl
by_length c call (applied k n) h = refl
by_length c call sound h = refl
by_length c call (broken n) h = refl
by_length c (fresh n) (text bytes) h = refl
by_length c (row r) (text bytes) h = refl
by_length c step (text bytes) h = refl
by_length c audit (text bytes) h = refl
by_length c (read t) (text bytes) h = refl
by_length c (write w room) (text bytes) h = refl

-- from any holds on
holds_from_lem : (t w : List ℕ) (ls : List Called) (j : Joined t w ls) (h : Holds) (c : ℕ)
    → holds_from h (answers ls) c ≡ holds_from h (demand.answers (links t w ls j)) c
unfolding holds_from
holds_from_lem t w [] j h c = refl
holds_from_lem t w (l ∷ ls) j h c =
    ap (λ (o : Option Reply). holds_from h (answered l.call o ++ answers ls) c) (ap said j.0.numbers ∙ faithful.back j.0.reply)
    ∙ ap (λ (h' : Holds). holds_from h' (answers ls) c) (by_length c l.call j.0.reply h)
    ∙ holds_from_lem l.table l.words ls j.1 (moved c l.call j.0.reply h) c

same_holds : (t w : List ℕ) (ls : List Called) (j : Joined t w ls) (c : ℕ) → holds_after ls c ≡ demand.holds_after (links t w ls j) c
same_holds t w ls j c = holds_from_lem t w ls j (holds 0 0) c

by_links : (t w : List ℕ) (ls : List Called) (j : Joined t w ls) → Begun ls
    → Clauses (table_after t ls) (queue_in (words_after w ls)) (demand.holds_after (links t w ls j))
by_links t w ls j b =
    subst₂ (λ (t' : List ℕ) (q : Queue). Clauses t' q (demand.holds_after (links t w ls j))) (same_table t w ls j) (same_queue t w ls j)
    (demand3 t (queue_in w) (links t w ls j) (begun t w ls j b) (joined t w ls j))

clauses : (t w : List ℕ) (ls : List Called) → Joined t w ls → Begun ls → Clauses (table_after t ls) (queue_in (words_after w ls)) (holds_after ls)
clauses t w ls j b =
    subst (λ (h : ℕ → Holds). Clauses (table_after t ls) (queue_in (words_after w ls)) h) (fun_ext (λ c. sym (same_holds t w ls j c))) (by_links t w ls j b)

pub from_c : FromC
from_c = record {
  demand3 = clauses;
  same_holds = same_holds;
  only = λ s call reply after o r s' p. let k = o p.reply s' p.promise in (p.numbers ∙ ap told k.0, k.1);
}
