-- The promise from its parts: refused by an early question, or past them.
use Rattle.std.specs.Prelude.{Ok, Err}
use mathlib.Core.Path.{◌≡◌, refl, sym, ap, ◌∙◌}
use mathlib.Core.Bool.{true, false}
use mathlib.Core.List.{List, ◌∷◌, ◌++◌}
use Prim.Native.Nat.{ℕ, zero, suc, ◌≤◌, ◌<◌}
use native.Mathlib.Omega.{arith}
use borrow.Author.Tests.{le-leb, lt-leb, lt-ltb, le-ltb}
use Rattle.machine.specs.declared.Queue.{Queue}
use Rattle.machine.specs.declared.Refusal.{Refusal}
use Rattle.machine.specs.declared.Refusal.TheVariants.{SeatOutOfRange}
use Rattle.machine.specs.Answers.{Asked, refusal_number, asked_number}
use Rattle.machine.specs.Words.{first_atom, clip}
use Rattle.machine.specs.Calls.{Store, store}
use Rattle.machine.specs.Questions.{Question, ask, first_no}
use Rattle.machine.proofs.Answers.{refusal_some}
use Rattle.machine.proofs.Questions.{first_no_yes, first_no_no, first_no_append, first_no_none}
use Rattle.resting.proofs.Runs.{runs_none}
use Rattle.readings.specs.Calls.{RosterCall, set, look_up, remove, count, RosterReply, refused, most_value, is_seat, ask_store, ask_reading, early_roster}
use Rattle.roster_list.specs.Asking.{Asks}
use Rattle.roster.specs.Promise.{RosterPromise, Past}

-- refused by an early question
pub promise_refused : {s : Store} {w : ℕ} {call : RosterCall} (n : ℕ) → n ≡ first_no (early_roster s call) → 0 < n → RosterPromise s w call (refused n) s w
promise_refused {s} n e some = record {
  asked = λ m d. (ap refused (e ∙ d), refl, refl);
  refusal = λ m d z. absurd (omega arith);
  exact = λ d es r. absurd (omega arith);
  runs = runs_none s;
}

-- past them
pub promise_past : {s : Store} {w : ℕ} {call : RosterCall} {r : RosterReply} {s' : Store} {w' : ℕ} → 0 ≡ first_no (early_roster s call) → Past s w call r s' w'
    → RosterPromise s w call r s' w'
promise_past e p = record {
  asked = λ m d. absurd (omega arith);
  refusal = λ n d z. p.refusal n z;
  exact = p.exact;
  runs = p.runs;
}

-- table and scratch as they were before the questions
module _ {t : List ℕ} {q : Queue} {s : List ℕ} {w : ℕ} {call : RosterCall} {ks : List Question} (same : first_no ks ≡ first_no (early_roster (store t q s) call)) where
  pub refused_then : {t₁ s₁ : List ℕ} (f : Refusal) → Asks ks t s (Err f) t₁ s₁ → RosterPromise (store t q s) w call (refused (refusal_number f)) (store t₁ q s₁) w
  refused_then f a = rw (a.table, a.scratch) (promise_refused (refusal_number f) (a.number ∙ same) (refusal_some f))

  pub past_then : {t₁ s₁ : List ℕ} {r : RosterReply} {s' : Store} {w' : ℕ} → Asks ks t s (Ok tt) t₁ s₁ → Past (store t₁ q s₁) w call r s' w'
      → RosterPromise (store t q s) w call r s' w'
  past_then a p = promise_past (a.number ∙ same) (rw (a.table, a.scratch) at p)

-- which questions are asked
pub count_asks : (s : Store) (n : ℕ) → first_no (ask_store s) ≡ first_no (early_roster s (count n))
unfolding early_roster
count_asks s n = refl

pub look_asks : (s : Store) (x : ℕ) → first_no (ask 15 (is_seat x) ∷ ask_store s) ≡ first_no (early_roster s (look_up x))
unfolding early_roster
look_asks s x = refl

pub remove_asks : (s : Store) (x : ℕ) → first_no (ask 15 (is_seat x) ∷ ask_store s) ≡ first_no (early_roster s (remove x))
unfolding early_roster
remove_asks s x = refl

-- 15
module _ (seat : ℕ) {ks : List Question} {t s : List ℕ} where
  pub asks_out : is_seat seat ≡ false → Asks (ask 15 (is_seat seat) ∷ ks) t s (Err SeatOutOfRange) t s
  asks_out e = record { number = sym (first_no_no (ask 15 (is_seat seat)) ks e); table = refl; scratch = refl }

  pub asks_seat : {r : Asked} {t₁ s₁ : List ℕ} → is_seat seat ≡ true → Asks ks t s r t₁ s₁ → Asks (ask 15 (is_seat seat) ∷ ks) t s r t₁ s₁
  asks_seat e a = record { number = a.number ∙ sym (first_no_yes (ask 15 (is_seat seat)) ks e); table = a.table; scratch = a.scratch }

-- 4 and 14
pub reading_illegal : (r : ℕ) → first_atom ≤ r → 4 ≡ first_no (ask_reading (set 0 r))
unfolding first_no
reading_illegal r l = rw (lt-leb r most_value (omega arith)) refl

pub reading_clipped : (r : ℕ) → r < first_atom → clip ≤ r → 14 ≡ first_no (ask_reading (set 0 r))
unfolding first_no
reading_clipped r h l = rw (le-leb r most_value (omega arith), le-ltb r clip l) refl

pub reading_low : (r : ℕ) → r < clip → 0 ≡ first_no (ask_reading (set 0 r))
unfolding first_no
reading_low r l = rw (le-leb r most_value (omega arith), lt-ltb r clip l) refl

-- a set is asked them last
module _ (t : List ℕ) (q : Queue) (s : List ℕ) (seat reading : ℕ) {t₁ s₁ : List ℕ} where
  pub set_no : (f : Refusal) → Asks (ask 15 (is_seat seat) ∷ ask_store (store t q s)) t s (Err f) t₁ s₁
      → Asks (early_roster (store t q s) (set seat reading)) t s (Err f) t₁ s₁
  unfolding early_roster
  set_no f a = record { number = go (refusal_number f) (refusal_some f) a.number; table = a.table; scratch = a.scratch }
    where
      go : (n : ℕ) → 0 < n → n ≡ first_no (ask 15 (is_seat seat) ∷ ask_store (store t q s)) → n ≡ first_no ((ask 15 (is_seat seat) ∷ ask_store (store t q s)) ++ ask_reading (set seat reading))
      go zero l e = absurd (omega arith)
      go (suc n) l e = sym (first_no_append (ask 15 (is_seat seat) ∷ ask_store (store t q s)) (ask_reading (set seat reading)) n (sym e))

  pub set_yes : {r : Asked} → Asks (ask 15 (is_seat seat) ∷ ask_store (store t q s)) t s (Ok tt) t₁ s₁ → asked_number r ≡ first_no (ask_reading (set 0 reading))
      → Asks (early_roster (store t q s) (set seat reading)) t s r t₁ s₁
  unfolding early_roster
  set_yes a e = record {
    number = e ∙ sym (first_no_none (ask 15 (is_seat seat) ∷ ask_store (store t q s)) (ask_reading (set seat reading)) (omega arith, (omega arith, (omega arith, tt))) (sym a.number));
    table = a.table;
    scratch = a.scratch;
  }
