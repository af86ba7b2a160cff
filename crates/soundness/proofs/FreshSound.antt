-- Fresh gives a sound store, whatever the table was.
use mathlib.Core.Path.{◌≡◌, refl, sym, ap, ◌∙◌}
use mathlib.Core.Logic.{⊎_elim}
use mathlib.Core.Bool.{Bool, false, cond}
use mathlib.Core.List.{List, [], ◌∷◌, map}
use Prim.Native.Nat.{ℕ, zero, suc, ◌+◌, ◌≤◌, ◌<◌}
use native.Mathlib.Nat.{eq-or-lt_of_le}
use native.Mathlib.Omega.{arith}
use lib.ListN.{length}
use borrow.Author.Tests.{le-ltb}
use Rattle.machine.specs.Range.{matching, occurrences, last_of}
use Rattle.machine.specs.Words.{most_cells}
use Rattle.machine.specs.Table.{left, root_count, cell_count, state, name_count, capacity, first_free, last_free, table_length, word_at, in_use}
use Rattle.machine.specs.Queue.{empty_queue}
use Rattle.machine.specs.Packets.{times_named}
use Rattle.machine.specs.Calls.{fresh_table}
use Rattle.machine.specs.Audit.{replays, Sound}
use Rattle.machine.specs.Facts.{Linked, Chain, FreshTable}
use Rattle.machine.proofs.Range.{matching_same, matching_other, not_both}
use Rattle.machine.proofs.Table.{not_in_use_free}
use Rattle.machine.proofs.Fresh.{fresh_is}
use Rattle.machine.proofs.RootsByCell.{Counted}
use Rattle.soundness.proofs.Views.{shown, seen, seen_none, earlier}
use Rattle.soundness.proofs.Stages.{shown_free}
use Rattle.soundness.proofs.Facts.{Facts, Live, facts_sound}
use Rattle.soundness.proofs.ZeroSlots.{slots_empty_lem, waiting_empty}

-- n indices from i on
up_from : ℕ → ℕ → List ℕ
up_from i zero = []
up_from i (suc n) = i ∷ up_from (suc i) n

-- the number of the first of them, 0 for none
abbrev start : ℕ → ℕ → ℕ
start i zero = 0
start i (suc n) = suc i

up_last : (i n : ℕ) → last_of (map suc (up_from i (suc n))) ≡ suc (i + n)
unfolding up_from last_of
up_last i zero = omega arith
up_last i (suc n) = up_last (suc i) n ∙ omega arith

up_before : (i n j : ℕ) → j < i → occurrences j (up_from i n) ≡ 0
unfolding up_from occurrences
up_before i zero j l = refl
up_before i (suc n) j l = omega (arith, matching_other i j 1 (omega arith), up_before (suc i) n j (omega arith))

up_once : (i n j : ℕ) → i ≤ j → j < i + n → occurrences j (up_from i n) ≡ 1
unfolding up_from occurrences
up_once i zero j l m = absurd (omega arith)
up_once i (suc n) j l m = ⊎_elim (λ e. here e) (λ e. later e (up_once (suc i) n j e (omega arith))) (eq-or-lt_of_le l)
  where
    here : i ≡ j → matching i j 1 + occurrences j (up_from (suc i) n) ≡ 1
    here e = omega (arith, matching_same i j 1 e, up_before (suc i) n j (omega arith))

    later : i < j → occurrences j (up_from (suc i) n) ≡ 1 → matching i j 1 + occurrences j (up_from (suc i) n) ≡ 1
    later e h = omega (arith, matching_other i j 1 (omega arith))

module _ (c : ℕ) (t u : List ℕ) (some : 1 ≤ c) (most : c ≤ most_cells) (room : table_length c ≤ length t) (f : FreshTable c t u) where
  unused : (i : ℕ) → i < c → in_use u i ≡ false
  unfolding in_use
  unused i l = le-ltb 0 (word_at u i state) (omega (arith, f.zeros i state l (omega arith) (omega arith)))

  linked_up : (i n : ℕ) → i + n ≡ c → Linked u (start i n) (up_from i n)
  unfolding up_from
  linked_up i zero e = refl
  linked_up i (suc n) e = (refl, rw f.new_capacity (omega arith), next n e (linked_up (suc i) n (omega arith)))
    where
      next : (n : ℕ) → i + suc n ≡ c → Linked u (start (suc i) n) (up_from (suc i) n) → Linked u (word_at u i left) (up_from (suc i) n)
      next zero e h = f.end i (omega arith)
      next (suc n) e h = rw (f.next i (omega arith)) h

  first_up : (n : ℕ) → n ≡ c → first_free u ≡ start 0 n
  first_up zero e = absurd (omega arith)
  first_up (suc n) e = f.new_first

  last_up : (n : ℕ) → n ≡ c → last_of (map suc (up_from 0 n)) ≡ last_free u
  last_up zero e = absurd (omega arith)
  last_up (suc n) e = omega (arith, up_last 0 n, f.new_last)

  fresh_chain : Chain u (up_from 0 c)
  fresh_chain = record {
    linked = rw (first_up c refl) (linked_up 0 c (omega arith));
    ends = last_up c refl;
    once = λ i l. let m : i < c = rw f.new_capacity at l in up_once 0 c i (omega arith) (omega arith)
        ∙ sym (ap (λ (b : Bool). cond b 1 0) (not_in_use_free u i (unused i m)));
    wiped = λ i k l _ low high. f.zeros i k (rw f.new_capacity at l) low high;
  }

  none_seen : (i : ℕ) → seen (capacity u) (shown u) (suc i) ≡ 0
  none_seen i = seen_none (capacity u) (shown u) (suc i) (λ j k l m e. omega (arith, shown_free u j k (unused j (rw f.new_capacity at l))))

  fresh_facts : Facts u []
  unfolding replays earlier
  fresh_facts = record {
    some = rw f.new_capacity some;
    most = rw f.new_capacity most;
    room = rw (f.new_capacity, f.same_length) room;
    states = λ i l. omega (arith, f.zeros i state (rw f.new_capacity at l) (omega arith) (omega arith));
    roots = λ i l. omega (arith, f.zeros i root_count (rw f.new_capacity at l) (omega arith) (omega arith));
    cells = λ i l. omega (arith, f.zeros i cell_count (rw f.new_capacity at l) (omega arith) (omega arith));
    fields = λ i k l m h. absurd (not_both h (unused i (rw f.new_capacity at l)));
    free = up_from 0 c;
    chain = fresh_chain;
    legal = tt;
    replay = λ i l. refl;
    stages = λ i l. omega (arith, none_seen i);
    counts = λ i l. f.zeros i cell_count (rw f.new_capacity at l) (omega arith) (omega arith) ∙ sym (none_seen i);
  }

  fresh_counted : Counted u []
  unfolding times_named
  fresh_counted i l = f.zeros i name_count (rw f.new_capacity at l) (omega arith) (omega arith)

  fresh_live : Live u []
  fresh_live i l h = absurd (not_both h (unused i (rw f.new_capacity at l)))

pub fresh_sound : (c : ℕ) (t : List ℕ) → 1 ≤ c → c ≤ most_cells → table_length c ≤ length t → Sound (fresh_table c t) empty_queue
fresh_sound c t some most room =
    let f = fresh_is c t room in
    facts_sound (fresh_table c t) empty_queue slots_empty_lem
    (rw waiting_empty (fresh_facts c t (fresh_table c t) some most room f)) (rw waiting_empty (fresh_counted c t (fresh_table c t) some most room f))
    (rw waiting_empty (fresh_live c t (fresh_table c t) some most room f))

-- and every root count is 0
pub fresh_roots : (c : ℕ) (t : List ℕ) → table_length c ≤ length t → (i : ℕ) → i < capacity (fresh_table c t) → word_at (fresh_table c t) i root_count ≡ 0
fresh_roots c t room i l =
    let f = fresh_is c t room in
    f.zeros i root_count (rw f.new_capacity at l) (omega arith) (omega arith)

-- and no cell is in use
pub fresh_unused : (c : ℕ) (t : List ℕ) → table_length c ≤ length t → (i : ℕ) → i < capacity (fresh_table c t) → in_use (fresh_table c t) i ≡ false
unfolding in_use
fresh_unused c t room i l =
    let f = fresh_is c t room in
    le-ltb 0 (word_at (fresh_table c t) i state) (omega (arith, f.zeros i state (rw f.new_capacity at l) (omega arith) (omega arith)))
