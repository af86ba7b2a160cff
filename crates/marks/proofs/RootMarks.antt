-- What the pushes mark: just the roots.
use mathlib.Core.Path.{◌≡◌, refl, sym, ap, ◌∙◌}
use mathlib.Core.Logic.{⊎_elim, ◌≢◌}
use mathlib.Core.Bool.{Bool, true, false, cond, ◌&&◌, ◌||◌, and-true, and-false, or-false, or_assoc}
use mathlib.Core.List.{List, []}
use Prim.Native.Nat.{ℕ, zero, suc, pred, ◌+◌, ◌≤◌, ◌<◌}
use native.Mathlib.Omega.{arith}
use lib.Dec.{ltb, eqb}
use lib.ListN.{length, get_or, set, drop}
use lib.Seq.{get_or-set_same, get_or-set_other}
use borrow.Author.Tests.{eqb-true, eqb-false, eq-eqb, ne_eqb, lt-ltb, le-ltb}
use Rattle.machine.specs.Words.{is_cell}
use Rattle.machine.specs.Table.{capacity, scratch_words}
use Rattle.machine.specs.Reached.{is_root}
use Rattle.machine.specs.Step.{cleared}
use Rattle.machine.proofs.Range.{tested, lt_or_ge, not_both, or_right}
use Rattle.machine.proofs.Words.{index_cell}
use Rattle.machine.proofs.Scratch.{length_cleared, cleared_zero, past_cleared}
use Rattle.marks.specs.Marks.{is_marked}
use Rattle.marks.specs.Stack.{Stack, stack, unmet, pushed, pushed_if_rooted, pushed_rooted, Threaded}
use Rattle.marks.proofs.Scratch.{cell_word, word_within_lem}
use Rattle.marks.proofs.Stack.{Unmet, push_cases, threaded_pushed, done_before, past_pushed}

-- the cell at index i has been met
abbrev pub met : Stack → ℕ → Bool
met st i = is_marked st.words i

-- a push marks its word's cell and no other
module _ (c w : ℕ) (st : Stack) (h : scratch_words c ≤ length st.words) (i : ℕ) (l : i < c) where
  or_other : (b : Bool) → (w ≡ suc i → ⊥) → b ≡ b || eqb w (suc i)
  or_other true d = refl
  or_other false d = sym (ne_eqb w (suc i) d)

  -- a cell whose push changes nothing was met before
  met_before : unmet c w st.words ≡ false → w ≡ suc i → met st i ≡ true
  unfolding unmet is_marked
  met_before f e = ⊎_elim (λ z. lt-ltb 0 (get_or st.words i 0) z) (λ z. absurd (not_both (new z) f)) (lt_or_ge 0 (get_or st.words i 0))
    where
      new : get_or st.words i 0 ≤ 0 → is_cell c w && eqb (get_or st.words (pred w) 0) 0 ≡ true
      new z = rw (e, index_cell c i l, eq-eqb (get_or st.words i 0) 0 (omega arith))

  pub met_pushed : met (pushed c w st) i ≡ met st i || eqb w (suc i)
  unfolding is_marked
  met_pushed = push_cases (λ r. met r i ≡ met st i || eqb w (suc i)) c w st none push
    where
      none : unmet c w st.words ≡ false → met st i ≡ met st i || eqb w (suc i)
      none f =
          ⊎_elim (λ (e : eqb w (suc i) ≡ true). rw (e, met_before f (eqb-true w (suc i) e))) (λ e. or_other (met st i) (eqb-false w (suc i) e))
          (tested (eqb w (suc i)))

      push : Unmet c w st.words → ltb 0 (get_or (set st.words (pred w) (st.top + 2)) i 0) ≡ met st i || eqb w (suc i)
      push u = ⊎_elim (λ e. here (eqb-true w (suc i) e)) (λ e. elsewhere (eqb-false w (suc i) e)) (tested (eqb w (suc i)))
        where
          here : w ≡ suc i → ltb 0 (get_or (set st.words (pred w) (st.top + 2)) i 0) ≡ met st i || eqb w (suc i)
          here e =
              let p : pred w ≡ i = ap pred e in
              rw (p, get_or-set_same st.words i (st.top + 2) 0 (word_within_lem c i (length st.words) l h), lt-ltb 0 (st.top + 2) (omega arith))
              (sym (or_right (met st i) (eq-eqb w (suc i) e)))

          elsewhere : (w ≡ suc i → ⊥) → ltb 0 (get_or (set st.words (pred w) (st.top + 2)) i 0) ≡ met st i || eqb w (suc i)
          elsewhere d = rw (get_or-set_other st.words (pred w) i (st.top + 2) 0 (λ x. d (omega (arith, u.number)))) (or_other (met st i) d)

-- before anything is followed
pub record Fresh (c : ℕ) (st : Stack) : Type 0 where
  pub threaded : Threaded c st
  pub none : (i : ℕ) → i < c → get_or st.words i 0 ≢ 1

pub fresh_pushed : (c w : ℕ) (st : Stack) → Fresh c st → Fresh c (pushed c w st)
fresh_pushed c w st h = record {
  threaded = threaded_pushed c w st h.threaded;
  none = λ i l e. h.none i l (done_before c w st h.threaded i l e);
}

-- what pushes leave: a fresh stack, with the words past the scratch of c cells as they were, and these marks more
pub record Pushed (c : ℕ) (more : ℕ → Bool) (st st' : Stack) : Type 0 where
  pub fresh : Fresh c st'
  pub past : drop (scratch_words c) st'.words ≡ drop (scratch_words c) st.words
  pub marks : (i : ℕ) → i < c → met st' i ≡ met st i || more i

pushed_nothing : (c : ℕ) (st : Stack) → Fresh c st → Pushed c (λ _. false) st st
pushed_nothing c st h = record { fresh = h; past = refl; marks = λ i l. sym (or-false (met st i)) }

pushed_one : (c w : ℕ) (st : Stack) → Fresh c st → Pushed c (λ i. eqb w (suc i)) st (pushed c w st)
pushed_one c w st h = record { fresh = fresh_pushed c w st h; past = past_pushed c w st; marks = λ i l. met_pushed c w st h.threaded.enough i l }

pushed_then : (c : ℕ) (f g : ℕ → Bool) (st u v : Stack) → Pushed c f st u → Pushed c g u v → Pushed c (λ i. f i || g i) st v
pushed_then c f g st u v p q = record {
  fresh = q.fresh;
  past = q.past ∙ p.past;
  marks = λ i l. q.marks i l ∙ ap (◌|| g i) (p.marks i l) ∙ or_assoc (met st i) (f i) (g i);
}

pushed_as : (c : ℕ) (f g : ℕ → Bool) (st u : Stack) → ((i : ℕ) → i < c → f i ≡ g i) → Pushed c f st u → Pushed c g st u
pushed_as c f g st u e p = record { fresh = p.fresh; past = p.past; marks = λ i l. p.marks i l ∙ ap (met st i ||◌) (e i l) }

-- the roots among the first n cells
module _ (t : List ℕ) (c : ℕ) where
  if_pushed : (n : ℕ) (st : Stack) → Fresh c st → Pushed c (λ i. is_root t n && eqb (suc n) (suc i)) st (pushed_if_rooted t c n st)
  unfolding pushed_if_rooted
  if_pushed n st h = go (is_root t n)
    where
      go : (b : Bool) → Pushed c (λ i. b && eqb (suc n) (suc i)) st (cond b (pushed c (suc n) st) st)
      go true = pushed_one c (suc n) st h
      go false = pushed_nothing c st h

  rooted_pushed : (n : ℕ) (st : Stack) → Fresh c st → Pushed c (λ i. ltb i n && is_root t i) st (pushed_rooted t c n st)
  unfolding pushed_rooted
  rooted_pushed zero st h = pushed_as c (λ _. false) (λ i. ltb i zero && is_root t i) st st (λ i l. rw (le-ltb i zero (omega arith))) (pushed_nothing c st h)
  rooted_pushed (suc n) st h =
      let p = rooted_pushed n st h in
      let u = pushed_rooted t c n st in
      pushed_as c (λ i. ltb i n && is_root t i || (is_root t n && eqb (suc n) (suc i))) (λ i. ltb i (suc n) && is_root t i) st (pushed_if_rooted t c n u) (λ i l. one i)
      (pushed_then c (λ i. ltb i n && is_root t i) (λ i. is_root t n && eqb (suc n) (suc i)) st u (pushed_if_rooted t c n u) p (if_pushed n u p.fresh))
    where
      one : (i : ℕ) → ltb i n && is_root t i || (is_root t n && eqb (suc n) (suc i)) ≡ ltb i (suc n) && is_root t i
      one i = ⊎_elim below (λ m. ⊎_elim (λ e. here (eqb-true i n e)) (λ e. past m (eqb-false i n e)) (tested (eqb i n))) (lt_or_ge i n)
        where
          below : i < n → ltb i n && is_root t i || (is_root t n && eqb (suc n) (suc i)) ≡ ltb i (suc n) && is_root t i
          below m = rw (lt-ltb i n m, lt-ltb i (suc n) (omega arith), ne_eqb (suc n) (suc i) (omega arith), and-false (is_root t n)) (or-false (is_root t i))

          here : i ≡ n → ltb i n && is_root t i || (is_root t n && eqb (suc n) (suc i)) ≡ ltb i (suc n) && is_root t i
          here e = rw (e, le-ltb n n (omega arith), lt-ltb n (suc n) (omega arith), eq-eqb (suc n) (suc n) refl) (and-true (is_root t n))

          past : n ≤ i → (i ≡ n → ⊥) → ltb i n && is_root t i || (is_root t n && eqb (suc n) (suc i)) ≡ ltb i (suc n) && is_root t i
          past m d = rw (le-ltb i n m, le-ltb i (suc n) (omega arith), ne_eqb (suc n) (suc i) (omega arith)) (and-false (is_root t n))

-- the cleared scratch
cleared_word : (c : ℕ) (s : List ℕ) (i : ℕ) → i < c → get_or (cleared (scratch_words c) s) i 0 ≡ 0
cleared_word c s i l = cleared_zero (scratch_words c) s i (cell_word c i l)

fresh_cleared : (c : ℕ) (s : List ℕ) → scratch_words c ≤ length s → Fresh c (stack (cleared (scratch_words c) s) 0)
fresh_cleared c s h = record {
  threaded = record {
    enough = rw (length_cleared (scratch_words c) s h) h;
    pending = [];
    chained = refl;
    all = λ i l m. absurd (omega (arith, cleared_word c s i l));
  };
  none = λ i l e. omega (arith, cleared_word c s i l);
}

-- all roots pushed, from the cleared scratch
module _ (t s : List ℕ) (h : scratch_words (capacity t) ≤ length s) where
  abbrev base : Stack
  base = stack (cleared (scratch_words (capacity t)) s) 0

  abbrev pub ready : Stack
  ready = pushed_rooted t (capacity t) (capacity t) base

  roots_pushed : Pushed (capacity t) (is_root t) base ready
  roots_pushed =
      let c = capacity t in
      pushed_as c (λ i. ltb i c && is_root t i) (is_root t) base ready (λ i l. rw (lt-ltb i c l)) (rooted_pushed t c c base (fresh_cleared c s h))

  pub ready_fresh : Fresh (capacity t) ready
  ready_fresh = roots_pushed.fresh

  pub ready_past : drop (scratch_words (capacity t)) ready.words ≡ drop (scratch_words (capacity t)) s
  ready_past = roots_pushed.past ∙ past_cleared (scratch_words (capacity t)) s

  pub ready_roots : (i : ℕ) → i < capacity t → met ready i ≡ is_root t i
  unfolding is_marked
  ready_roots i l = roots_pushed.marks i l ∙ rw (cleared_word (capacity t) s i l)
