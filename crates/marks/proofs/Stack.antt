-- Laws of the pending cells threaded through the scratch: pushing and popping keep the thread, and use up the work that is left.
use mathlib.Core.Path.{◌≡◌, refl, sym, ap, ◌∙◌}
use mathlib.Core.Logic.{⊎_elim}
use mathlib.Core.Bool.{true, false, false≢true}
use mathlib.Core.List.{List, [], ◌∷◌}
use Prim.Native.Nat.{ℕ, zero, suc, pred, ◌+◌, ◌-◌, ◌≤◌, ◌<◌}
use native.Mathlib.Omega.{arith}
use native.Mathlib.Numerals.{sub-one}
use lib.Dec.{eqb}
use lib.ListN.{length, get_or, set, drop, length-set}
use lib.Seq.{get_or-set_same, get_or-set_other, drop-set-lt}
use borrow.Author.Tests.{eqb-true, eqb-false}
use Rattle.machine.specs.Range.{total}
use Rattle.machine.specs.Words.{is_cell, most_cells}
use Rattle.machine.specs.Table.{table_length, scratch_words}
use Rattle.machine.specs.Packets.{contains}
use Rattle.machine.proofs.Range.{tested, lt_or_ge, not_both, or_true, or_left, or_right, or-false, and_first, and_second, total_at}
use Rattle.machine.proofs.Words.{cell_index, cell_number_lem}
use Rattle.machine.proofs.Lists.{contains_cons}
use Rattle.marks.specs.Stack.{Stack, stack, unmet, pushed, Chained, Threaded, Visitable}
use Rattle.marks.proofs.Scratch.{cell_word, word_within_lem}

-- a word's cell is pushed, or nothing happens
pub record Unmet (c w : ℕ) (s : List ℕ) : Type 0 where
  pub cell : is_cell c w ≡ true
  pub index : pred w < c
  pub number : w ≡ suc (pred w)
  pub zero : get_or s (pred w) 0 ≡ 0

unmet_is : (c w : ℕ) (s : List ℕ) → unmet c w s ≡ true → Unmet c w s
unfolding unmet
unmet_is c w s h =
    let i = and_first (is_cell c w) (eqb (get_or s (pred w) 0) 0) h in
    record {
      cell = i;
      index = cell_index c w i;
      number = cell_number_lem c w i;
      zero = eqb-true (get_or s (pred w) 0) 0 (and_second (is_cell c w) (eqb (get_or s (pred w) 0) 0) h);
    }

-- what both outcomes of a push have
pub push_cases : (P : Stack → Type 0) (c w : ℕ) (st : Stack) → (unmet c w st.words ≡ false → P st)
    → (Unmet c w st.words → P (stack (set st.words (pred w) (st.top + 2)) w)) → P (pushed c w st)
push_cases P c w st f g =
    ⊎_elim (λ (e : unmet c w st.words ≡ true). unfold pushed in rw e (g (unmet_is c w st.words e)))
    (λ (e : unmet c w st.words ≡ false). unfold pushed in rw e (f e)) (tested (unmet c w st.words))

contains_none : (i : ℕ) → contains [] i ≡ true → ⊥
unfolding contains
contains_none i h = false≢true h

module _ (c : ℕ) (s : List ℕ) where
  -- a pending cell has a link
  member_linked : (w : ℕ) (is : List ℕ) → Chained c s w is → (i : ℕ) → contains is i ≡ true → 2 ≤ get_or s i 0
  member_linked w [] h i m = absurd (contains_none i m)
  member_linked w (j ∷ is) h i m =
      ⊎_elim (λ e. let same : j ≡ i =
      eqb-true j i e in rw same at h.2) (λ e. member_linked (get_or s j 0 - 2) is h.4 i e) (or_true (eqb j i) (contains is i)
      (rw contains_cons at m))

  -- a write elsewhere keeps the thread
  chained_set : (w : ℕ) (is : List ℕ) (i v : ℕ) → Chained c s w is → contains is i ≡ false → Chained c (set s i v) w is
  chained_set w [] i v h d = h
  chained_set w (j ∷ is) i v h d =
      let o = or-false (eqb j i) (contains is i) (rw contains_cons at d) in
      rw (get_or-set_other s i j v 0 (eqb-false j i o.0)) (h.0, h.1, h.2, h.3, chained_set (get_or s j 0 - 2) is i v h.4 o.1)

  chained_below : (w : ℕ) (is : List ℕ) → Chained c s w is → w ≤ c
  chained_below w [] h = omega arith
  chained_below w (i ∷ is) h = let a = h.0 in let b = h.1 in omega arith

pub threaded_pushed : (c w : ℕ) (st : Stack) → Threaded c st → Threaded c (pushed c w st)
threaded_pushed c w st h = push_cases (Threaded c) c w st (λ _. h) push
  where
    push : Unmet c w st.words → Threaded c (stack (set st.words (pred w) (st.top + 2)) w)
    push u = record {
      enough = simp length-set h.enough;
      pending = pred w ∷ h.pending;
      chained = (
        u.number,
        u.index,
        rw same (omega arith),
        new,
        rw same (rw back (chained_set c st.words st.top h.pending (pred w)
            (st.top + 2) h.chained new)),
      );
      all = all;
    }
      where
        same : get_or (set st.words (pred w) (st.top + 2)) (pred w) 0 ≡ st.top + 2
        same = get_or-set_same st.words (pred w) (st.top + 2) 0 (word_within_lem c (pred w) (length st.words) u.index h.enough)

        back : st.top + 2 - 2 ≡ st.top
        back = omega arith

        new : contains h.pending (pred w) ≡ false
        new =
            ⊎_elim (λ e. absurd (omega (arith, member_linked c st.words st.top h.pending h.chained (pred w) e, u.zero))) (λ e. e)
            (tested (contains h.pending (pred w)))

        all : (i : ℕ) → i < c → 2 ≤ get_or (set st.words (pred w) (st.top + 2)) i 0 → contains (pred w ∷ h.pending) i ≡ true
        all i l g =
            rw contains_cons
            (⊎_elim (λ e. or_left (contains h.pending i) e)
            (λ e. or_right (eqb (pred w) i) (h.all i l (rw (get_or-set_other st.words (pred w) i (st.top + 2) 0 (λ x. eqb-false (pred w) i e (sym x))) at g)))
            (tested (eqb (pred w) i)))

-- the first pending cell taken off
abbrev pub popped : Stack → Stack
popped st = stack (set st.words (pred st.top) 1) (get_or st.words (pred st.top) 0 - 2)

-- what the first pending cell has
pub record First (c : ℕ) (st : Stack) : Type 0 where
  pub index : pred st.top < c
  pub linked : 2 ≤ get_or st.words (pred st.top) 0
  pub onward : get_or st.words (pred st.top) 0 ≤ c + 2
  pub rest : Threaded c (popped st)

pub first : (c : ℕ) (st : Stack) → Threaded c st → 1 ≤ st.top → First c st
first c st h l = go h.pending h.chained h.all
  where
    go : (is : List ℕ) → Chained c st.words st.top is → ((i : ℕ) → i < c → 2 ≤ get_or st.words i 0 → contains is i ≡ true) → First c st
    go [] ch all = absurd (omega arith)
    go (i ∷ is) ch all = record {
      index = rw at_top ch.1;
      linked = rw at_top ch.2;
      onward = rw at_top (omega (arith, chained_below c st.words (get_or st.words i 0 - 2) is ch.4));
      rest = rw at_top (record {
        enough = simp length-set h.enough;
        pending = is;
        chained = chained_set c st.words (get_or st.words i 0 - 2) is i 1 ch.4 ch.3;
        all = others;
      });
    }
      where
        at_top : pred st.top ≡ i
        at_top = ap pred ch.0

        others : (j : ℕ) → j < c → 2 ≤ get_or (set st.words i 1) j 0 → contains is j ≡ true
        others j m g = ⊎_elim here elsewhere (tested (eqb i j))
          where
            here : eqb i j ≡ true → contains is j ≡ true
            here e =
                absurd (omega (arith, rw (← eqb-true i j e, get_or-set_same st.words i 1 0 (word_within_lem c i (length st.words) ch.1 h.enough)) at g))

            elsewhere : eqb i j ≡ false → contains is j ≡ true
            elsewhere e =
                let k = all j m (rw (get_or-set_other st.words i j 1 0 (λ x. eqb-false i j e (sym x))) at g) in
                ⊎_elim (λ d. absurd (not_both d e)) (λ d. d) (or_true (eqb i j) (contains is j) (rw contains_cons at k))

-- a stack whose top is 0 has nothing pending
pub none_pending : (c : ℕ) (st : Stack) → Threaded c st → st.top ≡ 0 → (i : ℕ) → i < c → get_or st.words i 0 ≤ 1
none_pending c st h e i l = go h.pending h.chained h.all
  where
    go : (is : List ℕ) → Chained c st.words st.top is → ((j : ℕ) → j < c → 2 ≤ get_or st.words j 0 → contains is j ≡ true) → get_or st.words i 0 ≤ 1
    go [] ch all = ⊎_elim (λ m. omega arith) (λ m. absurd (contains_none i (all i l m))) (lt_or_ge (get_or st.words i 0) 2)
    go (j ∷ is) ch all = absurd (omega (arith, ch.0))

-- the work left: a cell not met is met and followed, a pending one followed
abbrev weight : ℕ → ℕ
weight zero = 2
weight (suc zero) = 0
weight (suc (suc n)) = 1

linked_weight : (n : ℕ) → 2 ≤ n → weight n ≡ 1
linked_weight zero h = absurd (omega arith)
linked_weight (suc zero) h = absurd (omega arith)
linked_weight (suc (suc n)) h = refl

pub work : ℕ → List ℕ → ℕ
work c s = total c (λ i. weight (get_or s i 0))

work_set : (c : ℕ) (s : List ℕ) (i v : ℕ) → i < c → scratch_words c ≤ length s → work c s + weight v ≡ work c (set s i v) + weight (get_or s i 0)
unfolding work
work_set c s i v l h =
    let same : get_or (set s i v) i 0 ≡ v = get_or-set_same s i v 0 (word_within_lem c i (length s) l h) in
    rw same at (total_at c (λ j. weight (get_or s j 0)) (λ j. weight (get_or (set s i v) j 0)) i l (λ j m d. ap weight (sym (get_or-set_other s i j v 0 d))))

pub work_pushed : (c w : ℕ) (st : Stack) → Threaded c st → work c (pushed c w st).words ≤ work c st.words
work_pushed c w st h = push_cases (λ r. work c r.words ≤ work c st.words) c w st (λ _. omega arith) push
  where
    push : Unmet c w st.words → work c (set st.words (pred w) (st.top + 2)) ≤ work c st.words
    push u =
        let e = work_set c st.words (pred w) (st.top + 2) u.index h.enough in
        let a : weight (st.top + 2) ≡ 1 = linked_weight (st.top + 2) (omega arith) in
        let b : weight (get_or st.words (pred w) 0) ≡ 2 = ap weight u.zero in
        omega arith

pub work_popped : (c : ℕ) (st : Stack) → Threaded c st → First c st → work c (popped st).words < work c st.words
work_popped c st h f =
    let e = work_set c st.words (pred st.top) 1 f.index h.enough in
    let a : weight (get_or st.words (pred st.top) 0) ≡ 1 = linked_weight (get_or st.words (pred st.top) 0) f.linked in
    omega arith

-- a push follows no cell's fields
pub done_before : (c w : ℕ) (st : Stack) → Threaded c st → (i : ℕ) → i < c → get_or (pushed c w st).words i 0 ≡ 1 → get_or st.words i 0 ≡ 1
done_before c w st h i l = push_cases (λ r. get_or r.words i 0 ≡ 1 → get_or st.words i 0 ≡ 1) c w st (λ _ e. e) push
  where
    push : Unmet c w st.words → get_or (set st.words (pred w) (st.top + 2)) i 0 ≡ 1 → get_or st.words i 0 ≡ 1
    push u e =
        ⊎_elim (λ x. absurd (here (eqb-true (pred w) i x)))
        (λ x. sym (get_or-set_other st.words (pred w) i (st.top + 2) 0 (λ y. eqb-false (pred w) i x (sym y))) ∙ e) (tested (eqb (pred w) i))
      where
        here : pred w ≡ i → ⊥
        here x =
            omega (
              arith,
              e,
              get_or-set_same st.words i (st.top + 2) 0 (word_within_lem c i (length st.words) l h.enough),
              ap (λ (j : ℕ). get_or
                  (set st.words j (st.top + 2)) i 0) x,
            )

-- words past the scratch of c cells stand
pub past_pushed : (c w : ℕ) (st : Stack) → drop (scratch_words c) (pushed c w st).words ≡ drop (scratch_words c) st.words
past_pushed c w st =
    push_cases (λ r. drop (scratch_words c) r.words ≡ drop (scratch_words c) st.words) c w st (λ _. refl)
    (λ u. drop-set-lt (scratch_words c) st.words (pred w) (st.top + 2) (cell_word c (pred w) u.index))

pub visitable : (c : ℕ) (t : List ℕ) (st : Stack) → Threaded c st → First c st → 1 ≤ st.top → table_length c ≤ length t → c ≤ most_cells → Visitable c t st
visitable c t st h f l r m = record {
  room = r;
  enough = h.enough;
  most = m;
  some = l;
  below = omega (arith, f.index);
  linked = rw sub-one f.linked;
  onward = rw sub-one f.onward;
}
