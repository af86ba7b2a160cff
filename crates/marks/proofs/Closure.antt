-- Following the pending cells marks just what they lead to.
use mathlib.Core.Path.{◌≡◌, refl, sym, ap, ◌∙◌}
use mathlib.Core.Logic.{⊎_elim, ◌≢◌}
use mathlib.Core.Bool.{Bool, true, false, ◌||◌}
use mathlib.Core.List.{List}
use Prim.Native.Nat.{ℕ, zero, suc, pred, ◌≤◌, ◌<◌}
use native.Mathlib.Omega.{arith}
use lib.Dec.{ltb, eqb}
use lib.ListN.{length, get_or, drop}
use lib.Seq.{get_or-set_same, get_or-set_other, drop-set-lt}
use borrow.Author.Tests.{eqb-true, eqb-false, eq-eqb, lt-ltb, ltb-true}
use Rattle.machine.specs.Range.{tabulate}
use Rattle.machine.specs.Words.{is_cell}
use Rattle.machine.specs.Table.{left, right, capacity, scratch_words, word_at}
use Rattle.machine.specs.Reached.{is_root, points_to, ReachedBy, begun, onward, spread, marks, reached_by, reached}
use Rattle.machine.proofs.Range.{tested, not_both, or_true, or_left, or_right}
use Rattle.machine.proofs.Words.{cell_index, cell_number_lem, index_cell}
use Rattle.machine.proofs.Reached.{computed, computes}
use Rattle.marks.specs.Marks.{is_marked, Marks}
use Rattle.marks.specs.Stack.{Stack, pushed, visited, Threaded, Followable, Follows}
use Rattle.marks.proofs.Scratch.{cell_word, word_within_lem}
use Rattle.marks.proofs.Stack.{threaded_pushed, done_before, popped, First, none_pending, work, work_pushed, work_popped, past_pushed}
use Rattle.marks.proofs.RootMarks.{met, met_pushed, ready, ready_past, ready_roots}

-- Halfway: what is marked is earned, what is followed leads to marked cells only (the cell at `but` excepted), and what was marked first still is.
pub record Following (c : ℕ) (start : ℕ → Bool) (t : List ℕ) (but : ℕ) (st : Stack) : Type 0 where
  pub threaded : Threaded c st
  pub earned : (i : ℕ) → i < c → met st i ≡ true → ReachedBy c start (points_to t) i
  pub followed : (i j : ℕ) → i < c → i ≢ but → get_or st.words i 0 ≡ 1 → j < c → points_to t i j ≡ true → met st j ≡ true
  pub started : (i : ℕ) → i < c → start i ≡ true → met st i ≡ true

module _ (c : ℕ) (start : ℕ → Bool) (t : List ℕ) where
  abbrev Got : ℕ → Type 0
  Got = ReachedBy c start (points_to t)

  -- a push of a reached cell
  module _ (but w : ℕ) (st : Stack) (h : Following c start t but st) (r : is_cell c w ≡ true → Got (pred w)) where
    stays : (i : ℕ) → i < c → met st i ≡ true → met (pushed c w st) i ≡ true
    stays i l m = met_pushed c w st h.threaded.enough i l ∙ or_left (eqb w (suc i)) m

    following_pushed : Following c start t but (pushed c w st)
    following_pushed = record {
      threaded = threaded_pushed c w st h.threaded;
      earned = λ i l m. ⊎_elim (λ e. h.earned i l e) (λ e. here i l (eqb-true w (suc i) e))
          (or_true (met st i) (eqb w (suc i)) (sym (met_pushed c w st h.threaded.enough i l) ∙ m));
      followed = λ i j l d e k p. stays j k (h.followed i j l d (done_before c w st h.threaded i l e) k p);
      started = λ i l e. stays i l (h.started i l e);
    }
      where
        here : (i : ℕ) → i < c → w ≡ suc i → Got i
        here i l e =
            let p : pred w ≡ i = ap pred e in
            rw p at (r (rw e (index_cell c i l)))

    met_word : (j : ℕ) → j < c → w ≡ suc j → met (pushed c w st) j ≡ true
    met_word j l e = met_pushed c w st h.threaded.enough j l ∙ or_right (met st j) (eq-eqb w (suc j) e)

  -- the first pending cell taken off: its fields are to be followed
  module _ (st : Stack) (h : Following c start t c st) (f : First c st) where
    abbrev p : ℕ
    p = pred st.top

    met_popped : (i : ℕ) → met (popped st) i ≡ met st i
    unfolding is_marked
    met_popped i = ⊎_elim (λ e. here (eqb-true p i e)) (λ e. ap (ltb 0) (get_or-set_other st.words p i 1 0 (λ x. eqb-false p i e (sym x)))) (tested (eqb p i))
      where
        here : p ≡ i → met (popped st) i ≡ met st i
        here e =
            rw (← e, get_or-set_same st.words p 1 0 (word_within_lem c p (length st.words) f.index h.threaded.enough))
            (sym (lt-ltb 0 (get_or st.words p 0) (omega (arith, f.linked))))

    following_popped : Following c start t p (popped st)
    following_popped = record {
      threaded = f.rest;
      earned = λ i l m. h.earned i l (sym (met_popped i) ∙ m);
      followed = λ i j l d e k q. met_popped j ∙ h.followed i j l (omega arith) (sym (get_or-set_other st.words p i 1 0 d) ∙ e) k q;
      started = λ i l e. met_popped i ∙ h.started i l e;
    }

    got : Got p
    unfolding is_marked
    got = h.earned p f.index (lt-ltb 0 (get_or st.words p 0) (omega (arith, f.linked)))

    got_left : is_cell c (word_at t p left) ≡ true → Got (pred (word_at t p left))
    got_left e =
        onward got (cell_index c (word_at t p left) e)
        (unfold points_to in or_left (eqb (word_at t p right) (suc (pred (word_at t p left))))
        (eq-eqb (word_at t p left) (suc (pred (word_at t p left))) (cell_number_lem c (word_at t p left) e)))

    got_right : is_cell c (word_at t p right) ≡ true → Got (pred (word_at t p right))
    got_right e =
        onward got (cell_index c (word_at t p right) e)
        (unfold points_to in or_right (eqb (word_at t p left) (suc (pred (word_at t p right))))
        (eq-eqb (word_at t p right) (suc (pred (word_at t p right))) (cell_number_lem c (word_at t p right) e)))

    abbrev one : Stack
    one = pushed c (word_at t p left) (popped st)

    abbrev two : Stack
    two = pushed c (word_at t p right) one

    following_one : Following c start t p one
    following_one = following_pushed p (word_at t p left) (popped st) following_popped got_left

    following_two : Following c start t p two
    following_two = following_pushed p (word_at t p right) one following_one got_right

    pub following_visited : Following c start t c (visited t c st)
    unfolding visited
    following_visited = record {
      threaded = following_two.threaded;
      earned = following_two.earned;
      followed = λ i j l d e k q. ⊎_elim (λ x. fields (eqb-true i p x) j k q) (λ x. following_two.followed i j l (eqb-false i p x) e k q) (tested (eqb i p));
      started = following_two.started;
    }
      where
        fields : {i : ℕ} → i ≡ p → (j : ℕ) → j < c → points_to t i j ≡ true → met two j ≡ true
        fields {i} e j k q =
            let o : eqb (word_at t p left) (suc j) || eqb (word_at t p right) (suc j) ≡ true = unfold points_to in (rw e at q) in
            ⊎_elim (λ x. stays p (word_at t p right) one following_one got_right j k
            (met_word p (word_at t p left) (popped st) following_popped got_left j k (eqb-true (word_at t p left) (suc j) x)))
            (λ x. met_word p (word_at t p right) one following_one got_right j k (eqb-true (word_at t p right) (suc j) x))
            (or_true (eqb (word_at t p left) (suc j)) (eqb (word_at t p right) (suc j)) o)

    pub work_visited : work c (visited t c st).words < work c st.words
    unfolding visited
    work_visited =
        omega (
          arith,
          work_popped c st h.threaded f,
          work_pushed c (word_at t p left) (popped st) f.rest,
          work_pushed c (word_at t p right) one following_one.threaded,
        )

    pub past_visited : drop (scratch_words c) (visited t c st).words ≡ drop (scratch_words c) st.words
    unfolding visited
    past_visited =
        past_pushed c (word_at t p right) one ∙ past_pushed c (word_at t p left) (popped st)
        ∙ drop-set-lt (scratch_words c) st.words p 1 (cell_word c p f.index)

  -- nothing pending: what is marked is what is reached
  pub followed_all : (st : Stack) → Following c start t c st → st.top ≡ 0 → (i : ℕ) → i < c → met st i ≡ reached_by c start (points_to t) i
  unfolding is_marked
  followed_all st h z i l =
      ⊎_elim (λ (e : met st i ≡ true). e ∙ sym (computes c start (points_to t) (h.earned i l e)))
      (λ e. e ∙ sym (missed e)) (tested (met st i))
    where
      reach : {j : ℕ} → Got j → met st j ≡ true
      reach (begun {i = j} m s) = h.started j m s
      reach (onward {j = j} {i = k} r m s) = h.followed j k (below r) (omega (arith, below r)) (done (reach r)) m s
        where
          below : {x : ℕ} → Got x → x < c
          below (begun m s) = m
          below (onward r m s) = m

          done : met st j ≡ true → get_or st.words j 0 ≡ 1
          done m = omega (arith, ltb-true 0 (get_or st.words j 0) m, none_pending c st h.threaded z j (below r))

      missed : met st i ≡ false → reached_by c start (points_to t) i ≡ false
      missed e = ⊎_elim (λ d. absurd (not_both (reach (computed c start (points_to t) i d)) e)) (λ d. d) (tested (reached_by c start (points_to t) i))

pub following_start : (c : ℕ) (t : List ℕ) (st : Stack) → Followable c t st → Following c (met st) t c st
following_start c t st h = record {
  threaded = h.threaded;
  earned = λ i l m. begun l m;
  followed = λ i j l d e. absurd (h.none i l e);
  started = λ i l e. e;
}

-- the same starts lead to the same cells
tabulate_same : (n : ℕ) (f g : ℕ → Bool) → ((i : ℕ) → i < n → f i ≡ g i) → tabulate n f ≡ tabulate n g
unfolding tabulate
tabulate_same zero f g e = refl
tabulate_same (suc n) f g e = rw (tabulate_same n f g (λ i l. e i (omega arith)), e n (omega arith))

starts_same : (c : ℕ) (f g : ℕ → Bool) (edge : ℕ → ℕ → Bool) → ((i : ℕ) → i < c → f i ≡ g i) → (n : ℕ) → marks c f edge n ≡ marks c g edge n
unfolding marks
starts_same c f g edge e zero = tabulate_same c f g e
starts_same c f g edge e (suc n) = ap (spread c edge) (starts_same c f g edge e n)

reached_same : (c : ℕ) (f g : ℕ → Bool) (edge : ℕ → ℕ → Bool) → ((i : ℕ) → i < c → f i ≡ g i) → (i : ℕ) → reached_by c f edge i ≡ reached_by c g edge i
unfolding reached_by
reached_same c f g edge e i = rw (starts_same c f g edge e c)

-- from the pushed roots to the marks
pub ready_marks : (t : List ℕ) (s : List ℕ) (h : scratch_words (capacity t) ≤ length s) (s' : List ℕ)
    → Follows (capacity t) t (ready t s h).words s' → Marks t s s'
ready_marks t s h s' f = record { marks = marked; past = f.past ∙ ready_past t s h }
  where
    marked : (i : ℕ) → i < capacity t → is_marked s' i ≡ reached t i
    marked i l =
        f.marks i l ∙ reached_same (capacity t) (met (ready t s h)) (is_root t) (points_to t) (ready_roots t s h) i ∙ (unfold reached in refl)
