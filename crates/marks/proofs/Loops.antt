-- What the functions of the marking do, and the steps of their loops.
use mathlib.Core.Path.{◌≡◌, refl, ap, ◌∙◌}
use mathlib.Core.Bool.{Bool, true, false}
use mathlib.Core.List.{List}
use Prim.Native.Nat.{ℕ, pred, ◌+◌, ◌-◌, ◌≤◌, ◌<◌}
use native.Mathlib.Numerals.{add-one, sub-one}
use lib.ListN.{length, get_or, set, drop}
use borrow.Author.Tests.{eq-eqb, ne_eqb}
use Rattle.machine.specs.Words.{is_cell, most_cells}
use Rattle.machine.specs.Table.{left, right, capacity, table_length, scratch_words, word_at}
use Rattle.machine.specs.Reached.{is_root}
use Rattle.machine.specs.Step.{cleared}
use Rattle.machine.specs.Facts.{TableShape}
use Rattle.marks.specs.Marks.{Marks}
use Rattle.marks.specs.Stack.{Stack, stack, unmet, pushed, pushed_if_rooted, pushed_rooted, visited, Pushes, Visitable, Followable, Follows}
use Rattle.counts.proofs.Cells.{bounds}
use Rattle.marks.proofs.RootMarks.{ready, ready_fresh}
use Rattle.marks.proofs.Stack.{first, work, visitable}
use Rattle.marks.proofs.Closure.{Following, following_visited, work_visited, past_visited, ready_marks}

module _ (c w : ℕ) (s : List ℕ) (top : ℕ) where
  pub push_new : is_cell c w ≡ true → get_or s (w - 1) 0 ≡ 0 → Pushes c (stack (set s (w - 1) (top + 2)) w) (pushed c w (stack s top))
  push_new h z = record { same = unfold pushed unmet in rw (h, sub-one w, eq-eqb (get_or s (pred w) 0) 0 (rw sub-one at z)); below = (bounds c w h).1 }

  pub push_met : top ≤ c → is_cell c w ≡ true → (get_or s (w - 1) 0 ≡ 0 → ⊥) → Pushes c (stack s top) (pushed c w (stack s top))
  push_met l h d = record { same = unfold pushed unmet in rw (h, ne_eqb (get_or s (pred w) 0) 0 (rw sub-one at d)); below = l }

  pub push_none : top ≤ c → is_cell c w ≡ false → Pushes c (stack s top) (pushed c w (stack s top))
  push_none l h = record { same = unfold pushed unmet in rw h; below = l }

module _ (t : List ℕ) (c i : ℕ) (st : Stack) where
  pub if_rooted : is_root t i ≡ true → (left : Stack) → Pushes c left (pushed c (i + 1) st) → Pushes c left (pushed_if_rooted t c i st)
  if_rooted h left p = record { same = p.same ∙ (unfold pushed_if_rooted in rw (h, add-one i)); below = p.below }

  pub unrooted : is_root t i ≡ false → st.top ≤ c → Pushes c st (pushed_if_rooted t c i st)
  unrooted h l = record { same = unfold pushed_if_rooted in rw h; below = l }

pub rooted_none : (t : List ℕ) (c : ℕ) (st : Stack) → st.top ≤ c → Pushes c st (pushed_rooted t c 0 st)
unfolding pushed_rooted
rooted_none t c st l = record { same = refl; below = l }

pub rooted_more : (t : List ℕ) (c i : ℕ) (st u v : Stack) → Pushes c u (pushed_rooted t c i st) → Pushes c v (pushed_if_rooted t c i u)
    → Pushes c v (pushed_rooted t c (i + 1) st)
rooted_more t c i st u v p q = record { same = q.same ∙ ap (pushed_if_rooted t c i) p.same ∙ (unfold pushed_rooted in rw add-one); below = q.below }

pub visit_is : (t : List ℕ) (c : ℕ) (s : List ℕ) (top x y : ℕ) (u v : Stack) → x ≡ word_at t (top - 1) left → y ≡ word_at t (top - 1) right
    → Pushes c u (pushed c x (stack (set s (top - 1) 1) (get_or s (top - 1) 0 - 2))) → Pushes c v (pushed c y u) → Pushes c v (visited t c (stack s top))
visit_is t c s top x y u v e f p q = record { same = q.same ∙ rw (p.same, e, f, sub-one top) (unfold visited in refl); below = q.below }

-- one pending cell more followed
module _ (c : ℕ) (start : ℕ → Bool) (t : List ℕ) (st : Stack) (h : Following c start t c st) (l : 1 ≤ st.top) where
  pub to_visit : table_length c ≤ length t → c ≤ most_cells → Visitable c t st
  to_visit r m = visitable c t st h.threaded (first c st h.threaded l) l r m

  module _ (v : Stack) (p : Pushes c v (visited t c st)) where
    pub still_following : Following c start t c v
    still_following = rw p.same (following_visited c start t st h (first c st h.threaded l))

    pub less_work : work c v.words < work c st.words
    less_work = rw p.same (work_visited c start t st h (first c st h.threaded l))

    pub same_past : drop (scratch_words c) v.words ≡ drop (scratch_words c) st.words
    same_past = rw p.same (past_visited c start t st h (first c st h.threaded l))

-- the pushes from a cleared scratch
module _ (t s : List ℕ) (k : TableShape t) (h : scratch_words (capacity t) ≤ length s) (c : ℕ) (cells : c ≡ capacity t) where
  pub fits : (table_length c ≤ length t) × (scratch_words c ≤ length s) × (c ≤ most_cells)
  fits = rw cells (k.room, h, k.most)

  abbrev start : Stack
  start = ready t s h

  pub made_ready : (u v : Stack) → u ≡ stack (cleared (scratch_words c) s) 0 → Pushes c v (pushed_rooted t c c u) → v ≡ start
  made_ready u v e p = p.same ∙ rw (e, cells)

  pub ready_followable : (v : Stack) → v ≡ start → Followable c t v
  ready_followable v e =
      let f = ready_fresh t s h in
      rw (e, cells) (record { room = k.room; most = k.most; threaded = f.threaded; none = f.none })

  pub marked : (v : Stack) → v ≡ start → (s' : List ℕ) → Follows c t v.words s' → Marks t s s'
  marked v e s' f = ready_marks t s h s' (rw (e, cells) at f)
