-- Questions 6 to 10 of each call, by its operands' sums, whatever the packet's word c where no question looks at it: no code here.
use mathlib.Core.Path.{◌≡◌, refl, sym, ap, ap₂, ◌∙◌}
use mathlib.Core.Logic.{⊎_elim}
use mathlib.Core.Bool.{Bool, true, false, not, ◌&&◌, ◌||◌}
use mathlib.Core.List.{List, [], ◌∷◌}
use Prim.Native.Nat.{ℕ, suc, pred, ◌+◌, ◌≤◌, ◌<◌}
use native.Mathlib.Omega.{arith}
use lib.Dec.{eqb}
use borrow.Author.Tests.{eqb-true, eqb-false, eq-eqb, ne_eqb, le-leb}
use Rattle.machine.specs.declared.Queue.{Queue}
use Rattle.machine.specs.Range.{every, matching, every_of}
use Rattle.machine.specs.Words.{is_cell, ceiling}
use Rattle.machine.specs.Table.{left, right, capacity, first_free}
use Rattle.machine.specs.Queue.{Packet, packet, waiting}
use Rattle.machine.specs.Packets.{Counter, root, cell, plus, minus, replaces, kind_of, uses_of, uses, changes_of, changes, moved_by, contains}
use Rattle.machine.specs.Counts.{held_at_least}
use Rattle.machine.specs.Questions.{first_no, refused_by, held_enough}
use Rattle.machine.proofs.Range.{tested, not_both, or_left, or-false, every_at, every_all, matching_same, matching_other, same_tests}
use Rattle.machine.proofs.Lists.{and-true, every_of_at, every_of_all}
use Rattle.machine.proofs.Words.{cell_index, cell_number_lem, index_cell}
use Rattle.queue.specs.declared.Sums.{Sums}
use Rattle.queue.specs.Sums.{at_least, at_most_ceiling}
use Rattle.calls.specs.Early.{Replaces}
use Rattle.calls.specs.Tests.{raised_words, count_within, raised_within, free_by_end, code_late}
use Rattle.calls.specs.Tally.{CounterTally, TallyOf, held_times, held_after, pointers_after, read_number, cons_number, replace_number, up_number, down_number}

-- question 6 at one word
abbrev word_held : List ℕ → List Packet → Packet → ℕ → Bool
word_held t ps p w = not (is_cell (capacity t) w) || (eqb (uses p w) 0 || held_at_least t ps (pred w) (uses p w))

-- question 6 is asked of the words that the call names
held_words : (t : List ℕ) (ps : List Packet) (p : Packet) (ws : List ℕ) → ((y : ℕ) → contains ws y ≡ false → uses p y ≡ 0)
    → held_enough t ps p ≡ every_of ws (word_held t ps p)
unfolding held_enough
held_words t ps p ws none = same_tests (every (capacity t) test) (every_of ws (word_held t ps p)) there back
  where
    test : ℕ → Bool
    test i = eqb (uses p (suc i)) 0 || held_at_least t ps i (uses p (suc i))

    there : every (capacity t) test ≡ true → every_of ws (word_held t ps p) ≡ true
    there h = every_of_all ws (word_held t ps p) (λ w m. ⊎_elim (inside w) (outside w) (tested (is_cell (capacity t) w)))
      where
        inside : (w : ℕ) → is_cell (capacity t) w ≡ true → word_held t ps p w ≡ true
        inside w e =
            let k = every_at (capacity t) test h (pred w) (cell_index (capacity t) w e) in
            rw e (rw (← (cell_number_lem (capacity t) w e)) at k)

        outside : (w : ℕ) → is_cell (capacity t) w ≡ false → word_held t ps p w ≡ true
        outside w e = rw e

    back : every_of ws (word_held t ps p) ≡ true → every (capacity t) test ≡ true
    back h = every_all (capacity t) test (λ i l. ⊎_elim (named i l) (unnamed i) (tested (contains ws (suc i))))
      where
        named : (i : ℕ) → i < capacity t → contains ws (suc i) ≡ true → test i ≡ true
        named i l m =
            let k : word_held t ps p (suc i) ≡ true = every_of_at ws (word_held t ps p) (suc i) h m in
            let d : pred (suc i) ≡ i = omega arith in
            rw (index_cell (capacity t) i l, d) at k

        unnamed : (i : ℕ) → contains ws (suc i) ≡ false → test i ≡ true
        unnamed i m = or_left (held_at_least t ps i (uses p (suc i))) (eq-eqb (uses p (suc i)) 0 (none (suc i) m))

-- question 6 at a word that the call names n times
word_held_lem : (t : List ℕ) (ps : List Packet) (w r l : ℕ) → CounterTally root 2 t ps w r l → (p : Packet) (n : ℕ) → uses p w ≡ n → 1 ≤ n
    → (is_cell (capacity t) w ≡ false → n ≤ 2) → word_held t ps p w ≡ at_least r l n
unfolding held_at_least
word_held_lem t ps w r l h p n u some small = ⊎_elim here elsewhere (tested (is_cell (capacity t) w))
  where
    here : is_cell (capacity t) w ≡ true → word_held t ps p w ≡ at_least r l n
    here e = rw (e, u, ne_eqb n 0 (omega arith), ← (cell_number_lem (capacity t) w e), h.lowered e, h.raised e)

    elsewhere : is_cell (capacity t) w ≡ false → word_held t ps p w ≡ at_least r l n
    elsewhere e = rw e (sym (le-leb (l + n) r (omega (arith, (h.other e).0, (h.other e).1, small e))))

-- questions 9 and 10 at a word that the packet raises by more and lowers by less
word_within_lem : (k : Counter) (n : ℕ) (t : List ℕ) (ps : List Packet) (w r l : ℕ) → CounterTally k n t ps w r l → (p : Packet) (more less : ℕ)
    → moved_by k plus w (changes p) ≡ more → moved_by k minus w (changes p) ≡ less → n ≤ 2 → (is_cell (capacity t) w ≡ false → more ≤ 2)
    → not (is_cell (capacity t) w) || count_within k t ps p (pred w) ≡ at_most_ceiling (r + more) (l + less)
unfolding count_within
word_within_lem k n t ps w r l h p more less a b few small = ⊎_elim here elsewhere (tested (is_cell (capacity t) w))
  where
    here : is_cell (capacity t) w ≡ true → not (is_cell (capacity t) w) || count_within k t ps p (pred w) ≡ at_most_ceiling (r + more) (l + less)
    here e =
        let sum : ceiling + l + less ≡ ceiling + (l + less) = omega arith in
        rw (e, ← (cell_number_lem (capacity t) w e), a, b, ← (h.raised e), ← (h.lowered e), sum)

    elsewhere : is_cell (capacity t) w ≡ false → not (is_cell (capacity t) w) || count_within k t ps p (pred w) ≡ at_most_ceiling (r + more) (l + less)
    elsewhere e = rw e (sym (le-leb (r + more) (ceiling + (l + less)) (omega (arith, (h.other e).0, small e))))

-- one number for two tests
refused_and : (a b : Bool) (n rest : ℕ) → refused_by (a && b) n rest ≡ refused_by a n (refused_by b n rest)
refused_and true b n rest = refl
refused_and false b n rest = refl

matching_turned : (x y : ℕ) → matching x y 1 ≡ matching y x 1
matching_turned x y =
    ⊎_elim (λ e. matching_same x y 1 (eqb-true x y e) ∙ sym (matching_same y x 1 (sym (eqb-true x y e))))
    (λ e. matching_other x y 1 (eqb-false x y e) ∙ sym (matching_other y x 1 (λ d. eqb-false x y e (sym d)))) (tested (eqb x y))

-- words that a list does not have
not_one : (x y : ℕ) → contains (x ∷ []) y ≡ false → x ≡ y → ⊥
unfolding contains
not_one x y m = eqb-false x y (or-false (eqb x y) false m).0

not_two : (x z y : ℕ) → contains (x ∷ z ∷ []) y ≡ false → (x ≡ y → ⊥) × (z ≡ y → ⊥)
unfolding contains
not_two x z y m =
    let o = or-false (eqb x y) (eqb z y || false) m in
    (eqb-false x y o.0, eqb-false z y (or-false (eqb z y) false o.1).0)

matching_few : (w x : ℕ) → matching w x 1 ≤ 1
matching_few w x = ⊎_elim (λ e. omega (arith, matching_same w x 1 (eqb-true w x e))) (λ e. omega (arith, matching_other w x 1 (eqb-false w x e))) (tested (eqb w x))

-- question 6 of a call that names one cell, and of one that names two words
one_held : (t : List ℕ) (ps : List Packet) (p : Packet) (x n r l : ℕ) → is_cell (capacity t) x ≡ true → CounterTally root 2 t ps x r l
    → ((y : ℕ) → uses p y ≡ matching x y n) → 1 ≤ n → held_enough t ps p ≡ at_least r l n
unfolding every_of
one_held t ps p x n r l hx h u some =
    held_words t ps p (x ∷ []) (λ y m. u y ∙ matching_other x y n (not_one x y m))
    ∙ and-true (word_held t ps p x)
    ∙ word_held_lem t ps x r l h p n (u x ∙ matching_same x x n refl) some (λ f. absurd (not_both hx f))

two_held : (t : List ℕ) (ps : List Packet) (p : Packet) (x z : ℕ) (sx sz : Sums) (same : ℕ) → TallyOf t ps x sx → TallyOf t ps z sz
    → ((y : ℕ) → uses p y ≡ matching x y 1 + matching z y 1) → same ≡ matching z x 1
    → held_enough t ps p ≡ held_times sx (1 + same) && held_times sz (1 + same)
unfolding every_of
two_held t ps p x z sx sz same hx hz u e =
    held_words t ps p (x ∷ z ∷ []) none
    ∙ ap₂ ◌&&◌ (word_held_lem t ps x sx.held.raised sx.held.lowered hx.held p (1 + same) ux (omega arith) (λ _. few))
    (and-true (word_held t ps p z) ∙ word_held_lem t ps z sz.held.raised sz.held.lowered hz.held p (1 + same) uz (omega arith) (λ _. few))
  where
    few : 1 + same ≤ 2
    few = omega (arith, e, matching_few z x)

    ux : uses p x ≡ 1 + same
    ux = omega (arith, u x, matching_same x x 1 refl)

    uz : uses p z ≡ 1 + same
    uz = omega (arith, u z, matching_same z z 1 refl, matching_turned x z)

    none : (y : ℕ) → contains (x ∷ z ∷ []) y ≡ false → uses p y ≡ 0
    none y m = let o = not_two x z y m in omega (arith, u y, matching_other x y 1 o.0, matching_other z y 1 o.1)

-- questions 9 and 10 at a tallied word
held_after_lem : (t : List ℕ) (ps : List Packet) (w : ℕ) (s : Sums) → TallyOf t ps w s → (p : Packet) (more less : ℕ) → moved_by root plus w (changes p) ≡ more
    → moved_by root minus w (changes p) ≡ less → (is_cell (capacity t) w ≡ false → more ≤ 2)
    → not (is_cell (capacity t) w) || count_within root t ps p (pred w) ≡ held_after s more less
held_after_lem t ps w s h p more less a b small =
    word_within_lem root 2 t ps w s.held.raised s.held.lowered h.held p more less a b (omega arith) small

pointers_after_lem : (t : List ℕ) (ps : List Packet) (w : ℕ) (s : Sums) → TallyOf t ps w s → (p : Packet) (more less : ℕ) → moved_by cell plus w (changes p) ≡ more
    → moved_by cell minus w (changes p) ≡ less → (is_cell (capacity t) w ≡ false → more ≤ 2)
    → not (is_cell (capacity t) w) || count_within cell t ps p (pred w) ≡ pointers_after s more less
pointers_after_lem t ps w s h p more less a b small =
    word_within_lem cell 0 t ps w s.pointers.raised s.pointers.lowered h.pointers p more less a b (omega arith) small

-- a read of x that gives w
read_late : (t : List ℕ) (q : Queue) (x w z : ℕ) (sx sw : Sums) (same : ℕ) → is_cell (capacity t) x ≡ true → TallyOf t (waiting q) x sx
    → TallyOf t (waiting q) w sw → same ≡ matching x w 1 → first_no (code_late t q (packet 1 x w z)) ≡ read_number q sx sw same
unfolding code_late first_no free_by_end kind_of raised_within raised_words uses uses_of changes changes_of moved_by every_of
read_late t q x w z sx sw same hx tx tw e =
    let p = packet 1 x w z in
    let six = one_held t (waiting q) p x 1 sx.held.raised sx.held.lowered hx tx.held (λ y. refl) (omega arith) in
    let nine = held_after_lem t (waiting q) w sw tw p 1 same (omega (arith, matching_same w w 1 refl)) (omega arith) (λ _. omega arith) in
    rw (six, nine, and-true (held_after sw 1 same))

pub read_asked : (t : List ℕ) (q : Queue) (x w : ℕ) (sx sw : Sums) (same a : ℕ) → is_cell (capacity t) x ≡ true → TallyOf t (waiting q) x sx
    → TallyOf t (waiting q) w sw → same ≡ matching x w 1 → a ≡ read_number q sx sw same → (z : ℕ) → a ≡ first_no (code_late t q (packet 1 x w z))
read_asked t q x w sx sw same a hx tx tw e d z = d ∙ sym (read_late t q x w z sx sw same hx tx tw e)

-- a cons of x and y
cons_late : (t : List ℕ) (q : Queue) (x y z : ℕ) (sx sy : Sums) (same : ℕ) → TallyOf t (waiting q) x sx → TallyOf t (waiting q) y sy
    → same ≡ matching y x 1 → first_no (code_late t q (packet 2 x y z)) ≡ cons_number q sx sy same (first_free t)
unfolding code_late first_no free_by_end kind_of raised_within raised_words uses uses_of changes changes_of moved_by every_of
cons_late t q x y z sx sy same tx ty e =
    let p = packet 2 x y z in
    let few : same ≤ 1 = omega (arith, e, matching_few y x) in
    let six = two_held t (waiting q) p x y sx sy same tx ty (λ w. refl) e in
    let ten-x = pointers_after_lem t (waiting q) x sx tx p (1 + same) 0 (omega (arith, matching_same x x 1 refl)) (omega arith) (λ _. omega arith) in
    let ten-y =
    pointers_after_lem t (waiting q) y sy ty p (1 + same) 0 (omega (arith, matching_same y y 1 refl, matching_turned x y)) (omega arith) (λ _. omega arith) in
    rw (six, ten-x, ten-y, and-true (pointers_after sy (1 + same) 0), refused_and (held_times sx (1 + same)) (held_times sy (1 + same)), refused_and)

pub cons_asked : (t : List ℕ) (q : Queue) (x y : ℕ) (sx sy : Sums) (same first a : ℕ) → TallyOf t (waiting q) x sx → TallyOf t (waiting q) y sy
    → same ≡ matching y x 1 → first ≡ first_free t → a ≡ cons_number q sx sy same first → (z : ℕ) → a ≡ first_no (code_late t q (packet 2 x y z))
cons_asked t q x y sx sy same first a tx ty e f d z = d ∙ ap (cons_number q sx sy same) f ∙ sym (cons_late t q x y z sx sy same tx ty e)

-- a replace in x by y that detaches d, of either kind
replace_late : (t : List ℕ) (q : Queue) (n field y d x : ℕ) (sy sx : Sums) (same kept : ℕ) → kind_of n ≡ replaces field → TallyOf t (waiting q) y sy
    → TallyOf t (waiting q) x sx → same ≡ matching x y 1 → kept ≡ matching d y 1 → first_no (code_late t q (packet n y d x)) ≡ replace_number q sy sx same kept
unfolding code_late first_no free_by_end raised_within raised_words uses uses_of changes changes_of moved_by every_of
replace_late t q n field y d x sy sx same kept h ty tx e g =
    let p = packet n y d x in
    let six = two_held t (waiting q) p y x sy sx same ty tx (λ w. rw h) e in
    let raised : moved_by cell plus y (changes p) ≡ 1 = rw h (omega (arith, matching_same y y 1 refl)) in
    let lowered : moved_by cell minus y (changes p) ≡ kept = rw h (omega arith) in
    let ten = pointers_after_lem t (waiting q) y sy ty p 1 kept raised lowered (λ _. omega arith) in
    rw (six, h, ten, and-true (pointers_after sy 1 kept), refused_and)

pub replace_either : (t : List ℕ) (q : Queue) (y d x : ℕ) (sy sx : Sums) (same kept a : ℕ) → TallyOf t (waiting q) y sy → TallyOf t (waiting q) x sx
    → same ≡ matching x y 1 → kept ≡ matching d y 1 → a ≡ replace_number q sy sx same kept
    → (kind : ℕ) → Replaces kind → a ≡ first_no (code_late t q (packet kind y d x))
unfolding kind_of
replace_either t q y d x sy sx same kept a ty tx e g z kind =
    ⊎_elim (λ h. z ∙ sym (replace_late t q kind left y d x sy sx same kept (ap kind_of h) ty tx e g))
    (λ h. z ∙ sym (replace_late t q kind right y d x sy sx same kept (ap kind_of h) ty tx e g))

-- up and down of x by n
up_late : (t : List ℕ) (q : Queue) (x n z : ℕ) (s : Sums) → is_cell (capacity t) x ≡ true → TallyOf t (waiting q) x s
    → first_no (code_late t q (packet 4 x n z)) ≡ up_number q s n
unfolding code_late first_no free_by_end kind_of raised_within raised_words uses uses_of changes changes_of moved_by every_of
up_late t q x n z s hx h =
    let p = packet 4 x n z in
    let six = one_held t (waiting q) p x 1 s.held.raised s.held.lowered hx h.held (λ y. refl) (omega arith) in
    let nine = held_after_lem t (waiting q) x s h p n 0 (omega (arith, matching_same x x n refl)) (omega arith) (λ f. absurd (not_both hx f)) in
    rw (six, nine, and-true (held_after s n 0))

pub up_asked : (t : List ℕ) (q : Queue) (x n : ℕ) (s : Sums) (a : ℕ) → is_cell (capacity t) x ≡ true → TallyOf t (waiting q) x s → a ≡ up_number q s n
    → (z : ℕ) → a ≡ first_no (code_late t q (packet 4 x n z))
up_asked t q x n s a hx h d z = d ∙ sym (up_late t q x n z s hx h)

down_late : (t : List ℕ) (q : Queue) (x n z : ℕ) (s : Sums) → is_cell (capacity t) x ≡ true → 1 ≤ n → TallyOf t (waiting q) x s
    → first_no (code_late t q (packet 5 x n z)) ≡ down_number q s n
unfolding code_late first_no free_by_end kind_of raised_within raised_words uses uses_of changes changes_of every_of
down_late t q x n z s hx l h = rw (one_held t (waiting q) (packet 5 x n z) x n s.held.raised s.held.lowered hx h.held (λ y. refl) l)

pub down_asked : (t : List ℕ) (q : Queue) (x n : ℕ) (s : Sums) (a : ℕ) → is_cell (capacity t) x ≡ true → 1 ≤ n → TallyOf t (waiting q) x s → a ≡ down_number q s n
    → (z : ℕ) → a ≡ first_no (code_late t q (packet 5 x n z))
down_asked t q x n s a hx l h d z = d ∙ sym (down_late t q x n z s hx l h)
