-- The text of a ring by its left words is brackets without end: the 33rd is one too many, if the room does not end before it.
use mathlib.Core.Path.{◌≡◌, refl, ap, ◌∙◌}
use mathlib.Core.Logic.{⊎_elim}
use mathlib.Core.Bool.{false, not}
use mathlib.Core.List.{List, [], ◌∷◌, ◌++◌, append_assoc}
use Prim.Native.Nat.{ℕ, zero, suc, ◌+◌, ◌≤◌, ◌<◌}
use native.Mathlib.Omega.{arith}
use lib.Dec.{eqb}
use lib.ListN.{replicate}
use borrow.Author.Tests.{eqb-false, ne_eqb}
use Rattle.notation.specs.Trees.{Tree, nil, pair}
use Rattle.notation.specs.Grammar.{open_byte, close_byte}
use Rattle.notation.specs.Print.{print, print_rest}
use Rattle.notation.specs.Brackets.{most_open, open_after, opens_too_many, Met, too_many, no_room, is_too_many, is_no_room, first_met}
use Rattle.machine.specs.Queue.{empty_queue}
use Rattle.machine.specs.Calls.{write, refused}
use Rattle.machine.specs.Texts.{leaf, opened, text_for}
use Rattle.machine.specs.Questions.{ask, word_held, met, questions}
use Rattle.machine.specs.WrongAnswers.{noes, OnlyAnswer, ring, lent}
use Rattle.machine.proofs.Range.{tested}
use Rattle.machine.proofs.Computes.{computes}
use Rattle.machine.proofs.OnlyAnswers.{only_first}

-- lists of one element each in the one before
tower : ℕ → Tree
tower zero = nil
tower (suc n) = pair (tower n) nil

nil_opened : (n : ℕ) → opened n ring 0 ≡ nil
unfolding opened leaf computes
nil_opened zero = refl
nil_opened (suc n) = refl

ring_opened : (n : ℕ) → (opened n ring 1 ≡ tower n) × (opened n ring 2 ≡ tower n)
unfolding opened leaf tower computes
ring_opened zero = (refl, refl)
ring_opened (suc n) = let r = ring_opened n in (rw (r.1, nil_opened n), rw (r.0, nil_opened n))

-- its text begins with so many brackets
tower_text : (n : ℕ) → (rest : List ℕ) × (print (tower n) ≡ replicate n open_byte ++ rest)
unfolding print print_rest tower
tower_text zero = (open_byte ∷ close_byte ∷ [], refl)
tower_text (suc n) =
    let t = tower_text n in (
      t.0 ++ (close_byte ∷ []),
      ap (λ (bs : List ℕ). open_byte ∷ (bs ++ (close_byte ∷ []))) t.1
          ∙ ap (λ (bs : List ℕ). open_byte ∷ bs) (append_assoc (replicate n open_byte) t.0 (close_byte ∷ [])),
    )

module _ (rest : List ℕ) where
  -- with d brackets open before them, k more come
  met_deep : (k room d : ℕ) → d ≤ most_open → most_open < d + k → most_open ≤ d + room → first_met room d (replicate k open_byte ++ rest) ≡ too_many
  unfolding first_met opens_too_many open_after
  met_deep zero room d l m r = absurd (omega arith)
  met_deep (suc k) room d l m r =
      ⊎_elim (λ e. rw e) (λ e. further room r (eqb-false d most_open e) e (λ q. met_deep k q (suc d))) (tested (eqb d most_open))
    where
      further : (room : ℕ) → most_open ≤ d + room → (d ≡ most_open → ⊥) → eqb d most_open ≡ false
          → ((q : ℕ) → suc d ≤ most_open → most_open < suc d + k → most_open ≤ suc d + q → first_met q (suc d) (replicate k open_byte ++ rest) ≡ too_many)
          → first_met room d (replicate (suc k) open_byte ++ rest) ≡ too_many
      further zero r n e ih = absurd (n (omega arith))
      further (suc room) r n e ih = rw (e, ne_eqb (suc room) 0 (λ z. omega arith)) (ih room (below n) (omega arith) (omega arith))
        where
          below : (d ≡ most_open → ⊥) → suc d ≤ most_open
          below n = omega arith

  met_short : (k room d : ℕ) → d + room < most_open → room < k → first_met room d (replicate k open_byte ++ rest) ≡ no_room
  unfolding first_met opens_too_many open_after
  met_short zero room d m r = absurd (omega arith)
  met_short (suc k) zero d m r = rw (ne_eqb d most_open (λ e. omega arith))
  met_short (suc k) (suc room) d m r = rw (ne_eqb d most_open (λ e. omega arith), ne_eqb (suc room) 0 (λ e. omega arith)) (met_short k room (suc d) (omega arith) (omega arith))

module _ (room : ℕ) where
  -- what is met on the way into so much room
  ring_met : (m : Met) → ((rest : List ℕ) → first_met room 0 (replicate (suc room) open_byte ++ rest) ≡ m) → met room ring 1 ≡ m
  unfolding met text_for
  ring_met m h =
      let t = tower_text (suc room) in
      ap (λ (tree : Tree). first_met room 0 (print tree)) (ring_opened (suc room)).0 ∙ ap (first_met room 0) t.1 ∙ h t.0

  -- the questions before 12 say "yes"
  ring_noes : (m : Met) (n : ℕ) → met room ring 1 ≡ m → noes (ask 12 (not (is_too_many m)) ∷ ask 13 (not (is_no_room m)) ∷ []) ≡ n ∷ []
      → noes (questions (lent ring empty_queue) (write 1 room)) ≡ n ∷ []
  unfolding computes noes word_held
  ring_noes m n e h = rw e h

  pub ring_deep : 32 ≤ room → OnlyAnswer (lent ring empty_queue) (write 1 room) (refused 12) (lent ring empty_queue)
  unfolding noes
  ring_deep l =
      only_first (lent ring empty_queue) (write 1 room) 11 [] tt
      (ring_noes too_many 12 (ring_met too_many (λ rest. met_deep rest (suc room) room 0 (omega arith) (omega arith) (omega arith))) refl)

  pub ring_short : room < 32 → OnlyAnswer (lent ring empty_queue) (write 1 room) (refused 13) (lent ring empty_queue)
  unfolding noes
  ring_short l =
      only_first (lent ring empty_queue) (write 1 room) 12 [] tt
      (ring_noes no_room 13 (ring_met no_room (λ rest. met_short rest (suc room) room 0 (omega arith) (omega arith))) refl)
