-- S2: a walk over free cells that ends after as many steps as there are free cells meets each of them once; and the free chain is such a walk.
use mathlib.Core.Path.{◌≡◌, refl, sym, ap, ap₂, ◌∙◌}
use mathlib.Core.Logic.{⊎_elim}
use mathlib.Core.Bool.{Bool, true, false, ◌&&◌, ◌||◌}
use mathlib.Core.List.{List, [], ◌∷◌, ◌++◌, map, append-nil}
use Prim.Native.Nat.{ℕ, suc, pred, ◌+◌, ◌-◌, ◌≤◌, ◌<◌}
use native.Mathlib.Numerals.{sub-one}
use native.Mathlib.Omega.{arith}
use lib.Dec.{eqb}
use lib.ListN.{length, length-append}
use borrow.Author.Tests.{eqb-true, eqb-false}
use Rattle.machine.specs.Audit.{free_chain, laid_out, met_once, chain_sound}
use Rattle.machine.specs.Facts.{Linked, Chain}
use Rattle.machine.specs.Range.{every, total, matching, occurrences, every_of, last_of}
use Rattle.machine.specs.Table.{left, capacity, first_free, last_free, word_at, in_use, is_free}
use Rattle.machine.specs.Words.{is_cell}
use Rattle.machine.proofs.Chain.{linked_indices, total_occurrences, laid_wiped, chain_is}
use Rattle.machine.proofs.Lists.{last_of_snoc}
use Rattle.machine.proofs.Range.{tested, not_both, lt_or_ge, and_both, and_first, and_second, every_at, total_same, total_lt, matching_same, matching_other, occurrences_append, refuted}
use Rattle.machine.proofs.Table.{free_not_in_use}
use Rattle.machine.proofs.Words.{cell_index, cell_number_lem, index_cell}
use Rattle.audit_cells.specs.FreeChain.{free_or_used, free_laid_out, free_bit, free_cells, is_free_cell}
use Rattle.audit_cells.proofs.Tests.{and_no_second}

module _ (t : List ℕ) where
  -- indices linked by their left words, from the number w to the number v
  abbrev pub Leads : ℕ → List ℕ → ℕ → Type 0
  Leads w [] v = w ≡ v
  Leads w (i ∷ is) v = (w ≡ suc i) × (i < capacity t) × Leads (word_at t i left) is v

  leads_snoc : (w : ℕ) (is : List ℕ) (i : ℕ) → Leads w is (suc i) → i < capacity t → Leads w (is ++ (i ∷ [])) (word_at t i left)
  leads_snoc w [] i h l = (h, l, refl)
  leads_snoc w (j ∷ is) i h l = (h.0, h.1, leads_snoc (word_at t j left) is i h.2 l)

  leads_nil : (w : ℕ) (is : List ℕ) → Leads w is 0 → Linked t w is
  leads_nil w [] h = h
  leads_nil w (i ∷ is) h = (h.0, h.1, leads_nil (word_at t i left) is h.2)

  -- a linked list that begins at w goes the same way
  linked_on : (w : ℕ) (is : List ℕ) (v : ℕ) (js : List ℕ) → Leads w is v → Linked t w js → (ks : List ℕ) × (js ≡ is ++ ks) × Linked t v ks
  linked_on w [] v js h k = (js, refl, rw h at k)
  linked_on w (i ∷ is) v [] h k = let e = h.0 in absurd (omega arith)
  linked_on w (i ∷ is) v (j ∷ js) h k =
      let e : i ≡ j = omega (arith, h.0, k.0) in
      let r = linked_on (word_at t i left) is v js h.2 (rw e k.2) in
      (r.0, ap₂ ◌∷◌ (sym e) r.1, r.2)

  linked_length : (w : ℕ) (is js : List ℕ) → Linked t w is → Linked t w js → length is ≡ length js
  linked_length w [] [] h k = refl
  linked_length w [] (j ∷ js) h k = let e = k.0 in absurd (omega arith)
  linked_length w (i ∷ is) [] h k = let e = h.0 in absurd (omega arith)
  linked_length w (i ∷ is) (j ∷ js) h k =
      let e : i ≡ j = omega (arith, h.0, k.0) in
      ap suc (linked_length (word_at t i left) is js h.2 (rw e k.2))

  -- the part of a linked list from an index that it meets
  linked_from : (x w : ℕ) (is : List ℕ) → Linked t w is → 0 < occurrences x is → (js : List ℕ) × Linked t (suc x) js × (length js ≤ length is)
  unfolding occurrences
  linked_from x w [] h l = absurd (omega arith)
  linked_from x w (i ∷ is) h l =
      ⊎_elim (λ e. here (eqb-true i x e)) (λ e. later (linked_from x (word_at t i left) is h.2) (eqb-false i x e)) (tested (eqb i x))
    where
      here : i ≡ x → (js : List ℕ) × Linked t (suc x) js × (length js ≤ length (i ∷ is))
      here e = (i ∷ is, (ap suc (sym e), h.1, h.2), omega arith)

      later : (0 < occurrences x is → (js : List ℕ) × Linked t (suc x) js × (length js ≤ length is)) → (i ≡ x → ⊥)
          → (js : List ℕ) × Linked t (suc x) js × (length js ≤ length (i ∷ is))
      later f d = let m = matching_other i x 1 d in let r = f (omega arith) in let b = r.2 in (r.0, r.1, omega arith)

  -- a walk that meets an index twice never ends
  linked_once : (x w : ℕ) (is : List ℕ) → Linked t w is → occurrences x is ≤ 1
  unfolding occurrences
  linked_once x w [] h = omega arith
  linked_once x w (i ∷ is) h =
      ⊎_elim (λ e. here (eqb-true i x e))
      (λ e. let m = matching_other i x 1 (eqb-false i x e) in omega (arith, linked_once x (word_at t i left) is h.2)) (tested (eqb i x))
    where
      twice : i ≡ x → 0 < occurrences x is → ⊥
      twice e l =
          let r = linked_from x (word_at t i left) is h.2 l in
          let b = r.2 in
          omega (arith, linked_length (suc x) r.0 (i ∷ is) r.1 (ap suc (sym e), h.1, h.2))

      here : i ≡ x → matching i x 1 + occurrences x is ≤ 1
      here e = ⊎_elim (λ l. absurd (twice e l)) (λ l. omega (arith, matching_same i x 1 e)) (lt_or_ge 0 (occurrences x is))

  every_of_snoc : (p : ℕ → Bool) (is : List ℕ) (i : ℕ) → every_of is p ≡ true → p i ≡ true → every_of (is ++ (i ∷ [])) p ≡ true
  unfolding every_of
  every_of_snoc p [] i h k = and_both k refl
  every_of_snoc p (j ∷ is) i h k = and_both (and_first (p j) (every_of is p) h) (every_of_snoc p is i (and_second (p j) (every_of is p) h) k)

  every_of_none : (p : ℕ → Bool) (is : List ℕ) (x : ℕ) → every_of is p ≡ true → p x ≡ false → occurrences x is ≡ 0
  unfolding every_of occurrences
  every_of_none p [] x h k = refl
  every_of_none p (i ∷ is) x h k =
      let m = matching_other i x 1 (λ e. not_both (and_first (p i) (every_of is p) h) (rw e k)) in
      omega (arith, every_of_none p is x (and_second (p i) (every_of is p) h) k)

  bit_one : (i : ℕ) → is_free t i ≡ true → free_bit t i ≡ 1
  unfolding free_bit
  bit_one i h = rw h

  bit_none : (i : ℕ) → is_free t i ≡ false → free_bit t i ≡ 0
  unfolding free_bit
  bit_none i h = rw h

  -- as many steps as there are free cells: each of them once
  all_once : (w : ℕ) (is : List ℕ) → Linked t w is → every_of is (is_free t) ≡ true → length is ≡ free_cells t → (i : ℕ) → i < capacity t
      → occurrences i is ≡ free_bit t i
  unfolding free_cells
  all_once w is h f n i l = ⊎_elim (λ m. absurd (short m)) (λ m. let k = most i l in omega arith) (lt_or_ge (occurrences i is) (free_bit t i))
    where
      most : (j : ℕ) → j < capacity t → occurrences j is ≤ free_bit t j
      most j m =
          ⊎_elim (λ e. omega (arith, bit_one j e, linked_once j w is h)) (λ e. omega (arith, every_of_none (is_free t) is j f e)) (tested (is_free t j))

      short : occurrences i is < free_bit t i → ⊥
      short m =
          let e = total_occurrences (capacity t) is (linked_indices t w is h) in
          let s : total (capacity t) (λ j. occurrences j is) < total (capacity t) (free_bit t) =
          total_lt (capacity t) (λ j. occurrences j is) (free_bit t) i l most m in
          omega arith

  chain_length : (js : List ℕ) → Chain t js → length js ≡ free_cells t
  unfolding free_cells free_bit
  chain_length js h =
      sym (total_occurrences (capacity t) js (linked_indices t (first_free t) js h.linked))
      ∙ total_same (capacity t) (λ j. occurrences j js) (free_bit t) h.once

  -- what the code knows after some steps
  pub record Walked (steps w last : ℕ) (is : List ℕ) : Type 0 where
    pub leads : Leads (first_free t) is w
    pub free : every_of is (is_free t) ≡ true
    pub many : length is ≡ steps
    pub ends : last ≡ last_of (map suc is)

  pub walked_none : Walked 0 (first_free t) 0 []
  unfolding every_of last_of
  walked_none = record { leads = refl; free = refl; many = refl; ends = refl }

  pub free_cell_lem : (w : ℕ) → is_free_cell t w ≡ true → (w ≡ suc (pred w)) × (pred w < capacity t) × (is_free t (pred w) ≡ true)
  unfolding is_free_cell
  free_cell_lem w h =
      let c = and_first (is_cell (capacity t) w) (is_free t (pred w)) h in
      (cell_number_lem (capacity t) w c, cell_index (capacity t) w c, and_second (is_cell (capacity t) w) (is_free t (pred w)) h)

  -- one step more
  pub walked_more : (steps w last v : ℕ) (is : List ℕ) → Walked steps w last is → is_free_cell t w ≡ true → v ≡ word_at t (w - 1) left
      → Walked (steps + 1) v w (is ++ (pred w ∷ []))
  walked_more steps w last v is h f e =
      let c = free_cell_lem w f in record {
        leads = rw (e, sub-one w) (leads_snoc (first_free t) is (pred w) (rw c.0 at h.leads) c.1);
        free = every_of_snoc (is_free t) is (pred w) h.free c.2;
        many = length-append is (pred w ∷ []) ∙ ap (◌+ 1) h.many;
        ends = c.0 ∙ sym (last_of_snoc is (pred w));
      }

  -- a walk that ends where and when it must
  pub walk_meets : (last : ℕ) (is : List ℕ) → Walked (free_cells t) 0 last is → last ≡ last_free t → free_laid_out t ≡ true → chain_sound t ≡ true
  unfolding free_bit free_laid_out free_or_used
  walk_meets last is h e f = (chain_is t).1 (
    is,
    record {
      linked = link;
      ends = sym h.ends ∙ e;
      once = λ i l. all_once (first_free t) is link h.free h.many i l;
      wiped = λ i k l m. laid_wiped t i (laid i l m) k;
    },
  )
    where
      link : Linked t (first_free t) is
      link = leads_nil (first_free t) is h.leads

      laid : (i : ℕ) → i < capacity t → is_free t i ≡ true → laid_out t i ≡ true
      laid i l m = let w = every_at (capacity t) (λ j. in_use t j || laid_out t j) f i l in rw (free_not_in_use t i m) at w

  meets : (i : ℕ) (is ks : List ℕ) → 0 < occurrences i (is ++ (i ∷ ks))
  unfolding occurrences
  meets i is ks = omega (arith, occurrences_append i is (i ∷ ks), matching_same i i 1 refl)

  -- and on a sound chain it does
  module _ (h : chain_sound t ≡ true) (steps w last : ℕ) (is : List ℕ) (k : Walked steps w last is) where
    chain : (js : List ℕ) × Chain t js
    chain = (chain_is t).0 h

    rest : (ks : List ℕ) × (chain.0 ≡ is ++ ks) × Linked t w ks
    unfolding chain
    rest = linked_on (first_free t) is w chain.0 k.leads chain.1.linked

    many : length is + length rest.0 ≡ free_cells t
    many = omega (arith, k.many, length-append is rest.0, ap length rest.1, chain_length chain.0 chain.1)

    met : (i : ℕ) → i < capacity t → 0 < occurrences i chain.0 → is_free t i ≡ true
    met i b o = ⊎_elim (λ f. f) (λ (f : is_free t i ≡ false). absurd (omega (arith, rw f at (chain.1.once i b)))) (tested (is_free t i))

    pub walk_next : steps < free_cells t → is_free_cell t w ≡ true
    unfolding is_free_cell
    walk_next l = go rest.0 rest.1 rest.2 many
      where
        go : (ks : List ℕ) → chain.0 ≡ is ++ ks → Linked t w ks → length is + length ks ≡ free_cells t → is_cell (capacity t) w && is_free t (pred w) ≡ true
        go [] e link m = let n = k.many in absurd (omega arith)
        go (i ∷ ks) e link m = rw link.0 (and_both (index_cell (capacity t) i link.1) (met i link.1 (rw e (meets i is ks))))

    pub walk_stops : steps ≡ free_cells t → (w ≡ 0) × (last ≡ last_free t)
    walk_stops l = go rest.0 rest.1 rest.2 many
      where
        go : (ks : List ℕ) → chain.0 ≡ is ++ ks → Linked t w ks → length is + length ks ≡ free_cells t → (w ≡ 0) × (last ≡ last_free t)
        go [] e link m = (link, k.ends ∙ ap (λ (js : List ℕ). last_of (map suc js)) (sym (append-nil is) ∙ sym e) ∙ chain.1.ends)
        go (i ∷ ks) e link m = let n = k.many in absurd (omega arith)

-- after the last step: only the last end is left to compare
pub walk_ends : (t : List ℕ) (w last : ℕ) (is : List ℕ) → Walked t (free_cells t) w last is → w ≡ 0 → free_laid_out t ≡ true → eqb last (last_free t) ≡ chain_sound t
walk_ends t w last is h z f =
    ⊎_elim (λ e. e ∙ sym (walk_meets t last is (rw z at h) (eqb-true last (last_free t) e) f))
    (λ e. e ∙ sym (refuted (chain_sound t) (λ k. eqb-false last (last_free t) e (walk_stops t k (free_cells t) w last is h refl).1)))
    (tested (eqb last (last_free t)))

-- without this there is no sound chain
pub laid_needed : (t : List ℕ) → free_laid_out t ≡ false → chain_sound t ≡ false
unfolding chain_sound free_laid_out free_or_used
laid_needed t h =
    and_no_second (every_of (free_chain t) (is_cell (capacity t)) && every (capacity t) (met_once t (free_chain t)) && eqb (last_of (free_chain t)) (last_free t)) h
