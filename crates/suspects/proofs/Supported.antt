-- Laws of the supported suspects: pushed one after the other, and who they are.
use mathlib.Core.Path.{◌≡◌, refl, sym, ap, ap₂, ◌∙◌}
use mathlib.Core.Logic.{⊎_elim}
use mathlib.Core.Bool.{Bool, true, false, cond, ◌&&◌, ◌||◌, and-true, and-false, and-or_distrib_right}
use mathlib.Core.List.{List, [], ◌∷◌, ◌++◌, append-nil}
use Prim.Native.Nat.{ℕ, zero, suc, ◌+◌, ◌≤◌, ◌<◌}
use native.Mathlib.Numerals.{add-one}
use native.Mathlib.Omega.{arith}
use lib.Dec.{eqb, ltb}
use lib.ListN.{length, get_or, take, replicate, length-append}
use lib.Seq.{take-suc, take_all}
use Rattle.std.proofs.lemmas.List.{replicate-append-replicate}
use borrow.Author.Tests.{eqb-true, lt-ltb, le-ltb, ltb-true}
use Rattle.machine.specs.Range.{occurrences}
use Rattle.machine.specs.Table.{cell_count, word_at}
use Rattle.machine.specs.Packets.{contains}
use Rattle.machine.proofs.Range.{tested, occurrences_append}
use Rattle.machine.proofs.Names.{occurs_contains}
use Rattle.machine.proofs.Select.{contains_append}
use Rattle.walks.specs.Tally.{Tally, tally_of}
use Rattle.suspects.specs.Support.{supported_at, supported, Supports}
use Rattle.suspects.proofs.Members.{Once, contains_one, contains_take}

-- the suspect at place i
module _ (t : List ℕ) (y : Tally) (i : ℕ) (kept : Tally) (h : Supports t y i kept) where
  abbrev index : ℕ
  index = get_or y.cells i 0

  pub supports_push : (left : Tally) → get_or y.counts i 0 < word_at t index cell_count → left ≡ tally_of (kept.cells ++ index ∷ []) (kept.counts ++ 0 ∷ [])
      → Supports t y (i + 1) left
  unfolding supported supported_at
  supports_push left m e = let few = h.few in rw (e, add-one i) (record {
    few = omega (arith, length-append kept.cells (index ∷ []));
    exact = ap₂ ◌++◌ h.exact (sym (ap (λ (b : Bool). cond b (index ∷ []) []) (lt-ltb (get_or y.counts i 0) (word_at t index cell_count) m)));
    uncounted = ap (λ (ns : List ℕ). ns ++ 0 ∷ []) h.uncounted ∙ replicate-append-replicate (length kept.cells) 1 0
        ∙ ap (λ (n : ℕ). replicate n 0) (sym (length-append kept.cells (index ∷ [])));
  })

  pub supports_pass : word_at t index cell_count ≤ get_or y.counts i 0 → Supports t y (i + 1) kept
  unfolding supported supported_at
  supports_pass m = let few = h.few in rw (add-one i) (record {
    few = omega arith;
    exact = h.exact ∙ sym (ap (λ (b : Bool). supported t y.cells y.counts i ++ cond b (index ∷ []) []) (le-ltb (get_or y.counts i 0) (word_at t index cell_count) m) ∙ append-nil (supported t y.cells y.counts i));
    uncounted = h.uncounted;
  })

pub supports_none : (t : List ℕ) (y kept : Tally) → kept ≡ tally_of [] [] → Supports t y 0 kept
unfolding supported
supports_none t y kept e = rw e (record { few = omega arith; exact = refl; uncounted = refl })

-- each stands at most as often as in the list
module _ (t list inner : List ℕ) where
  at_most : (n i : ℕ) → occurrences i (supported_at t list inner n) ≤ occurrences i (get_or list n 0 ∷ [])
  unfolding supported_at occurrences
  at_most n i = go (ltb (get_or inner n 0) (word_at t (get_or list n 0) cell_count))
    where
      go : (b : Bool) → occurrences i (cond b (get_or list n 0 ∷ []) []) ≤ occurrences i (get_or list n 0 ∷ [])
      go true = omega arith
      go false = omega arith

  supported_occurs : (n i : ℕ) → n ≤ length list → occurrences i (supported t list inner n) ≤ occurrences i (take n list)
  unfolding supported
  supported_occurs zero i l = omega arith
  supported_occurs (suc n) i l =
      rw (take-suc list n 0 l, occurrences_append i (take n list) (get_or list n 0 ∷ []), occurrences_append i (supported t list inner n) (supported_at t list inner n))
      (omega (arith, supported_occurs n i (omega arith), at_most n i))

  pub supported_once : Once list → Once (supported t list inner (length list))
  supported_once o i = omega (arith, o i, supported_occurs (length list) i (omega arith), ap (occurrences i) (take_all (length list) list (omega arith)))

  pub supported_listed : (i : ℕ) → contains (supported t list inner (length list)) i ≡ true → contains list i ≡ true
  supported_listed i m =
      let some = ltb-true 0 (occurrences i (supported t list inner (length list))) (occurs_contains i (supported t list inner (length list)) ∙ m) in
      sym (occurs_contains i list) ∙ lt-ltb 0 (occurrences i list)
      (omega (arith, supported_occurs (length list) i (omega arith), ap (occurrences i) (take_all (length list) list (omega arith))))

  -- who they are, where a function tells how many pointers come to each
  module _ (pointers : ℕ → ℕ) where
    member_at : (n i : ℕ) → get_or inner n 0 ≡ pointers (get_or list n 0)
        → contains (supported_at t list inner n) i ≡ eqb (get_or list n 0) i && ltb (pointers i) (word_at t i cell_count)
    unfolding supported_at contains
    member_at n i e = rw e (one (ltb (pointers x) (word_at t x cell_count)) ∙ ⊎_elim same (λ (o : eqb x i ≡ false). rw o) (tested (eqb x i)))
      where
        x : ℕ
        x = get_or list n 0

        one : (b : Bool) → contains (cond b (x ∷ []) []) i ≡ eqb x i && b
        one true = contains_one x i ∙ sym (and-true (eqb x i))
        one false = sym (and-false (eqb x i))

        same : eqb x i ≡ true → eqb x i && ltb (pointers x) (word_at t x cell_count) ≡ eqb x i && ltb (pointers i) (word_at t i cell_count)
        same o = ap (λ (j : ℕ). eqb x i && ltb (pointers j) (word_at t j cell_count)) (eqb-true x i o)

    members_before : (n : ℕ) → n ≤ length list → ((k : ℕ) → k < n → get_or inner k 0 ≡ pointers (get_or list k 0)) → (i : ℕ)
        → contains (supported t list inner n) i ≡ contains (take n list) i && ltb (pointers i) (word_at t i cell_count)
    unfolding supported
    members_before zero l e i = unfold contains in refl
    members_before (suc n) l e i =
        contains_append (supported t list inner n) (supported_at t list inner n) i
        ∙ ap₂ ◌||◌ (members_before n (omega arith) (λ k m. e k (omega arith)) i) (member_at n i (e n (omega arith)))
        ∙ sym (and-or_distrib_right (contains (take n list) i) (eqb (get_or list n 0) i) (ltb (pointers i) (word_at t i cell_count)))
        ∙ ap (λ (b : Bool). b && ltb (pointers i) (word_at t i cell_count)) (sym (contains_take list n i l))

    pub supported_members : ((k : ℕ) → k < length list → get_or inner k 0 ≡ pointers (get_or list k 0)) → (i : ℕ)
        → contains (supported t list inner (length list)) i ≡ contains list i && ltb (pointers i) (word_at t i cell_count)
    supported_members e i =
        members_before (length list) (omega arith) e i
        ∙ ap (λ (xs : List ℕ). contains xs i && ltb (pointers i) (word_at t i cell_count)) (take_all (length list) list (omega arith))
