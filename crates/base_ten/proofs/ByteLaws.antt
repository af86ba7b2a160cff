-- What a search for a byte tells.
use Rattle.std.proofs.Common.{◌≡◌, ℕ, suc, ◌+◌, ◌<◌, zero-le, Bool, true, false, cond, ltb, ◌==◌, List, ◌∷◌, Option, None, Some, MatchOption, length, get_or, drop, position, sym, refl, ap, ◌∙◌, ◌-◌, take, add-one, arith, drop-cons, take_all, length-drop, eq-eqb, ne_eqb}
use borrow.Author.Tests.{ltb-true, ltb-false}
use Rattle.std.specs.List.{position_or_len}
use Rattle.std.proofs.lemmas.List.Recursion.{is_position_or_len}
use Rattle.std.proofs.lemmas.List.Sums.{position_or_len_is}
use Rattle.memchr.specs.Find.{IsFirstByte, is_byte}
use Rattle.base_ten.specs.Bytes.{before}
use Rattle.base_ten.proofs.WordLaws.{before_most}

pub drop_at : (s : List ℕ) (i : ℕ) → i < length s → drop i s ≡ get_or s i 0 ∷ drop (i + 1) s
drop_at s i h = rw (add-one i) (drop-cons s i 0 h)

suc_add : (n : ℕ) → suc n ≡ 1 + n
suc_add n = omega arith

-- the first b of s stands at this place, or there is none
abbrev pub Found : ℕ → List ℕ → Option ℕ → Type 0
Found b s r = MatchOption r (before b s ≡ length s) (λ i. (i ≡ before b s) × (i < length s))

module _ (b : ℕ) (s : List ℕ) where
  before_is : before b s ≡ position_or_len (λ x. x == b) s
  unfolding before
  before_is = is_position_or_len (before b) (λ x. x == b) refl (λ x xs. ap (cond (x == b) 0) (suc_add (before b xs))) s

  pub position_found : (r : Option ℕ) → r ≡ position (λ x. x == b) s → Found b s r
  position_found r e = go (ltb (position_or_len (λ x. x == b) s) (length s)) refl r e
    where
      go : (t : Bool) → ltb (position_or_len (λ x. x == b) s) (length s) ≡ t → (r : Option ℕ)
          → r ≡ cond t (Some (position_or_len (λ x. x == b) s)) None → Found b s r
      go true l None e = cc
      go true l (Some i) e =
          let same : i ≡ position_or_len (λ x. x == b) s = cc in
          let less = ltb-true _ _ l in
          (same ∙ sym before_is, omega arith)
      go false l None e = let more = ltb-false _ _ l in omega (arith, before_is, before_most b s)
      go false l (Some i) e = cc

  pub first_found : (r : Option ℕ) → IsFirstByte (is_byte b) s r → Found b s r
  first_found None h =
      before_is
      ∙ position_or_len_is (λ x. x == b) s (length s) 0 (omega arith) (λ k l. ne_eqb _ b (λ e. h k zero-le l (eq-eqb _ b e))) (λ l. absurd (omega arith))
  first_found (Some i) h =
      let high = h.0.high in (
        sym
            (before_is
            ∙ position_or_len_is (λ x. x == b) s i 0 (omega arith) (λ k l. ne_eqb _ b (λ e. h.0.before k zero-le l (eq-eqb _ b e))) (λ l. h.1)),
        high,
      )

-- the same from a place on
pub first_from : (b : ℕ) (s : List ℕ) (start : ℕ) (r : Option ℕ) → IsFirstByte (is_byte b) (take (length s - start) (drop start s)) r → Found b (drop start s) r
first_from b s start r h =
    let rest : take (length s - start) (drop start s) ≡ drop start s = take_all _ _ (omega (arith, length-drop start s)) in
    first_found b (drop start s) r (rw rest at h)
