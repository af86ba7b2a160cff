-- No call, one call, and two rows of calls one after the other.
use Rattle.std.proofs.Common.{refl, ap, ◌∙◌, ℕ, List, [], ◌∷◌, ◌++◌, append-nil}
use Rattle.serving.specs.Chain.{last_of}
use Rattle.serving.specs.Threads.{Threads}
use Rattle.serving.proofs.ChainLaws.{linked_both, last_both, joined_both}

module _ {S P : Type 0} {Promise : S → P → Type 0} {after : P → S} {taken given : P → List ℕ} where
  pub threads_none : (s : S) → Threads Promise after taken given s [] [] s
  threads_none s = record { parts = []; linked = tt; last = refl; took = refl; gave = refl }

  pub threads_one : {s : S} (p : P) → Promise s p → Threads Promise after taken given s (taken p) (given p) (after p)
  threads_one p kept = record {
    parts = p ∷ [];
    linked = (kept, tt);
    last = refl;
    took = append-nil (taken p);
    gave = append-nil (given p);
  }

  pub threads_both : {s s' s'' : S} {x y x' y' : List ℕ} → Threads Promise after taken given s x y s' → Threads Promise after taken given s' x' y' s''
      → Threads Promise after taken given s (x ++ x') (y ++ y') s''
  threads_both {s} {s'} {s''} a b = record {
    parts = a.parts ++ b.parts;
    linked = linked_both Promise after s a.parts b.parts a.linked (rw a.last b.linked);
    last = last_both after s a.parts b.parts ∙ ap (λ (z : S). last_of after z b.parts) a.last ∙ b.last;
    took = rw (joined_both taken a.parts b.parts, a.took, b.took);
    gave = rw (joined_both given a.parts b.parts, a.gave, b.gave);
  }
