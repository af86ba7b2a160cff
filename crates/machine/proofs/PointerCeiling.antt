-- S4 at its ceiling, by the laws of a crowded table.
use mathlib.Core.Path.{◌≡◌, refl, ap, ◌∙◌}
use mathlib.Core.Bool.{Bool, true, false, ◌&&◌}
use mathlib.Core.List.{List, [], ◌∷◌}
use Prim.Native.Nat.{ℕ}
use native.Mathlib.Omega.{arith}
use Rattle.machine.specs.Table.{position, word_at, put_word}
use Rattle.machine.specs.Packets.{kind_of}
use Rattle.machine.specs.Calls.{field}
use Rattle.machine.specs.Questions.{pointers_within}
use Rattle.machine.specs.Audit.{undoable_of, undone_of, undoable, undone, before, undoes, pointers_sound}
use Rattle.machine.specs.WrongAnswers.{crowded, put_in, taken_out, PointerCeiling}
use Rattle.machine.proofs.Crowded.{pointed}
use Rattle.machine.proofs.ManyPointers.{over}

module _ (n holds : ℕ) where
  in_undone : undone (crowded n 1 holds) put_in ≡ crowded n 0 holds
  unfolding undone undone_of kind_of put_word position crowded
  in_undone = refl

  out_undone : undone (crowded n 0 holds) taken_out ≡ crowded n 1 holds
  unfolding undone undone_of kind_of put_word position crowded
  out_undone = refl

  in_holds : undoable (crowded n 1 holds) put_in ≡ true
  unfolding undoable undoable_of kind_of field word_at position crowded
  in_holds = refl

  out_holds : undoable (crowded n 0 holds) taken_out ≡ true
  unfolding undoable undoable_of kind_of field word_at position crowded
  out_holds = refl

  abbrev u : List ℕ
  u = crowded n 0 holds

  abbrev v : List ℕ
  v = crowded n 1 holds

  -- too many as it stands
  fails_last : pointers_within v ≡ false → pointers_sound v (put_in ∷ []) ≡ false
  unfolding pointers_sound undoes
  fails_last h = rw h

  -- too many at the stage between
  fails_other : pointers_within v ≡ false → pointers_sound u (put_in ∷ taken_out ∷ []) ≡ false
  unfolding pointers_sound undoes before
  fails_other h = rw (out_undone, h) (no_and (pointers_within u) (undoable u taken_out) _ _ _)
    where
      no_and : (a b c d e : Bool) → (a && b && false) && c && d && e ≡ false
      no_and true true c d e = refl
      no_and true false c d e = refl
      no_and false b c d e = refl

pub pointer_ceiling : PointerCeiling
unfolding before
pointer_ceiling =
    let many = over 2047 2 (omega arith) (omega arith) (omega arith) (omega arith) in
    record {
      passes = pointed 2047 0 2 (omega arith) (omega arith) (omega arith) refl (omega arith);
      last_stage = fails_last 2047 2 many;
      other_stage = fails_other 2047 2 many;
      same_before = (in_undone 2047 2, ap (λ (w : List ℕ). undone w put_in) (out_undone 2047 2) ∙ in_undone 2047 2);
      undoable_each = (in_holds 2047 2, out_holds 2047 2);
    }
