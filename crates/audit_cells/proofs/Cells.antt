-- S1: a field by the kinds of words, and a cell by its parts.
use mathlib.Core.Path.{◌≡◌, refl}
use mathlib.Core.Logic.{◌⊎◌, inl, inr}
use mathlib.Core.Bool.{Bool, true, false, ◌&&◌, ◌||◌}
use mathlib.Core.List.{List}
use Prim.Native.Nat.{ℕ, zero, suc, ◌≤◌, ◌<◌}
use native.Mathlib.Omega.{arith}
use lib.Dec.{leb}
use borrow.Author.Tests.{leb-true}
use Rattle.machine.specs.Audit.{field_sound, cell_sound, cells_sound}
use Rattle.machine.specs.Table.{left, right, root_count, cell_count, state, capacity, word_at, is_free}
use Rattle.machine.specs.Words.{ceiling}
use Rattle.machine.proofs.Range.{not_both, and_both, and_first, and_second, or_true, or_left, or_right, refuted}
use Rattle.audit_cells.specs.Cells.{counts_sound, field_holds}
use Rattle.audit_cells.proofs.Tests.{every_fails}

module _ (t : List ℕ) (i : ℕ) where
  pub counts_facts : counts_sound t i ≡ true → (word_at t i state ≤ 1) × (word_at t i root_count ≤ ceiling) × (word_at t i cell_count ≤ ceiling)
  unfolding counts_sound
  counts_facts h =
      let s = leb (word_at t i state) 1 in
      let r = leb (word_at t i root_count) ceiling in
      let first = and_first (s && r) (leb (word_at t i cell_count) ceiling) h in (
        leb-true (word_at t i state) 1 (and_first s r first),
        leb-true (word_at t i root_count) ceiling (and_second s r first),
        leb-true (word_at t i cell_count) ceiling (and_second (s && r) (leb (word_at t i cell_count) ceiling) h),
      )

  abbrev fields : Bool
  fields = is_free t i || (field_sound t (word_at t i left) && field_sound t (word_at t i right))

  pub cell_counts : cell_sound t i ≡ true → counts_sound t i ≡ true
  unfolding cell_sound counts_sound
  cell_counts h = and_first _ fields h

  pub cell_field : cell_sound t i ≡ true → (k : ℕ) → k ≤ right → field_holds t i k ≡ true
  unfolding cell_sound field_holds
  cell_field h k l = go k l (or_true (is_free t i) _ (and_second (counts_sound t i) fields (unfold counts_sound in h)))
    where
      go : (k : ℕ) → k ≤ right → (is_free t i ≡ true) ⊎ (field_sound t (word_at t i left) && field_sound t (word_at t i right) ≡ true)
          → is_free t i || field_sound t (word_at t i k) ≡ true
      go k l (inl e) = or_left _ e
      go zero l (inr e) = or_right (is_free t i) (and_first _ (field_sound t (word_at t i right)) e)
      go (suc zero) l (inr e) = or_right (is_free t i) (and_second (field_sound t (word_at t i left)) _ e)
      go (suc (suc k)) l (inr e) = absurd (omega arith)

  -- both fields, and the state and counts
  pub cell_parts : counts_sound t i ≡ true → field_holds t i left ≡ true → field_holds t i right ≡ true → cell_sound t i ≡ true
  unfolding cell_sound counts_sound field_holds
  cell_parts h l r = and_both h (both (is_free t i) (field_sound t (word_at t i left)) (field_sound t (word_at t i right)) l r)
    where
      both : (a b c : Bool) → a || b ≡ true → a || c ≡ true → a || (b && c) ≡ true
      both true b c x y = refl
      both false b c x y = and_both x y

-- a cell that breaks the rule
module _ (t : List ℕ) (i : ℕ) (l : i < capacity t) where
  pub counts_break : counts_sound t i ≡ false → cells_sound t ≡ false
  unfolding cells_sound
  counts_break h = every_fails (capacity t) (cell_sound t) i l (refuted (cell_sound t i) (λ e. not_both (cell_counts t i e) h))

  pub field_break : (k : ℕ) → k ≤ right → field_holds t i k ≡ false → cells_sound t ≡ false
  unfolding cells_sound
  field_break k m h = every_fails (capacity t) (cell_sound t) i l (refuted (cell_sound t i) (λ e. not_both (cell_field t i e k m) h))
