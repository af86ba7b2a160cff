-- A table in which a packet's cells are named shows all that it showed: which cells are in use, their fields, the pointers, the trees.
use mathlib.Core.Path.{◌≡◌, sym, ap, ◌∙◌}
use mathlib.Core.Bool.{Bool, cond, not}
use mathlib.Core.List.{List}
use Prim.Native.Nat.{ℕ, pred}
use native.Mathlib.Omega.{arith}
use lib.ListN.{length}
use Rattle.notation.specs.Trees.{Tree}
use Rattle.machine.specs.Range.{total, select}
use Rattle.machine.specs.Table.{left, right, capacity, is_free}
use Rattle.machine.specs.Queue.{Packet}
use Rattle.machine.specs.Packets.{Direction}
use Rattle.machine.specs.Counts.{pointers_from, pointers}
use Rattle.machine.specs.Calls.{field}
use Rattle.machine.specs.Step.{named}
use Rattle.machine.specs.Texts.{OpensOut, ends, opens}
use Rattle.machine.proofs.Range.{total_same}
use Rattle.machine.proofs.Select.{select_length}
use Rattle.machine.proofs.Names.{named_capacity, named_field, named_use}
use Rattle.soundness.specs.Reliable.{Fields, FieldsStand, Stands}

module _ (d : Direction) (t : List ℕ) (p : Packet) where
  abbrev u : List ℕ
  u = named d t p

  pub named_stands : Stands t u
  named_stands = record { same_capacity = named_capacity d t p; used = λ i l e. named_use d t p i ∙ e; fields = λ i k l m e. named_field d t p i k m }

  pub named_told : (g : ℕ → Fields) → FieldsStand t g → FieldsStand u g
  named_told g h i l e =
      let w = h i (rw (named_capacity d t p) at l) (sym (named_use d t p i) ∙ e) in
      (named_field d t p i left (omega arith) ∙ w.0, named_field d t p i right (omega arith) ∙ w.1)

  pub named_pointers : (x : ℕ) → pointers u x ≡ pointers t x
  unfolding pointers pointers_from
  named_pointers x =
      ap (λ (c : ℕ). total c (pointers_from u x)) (named_capacity d t p)
      ∙ total_same (capacity t) (pointers_from u x) (pointers_from t x)
      (λ i l. rw (named_use d t p i, named_field d t p i left (omega arith), named_field d t p i right (omega arith)))

  pub named_free : length (select (capacity u) (is_free u)) ≡ length (select (capacity t) (is_free t))
  unfolding is_free
  named_free =
      ap (λ (c : ℕ). length (select c (is_free u))) (named_capacity d t p) ∙ select_length (capacity t) (is_free u)
      ∙ total_same (capacity t) (λ i. cond (is_free u i) 1 0) (λ i. cond (is_free t i) 1 0) (λ i l. ap (λ (b : Bool). cond (not b) 1 0) (named_use d t p i))
      ∙ sym (select_length (capacity t) (is_free t))

  pub named_opens : {w : ℕ} {tree : Tree} → OpensOut t w tree → OpensOut u w tree
  unfolding field
  named_opens (ends w e) = ends w (rw (named_capacity d t p) e)
  named_opens (opens w {a = x} {d = y} e a b) =
      opens w {a = x} {d = y} (rw (named_capacity d t p) e) (rw (named_field d t p (pred w) left (omega arith)) (named_opens a)) (rw (named_field d t p (pred w) right (omega arith)) (named_opens b))
