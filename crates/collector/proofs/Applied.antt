-- The oldest packet applied in counters of 16 bits, and what is freed then.
use mathlib.Core.Path.{◌≡◌, refl, ap, ◌∙◌}
use mathlib.Core.Logic.{inr}
use mathlib.Core.Bool.{true}
use mathlib.Core.List.{List, []}
use Prim.Native.Nat.{ℕ, ◌≤◌}
use lib.ListN.{length}
use Rattle.machine.specs.Table.{capacity, table_length, scratch_words}
use Rattle.machine.specs.Queue.{Packet}
use Rattle.machine.specs.Packets.{kind_of, name, Direction, minus, changes_of, names, name_changes, changes}
use Rattle.machine.specs.Step.{named, join_all, lower_pointers, swept, cleared}
use Rattle.machine.specs.Facts.{TableShape}
use Rattle.machine.specs.ShortWay.{watched_of, watched, stays_root}
use Rattle.machine.proofs.Kept.{Framed, framed_trans, framed_changes}
use Rattle.machine.proofs.Names.{naming_keeps}
use Rattle.machine.proofs.Suspects.{none_local}
use Rattle.counts.specs.Changes.{apply_fitting}
use Rattle.counts.proofs.Changes.{shape_move, shape_fitting, framed_fitting}
use Rattle.collector.specs.Steps.{apply_packet_fitting, Frees, Collects, Applies}

-- what stands, on any table
shape_named : (d : Direction) (t : List ℕ) (p : Packet) → TableShape t → TableShape (named d t p)
unfolding named
shape_named d t p h = naming_keeps TableShape d (λ u w g. shape_move u name w d 1 g) t (names p) h

pub shape_applied : (t : List ℕ) (p : Packet) → TableShape t → TableShape (apply_packet_fitting t p)
shape_applied t p h = shape_named minus (apply_fitting t (changes p)) p (shape_fitting t (changes p) h)

pub framed_applied : (t : List ℕ) (p : Packet) → Framed t (apply_packet_fitting t p)
unfolding named
framed_applied t p =
    let u = apply_fitting t (changes p) in
    framed_trans t u (apply_packet_fitting t p) (framed_fitting t (changes p)) (framed_changes u (name_changes minus (names p))).0

frees_none : (t s : List ℕ) → Frees t [] s t (cleared (scratch_words (capacity t)) s) 0
unfolding swept join_all lower_pointers
frees_none t s = record { table = refl; number = refl; scratch = refl }

-- the packet p applied: its changes, then its names
module _ (t s : List ℕ) (k : TableShape t) (h : scratch_words (capacity t) ≤ length s) (p : Packet) (t₁ : List ℕ)
    (f : t₁ ≡ apply_fitting t (changes_of (kind_of p.kind) p.a p.b)) where
  pub changed_room : table_length (capacity t₁) ≤ length t₁
  changed_room = rw f (shape_fitting t (changes_of (kind_of p.kind) p.a p.b) k).room

  module _ (t₂ : List ℕ) (g : t₂ ≡ named minus t₁ p) where
    packet_applied : t₂ ≡ apply_packet_fitting t p
    unfolding changes
    packet_applied = g ∙ ap (λ (u : List ℕ). named minus u p) f

    capacity_is : capacity t₂ ≡ capacity t
    capacity_is = ap capacity packet_applied ∙ (framed_applied t p).same_capacity

    pub still_shaped : TableShape t₂
    still_shaped = rw packet_applied (shape_applied t p k)

    pub still_enough : scratch_words (capacity t₂) ≤ length s
    still_enough = rw capacity_is h

    -- the watched word, which is no cell or still a root, or not
    module _ (w : ℕ) (v : w ≡ watched_of (kind_of p.kind) p.a p.b p.c) where
      pub long : (t' s' : List ℕ) (n : ℕ) → Collects t₂ w s t' s' n → Applies t p s t' s' n
      unfolding watched
      long t' s' n y = rw (packet_applied, v) at y

      pub short : stays_root t₂ w ≡ true → (c : ℕ) → c ≡ capacity t → (s' : List ℕ) → s' ≡ cleared (scratch_words c) s → Applies t p s t₂ s' 0
      short x c i s' y = long t₂ s' 0 (inr (rw (none_local t₂ w x, y, i, ← capacity_is) (frees_none t₂ s)))
