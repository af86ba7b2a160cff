-- An accepted fresh leaves a store at rest, with nothing held and no cell in use.
use mathlib.Core.Path.{◌≡◌, refl}
use mathlib.Core.List.{[], ◌∷◌}
use Prim.Native.Nat.{ℕ, suc}
use native.Mathlib.Omega.{arith}
use Rattle.machine.specs.Range.{occurrences}
use Rattle.machine.specs.Table.{capacity}
use Rattle.machine.specs.Packets.{waiting_change}
use Rattle.machine.specs.Queue.{empty_queue}
use Rattle.machine.specs.Calls.{fresh, value, Store}
use Rattle.machine.specs.Machine.{accepted}
use Rattle.machine.specs.Promise.{Promise}
use Rattle.machine.proofs.Range.{matching_other}
use Rattle.machine.proofs.Fresh.{fresh_is}
use Rattle.soundness.specs.Reliable.{Fields}
use Rattle.soundness.proofs.CallSound.{fresh_yes, value_accepted}
use Rattle.soundness.proofs.RootsAreHolds.{fresh_agrees}
use Rattle.soundness.proofs.FieldsStand.{fresh_put}
use Rattle.soundness.proofs.Reliable.{none_waits}
use Rattle.resting.specs.Rests.{Rests}

pub fresh_rests : (s : Store) (c v : ℕ) (after : Store) (f : ℕ → Fields) → Promise s (fresh c) (value v) after
    → Rests after.table after.queue (0 ∷ []) f × (capacity after.table ≡ c)
unfolding accepted waiting_change occurrences
fresh_rests s c v after f p =
    let a = value_accepted s (fresh c) v after tt p in
    let g = fresh_agrees s c a.asked in
    rw a.after (
      record {
        whole = g.whole;
        idle = refl;
        held = λ i l. omega (arith, rw (none_waits empty_queue refl) at (g.roots i l), matching_other 0 (suc i) 1 (λ e. omega arith));
        fields = fresh_put s c f a.asked;
      },
      (fresh_is c s.table (fresh_yes s c a.asked).room).new_capacity,
    )
