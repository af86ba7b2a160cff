-- Laws of roots.
use mathlib.Core.Path.{◌≡◌}
use mathlib.Core.Bool.{true, false}
use mathlib.Core.List.{List}
use Prim.Native.Nat.{ℕ, ◌-◌}
use native.Mathlib.Numerals.{sub-one}
use Rattle.machine.specs.Words.{is_cell}
use Rattle.machine.specs.Table.{capacity}
use Rattle.machine.specs.Reached.{is_root}
use Rattle.machine.specs.ShortWay.{stays_root}

module _ (t : List ℕ) (w : ℕ) where
  pub stays_none : is_cell (capacity t) w ≡ false → true ≡ stays_root t w
  unfolding stays_root
  stays_none h = rw h

  pub stays_rooted : is_cell (capacity t) w ≡ true → is_root t (w - 1) ≡ stays_root t w
  unfolding stays_root
  stays_rooted h = rw (h, sub-one w)
