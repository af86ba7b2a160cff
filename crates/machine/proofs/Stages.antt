-- The worked stages, by computation.
use mathlib.Core.Path.{◌≡◌, refl, ap}
use mathlib.Core.List.{List}
use Prim.Native.Nat.{ℕ}
use native.Mathlib.Omega.{arith}
use lib.ListN.{get_or}
use Rattle.machine.specs.Stages.{stage, StageCases}
use Rattle.machine.proofs.Computes.{computes}

pub stages : StageCases
unfolding computes stage
stages = record {
  figure_8 = (refl, (refl, (refl, (refl, (refl, (refl, (refl, (refl, (refl, tt)))))))));
  by_itself = (refl, (refl, tt));
  once_sound = record { shape = refl; cells = refl; chain = refl; packets = refl; pointed = refl; live = refl };
  once_passes = refl;
  detached_passes = refl;
  detached_trims = λ e. let z : ◌≡◌ {A = ℕ} 1 0 = ap (λ (u : List ℕ). get_or u 6 0) e in omega arith;
}
