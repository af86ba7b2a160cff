-- The worked cases, by computation.
use mathlib.Core.Path.{refl}
use Rattle.machine.proofs.Computes.{computes}
use Rattle.machine.specs.Cases.{K-table, More-cases}

pub K : K-table
unfolding computes
K = record {
  replies = (refl, (refl, (refl, (refl, (refl, (refl, (refl, (refl, (refl, (refl, (refl, tt)))))))))));
  k1_ends = refl;
}

pub more : More-cases
unfolding computes
more = record {
  replies = (refl, (refl, (refl, (refl, (refl, (refl, (refl, (refl, (refl, (refl, (refl, (refl, tt))))))))))));
  nil_reads = (refl, (refl, (refl, (refl, tt))));
  detach_ends = refl;
}
