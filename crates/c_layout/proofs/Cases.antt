-- The worked replies and the worked queue, by computation.
use mathlib.Core.Path.{refl}
use Rattle.c_layout.specs.Cases.{LayoutCases}

pub cases : LayoutCases
cases = record {
  replies =
      ((refl, refl, refl), ((refl, refl, refl), ((refl, refl, refl), ((refl, refl, refl), ((refl, refl, refl), ((refl, refl, refl), ((refl, refl, refl), tt)))))));
  queue = record { words = refl; kinds = refl; a = refl; b = refl; c = refl; place = refl; count = refl };
}
