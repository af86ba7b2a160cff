-- The worked lists and calls, by evaluation.
use mathlib.Core.Path.{refl}
use Rattle.readings.specs.Readings.{looked_up, replaced, with_seat, without, counted}
use Rattle.machine.proofs.Computes.{computes}
use Rattle.readings.specs.Calls.{is_seat, early_roster}
use Rattle.readings.specs.Answers.{has_room, answered}
use Rattle.readings.specs.Cases.{replies, Holds, worked, asked, Answered, questioned, Coded}

pub cases : Holds worked
unfolding replies answered has_room looked_up replaced with_seat without counted
cases = (refl, (refl, (refl, (refl, (refl, (refl, (refl, (refl, tt))))))))

pub questions : Answered questioned
unfolding asked early_roster is_seat answered has_room looked_up counted computes
questions =
    (refl, (refl, (refl, (refl, (refl, (refl, (refl, (refl, (refl, (refl, (refl, (refl, (refl, (refl, (refl, (refl, (refl, (refl, tt))))))))))))))))))

pub codes : Coded
codes = (refl, refl, refl)
