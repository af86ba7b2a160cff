use mathlib.Core.Logic.{⊎_elim}
use Rattle.machine.specs.Words.{is_nil}
use Rattle.machine.specs.Calls.{reads_nil}
use Rattle.questions.proofs.Words.{no_read}
use Rattle.questions.proofs.reads_nil.Goals as goal

pub returns-in_default : goal.returns-in_default
returns-in_default c = no_read c.args.call c.in_default.not-Car c.in_default.not-Cdr

pub returns-in-Car : goal.returns-in-Car
unfolding reads_nil is_nil
returns-in-Car c = ⊎_elim (λ e. rw e) (λ e. rw e) c.in-Car.is
