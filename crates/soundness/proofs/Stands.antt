-- A cell count does stand at 4,096 in passing: at the crowded table, where a replace of its first cell by itself is accepted and then taken.
use mathlib.Core.Path.{◌≡◌, refl, ap, ◌∙◌}
use mathlib.Core.List.{List, []}
use Prim.Native.Nat.{ℕ, suc, ◌*◌}
use native.Mathlib.Omega.{arith}
use lib.ListN.{take}
use Rattle.machine.specs.Range.{matching}
use Rattle.machine.specs.Words.{ceiling}
use Rattle.machine.specs.Table.{cell_count, name_count, capacity, position, word_at, put_word}
use Rattle.machine.specs.Queue.{packet, empty_queue}
use Rattle.machine.specs.Packets.{kind_of, cell, Change, changes_of, changes}
use Rattle.machine.specs.Calls.{row, set_left, store}
use Rattle.machine.specs.Stages.{stage}
use Rattle.machine.specs.Worked.{with_word}
use Rattle.machine.specs.WrongAnswers.{crowded}
use Rattle.machine.proofs.Questions.{shape_is}
use Rattle.machine.proofs.ManyPointers.{crowded_sound, itself_accepted, itself_gives}
use Rattle.soundness.specs.Whole.{Whole}
use Rattle.soundness.specs.Untrimmed.{Stands}
use Rattle.soundness.proofs.PacketKinds.{running, count_applied}
use Rattle.soundness.proofs.ZeroSlots.{arrays_empty}
use Rattle.soundness.proofs.CallSound.{accepted_whole}

abbrev crowd : List ℕ
crowd = crowded 2047 0 2

-- as its waiting packet names it
abbrev named : List ℕ
named = with_word crowd 1 name_count 3

named_counts : (capacity named ≡ 2048) × (word_at named 0 cell_count ≡ suc (2 * 2047))
unfolding capacity word_at put_word position crowded
named_counts = (refl, refl)

abbrev first_changes : List Change
first_changes = take 2 (changes (packet 3 1 1 1))

counted : running cell 1 first_changes (suc (2 * 2047)) ≡ suc ceiling
unfolding running changes changes_of kind_of matching
counted = refl

pub stands : Stands
unfolding stage put_word position
stands =
    let whole : Whole crowd empty_queue = record { sound = crowded_sound 2047 2 (omega arith) (omega arith) (omega arith); arrays = arrays_empty } in
    let yes = itself_accepted 2047 2 (omega arith) (omega arith) (omega arith) [] (omega arith) in
    let after = accepted_whole (store crowd empty_queue []) (row (set_left 1 1)) whole yes in
    let sound = rw (itself_gives 2047 2 (omega arith) (omega arith) (omega arith) []) at after.sound in
    record {
      sound = sound;
      at_4096 =
          count_applied named first_changes cell 0 (shape_is named _ sound.shape).table.room (omega (arith, named_counts.0))
          ∙ ap (running cell 1 first_changes) named_counts.1 ∙ counted;
    }
