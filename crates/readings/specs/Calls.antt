-- The roster's calls and replies, and the questions before a call.
use Rattle.std.specs.Prelude.{Bool, ◌&&◌, List, [], ◌∷◌, ◌++◌, ℕ, ◌-◌, leb, ltb}
use Rattle.machine.specs.Words.{first_atom, largest_word, clip}
use Rattle.machine.specs.Calls.{Store}
use Rattle.machine.specs.Questions.{Question, ask, in_range, scratch_enough}

pub data RosterCall : Type 0 where
  set : ℕ → ℕ → RosterCall
  look_up : ℕ → RosterCall
  remove : ℕ → RosterCall
  count : ℕ → RosterCall

pub data RosterReply : Type 0 where
  value : ℕ → RosterReply
  absent : RosterReply
  refused : ℕ → RosterReply

-- the seats are 1 to 600
abbrev pub seats : ℕ
seats = 600

-- the largest value of an atom
abbrev pub most_value : ℕ
most_value = largest_word - first_atom

-- 15. the seat is 1 to 600; a count has none
unfoldable pub is_seat : ℕ → Bool
is_seat s = leb 1 s && leb s seats

abbrev pub ask_seat : RosterCall → List Question
ask_seat (set s r) = ask 15 (is_seat s) ∷ []
ask_seat (look_up s) = ask 15 (is_seat s) ∷ []
ask_seat (remove s) = ask 15 (is_seat s) ∷ []
ask_seat (count n) = []

-- "then 1 and 2 as a step is"
abbrev pub ask_store : Store → List Question
ask_store s = ask 1 (in_range s.table s.queue) ∷ ask 2 (scratch_enough s.table s.scratch) ∷ []

-- "a set then 4, 14": the reading is an atom's value, and below 4,095
abbrev pub ask_reading : RosterCall → List Question
ask_reading (set s r) = ask 4 (leb r most_value) ∷ ask 14 (ltb r clip) ∷ []
ask_reading (look_up s) = []
ask_reading (remove s) = []
ask_reading (count n) = []

-- the questions that have an answer on every store
unfoldable pub early_roster : Store → RosterCall → List Question
early_roster s call = ask_seat call ++ (ask_store s ++ ask_reading call)
