-- What a call replies and makes of the plain list, in a store of c cells; the paper's numbers and values of the code's answers.
use Rattle.std.specs.Prelude.{Bool, cond, ◌||◌, List, ℕ, zero, suc, Option, Some, None, Result, Ok, Err, ◌+◌, ◌*◌, leb, length}
use Rattle.machine.specs.Answers.{refusal_number}
use Rattle.machine.specs.declared.Refusal.{Refusal}
use Rattle.readings.specs.Readings.{Entry, Found, missing, found, looked_up, is_found, with_seat, without, counted}
use Rattle.readings.specs.Calls.{RosterCall, set, look_up, remove, count, RosterReply, value, absent, refused}

-- the reply, and the list afterwards
pub record Given : Type 0 where
  pub reply : RosterReply
  pub entries : List Entry

abbrev pub given : RosterReply → List Entry → Given
given r es = record { reply = r; entries = es }

-- 8. of a set: the seat is present, or C less twice the seats present is two or more
unfoldable pub has_room : ℕ → List Entry → ℕ → Bool
has_room c es s = is_found (looked_up es s) || leb (2 * length es + 2) c

-- "look up replies the reading, set and remove 0; looking up or removing an absent seat replies absent"
abbrev pub found_reply : Found → RosterReply
found_reply missing = absent
found_reply (found r) = value r

abbrev pub removed_reply : Found → RosterReply
removed_reply missing = absent
removed_reply (found r) = value 0

-- past the early questions
unfoldable pub answered : ℕ → List Entry → RosterCall → Given
answered c es (set s r) = cond (has_room c es s) (given (value 0) (with_seat es s r)) (given (refused 8) es)
answered c es (look_up s) = given (found_reply (looked_up es s)) es
answered c es (remove s) = given (removed_reply (looked_up es s)) (without es s)
answered c es (count n) = given (value (counted es n)) es

-- the first "no" of the early questions gives its number; else what the list gives
abbrev pub refused_or : ℕ → List Entry → Given → Given
refused_or zero es g = g
refused_or (suc n) es g = given (refused (suc n)) es

-- the code's answers
abbrev pub RosterAnswer : Type 0
RosterAnswer = Result (Option ℕ) Refusal

abbrev pub roster_reply : RosterAnswer → RosterReply
roster_reply (Ok (Some v)) = value v
roster_reply (Ok None) = absent
roster_reply (Err f) = refused (refusal_number f)
