-- A reply in C, `struct row_reply`: a tag that says which reply it is, and two numbers. A number that a reply does not have is 0, and no tag is 0.
use Rattle.std.specs.Prelude.{◌≡◌, cond, eqb, length, replicate, ℕ}
use Rattle.std.proofs.Math.Option.{Option, none, some}
use Rattle.machine.specs.Calls as machine
use Rattle.machine.specs.Calls.{value, refused, idle, applied, sound, broken, text}
use Rattle.machine.specs.Answers.{LengthAnswer}
use Rattle.machine.specs.Answers.{TellsLength}
use Rattle.c_layout.specs.declared.Reply.{Reply}
use Rattle.c_layout.specs.declared.Tag.{Tag}

abbrev pub reply : ℕ → ℕ → ℕ → Reply
reply tag number count = record { tag = tag; number = number; count = count }

-- the number of a tag
abbrev pub tag_number : Tag → ℕ
tag_number Tag.Value = 1
tag_number Tag.Refused = 2
tag_number Tag.Idle = 3
tag_number Tag.Applied = 4
tag_number Tag.Sound = 5
tag_number Tag.Broken = 6
tag_number Tag.Text = 7

abbrev pub told : machine.Reply → Reply
told (value w) = reply 1 w 0
told (refused n) = reply 2 n 0
told idle = reply 3 0 0
told (applied kind freed) = reply 4 kind freed
told sound = reply 5 0 0
told (broken rule) = reply 6 rule 0
-- the text itself is the buffer's front
told (text bytes) = reply 7 0 (length bytes)

-- The reply that three numbers say, read by the tag; any other tag says no reply. Of a text they say its length alone: its bytes are in the buffer.
abbrev pub said : Reply → Option machine.Reply
said r =
    cond (eqb r.tag 1) (some (value r.number))
    (cond (eqb r.tag 2) (some (refused r.number))
    (cond (eqb r.tag 3) (some idle)
    (cond (eqb r.tag 4) (some (applied r.number r.count))
    (cond (eqb r.tag 5) (some sound)
    (cond (eqb r.tag 6) (some (broken r.number))
    (cond (eqb r.tag 7) (some (text (replicate r.count 0))) none))))))

-- a length tells the text's reply, whatever the text is
abbrev pub LengthTold : LengthAnswer → Reply → Type 0
LengthTold answer r = (reply : machine.Reply) → TellsLength answer reply → r ≡ told reply
