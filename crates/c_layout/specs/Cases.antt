-- Worked replies and a worked queue in plain numbers, as C sees them: they pin the tags and the places. Each is proved by computation, and
-- tests/header.sh compares the numbers here with those of include/row_store.h.
use Rattle.std.specs.Prelude.{◌≡◌, List, [], ◌∷◌, ℕ, zero, suc}
use Rattle.machine.specs.Calls as machine
use Rattle.machine.specs.Calls.{value, refused, idle, applied, sound, broken, text}
use Rattle.c_layout.specs.Queues.{queue_words, queue_in}
use Rattle.c_layout.specs.Replies.{told}

-- a reply of the machine, and the numbers of `struct row_reply`
pub record Case : Type 0 where
  pub reply : machine.Reply
  pub tag : ℕ
  pub number : ℕ
  pub count : ℕ

abbrev case : machine.Reply → ℕ → ℕ → ℕ → Case
case reply tag number count = record { reply = reply; tag = tag; number = number; count = count }

abbrev pub Holds : Case → Type 0
Holds k = ((told k.reply).tag ≡ k.tag) × ((told k.reply).number ≡ k.number) × ((told k.reply).count ≡ k.count)

abbrev pub AllHold : List Case → Type 0
AllHold [] = Unit {0}
AllHold (k ∷ ks) = Holds k × AllHold ks

-- each reply once: the word 32,775, question 14, a packet of kind 5 with two cells freed, rule 3, the text ()
abbrev pub cases : List Case
cases =
    case (value 32775) 1 32775 0
    ∷ case (refused 14) 2 14 0
    ∷ case idle 3 0 0
    ∷ case (applied 5 2) 4 5 2
    ∷ case sound 5 0 0
    ∷ case (broken 3) 6 3 0
    ∷ case (text (40 ∷ 41 ∷ [])) 7 0 2
    ∷ []

-- so many numbers from n on
abbrev pub from : ℕ → ℕ → List ℕ
from n zero = []
from n (suc k) = n ∷ from (suc n) k

-- as many words as a queue has, of which each is its own place
abbrev pub places : List ℕ
places = from 0 queue_words

-- which of them each member of `struct row_queue` is
pub record QueueCase : Type 0 where
  pub words : queue_words ≡ 258
  pub kinds : (queue_in places).kinds ≡ from 0 64
  pub a : (queue_in places).a ≡ from 64 64
  pub b : (queue_in places).b ≡ from 128 64
  pub c : (queue_in places).c ≡ from 192 64
  pub place : (queue_in places).place ≡ 256
  pub count : (queue_in places).count ≡ 257

pub record LayoutCases : Type 0 where
  pub replies : AllHold cases
  pub queue : QueueCase
