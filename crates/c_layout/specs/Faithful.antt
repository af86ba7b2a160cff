-- Nothing is lost on the way to C and back. The proof is `faithful` in proofs/Faithful.
use Rattle.std.specs.Prelude.{◌≡◌, List, ℕ, length, replicate}
use Rattle.std.proofs.Math.Option.{some}
use Rattle.machine.specs.Calls.{Reply, value, refused, idle, applied, sound, broken, text}
use Rattle.c_layout.specs.Queues.{queue_words, queue_in}
use Rattle.c_layout.specs.Replies.{told, said}

-- of a text its length alone, since its bytes are in the buffer
abbrev pub length_only : Reply → Reply
length_only (value w) = value w
length_only (refused n) = refused n
length_only idle = idle
length_only (applied k n) = applied k n
length_only sound = sound
length_only (broken n) = broken n
length_only (text bytes) = text (replicate (length bytes) 0)

pub record Faithful : Type 0 where
  -- the three numbers of a reply say that reply
  pub back : (r : Reply) → said (told r) ≡ some (length_only r)
  -- the same three numbers tell the same reply
  pub replies : (r r' : Reply) → told r ≡ told r' → length_only r ≡ length_only r'
  -- the same queue has the same 258 words: where a call leaves the queue as it was, all of them stand
  pub words : (u v : List ℕ) → length u ≡ queue_words → length v ≡ queue_words → queue_in u ≡ queue_in v → u ≡ v
