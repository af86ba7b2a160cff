-- What each function that C calls promises: the store's own promise, on the same table, queue and scratch, of the reply that its three numbers tell.
use Rattle.std.specs.Prelude.{◌≡◌, List, ◌++◌, ℕ, length, drop}
use Rattle.machine.specs.Calls as machine
use Rattle.machine.specs.Calls.{Call, write, Store}
use Rattle.machine.specs.Answers.{filled_part}
use Rattle.machine.specs.Promise.{Promise}
use Rattle.c_layout.specs.declared.Reply.{Reply}
use Rattle.c_layout.specs.Replies.{told}

pub record PromiseTold (s : Store) (call : Call) (r : Reply) (s' : Store) : Type 0 where
  pub reply : machine.Reply
  pub promise : Promise s call reply s'
  pub numbers : r ≡ told reply

-- writing a text: the reply's text is the buffer's front, and the rest of the buffer stands; all of it where the writing is refused
pub record TextTold (s : Store) (w : ℕ) (old new : List ℕ) (r : Reply) : Type 0 where
  pub kept : PromiseTold s (write w (length old)) r s
  pub buffer : new ≡ filled_part kept.reply ++ drop (length (filled_part kept.reply)) old
