-- What `writer` proves of writing a text is the promise: it gives the machine's reply on every store.
use mathlib.Core.Path.{refl, sym}
use mathlib.Core.List.{List, []}
use Prim.Native.Nat.{ℕ}
use lib.ListN.{length}
use Rattle.machine.specs.declared.Queue.{Queue}
use Rattle.machine.specs.Answers.{LengthAnswer}
use Rattle.machine.specs.Calls.{write, store}
use Rattle.machine.specs.Promise.{Promise, TextPut, TextHanded}
use Rattle.machine.proofs.Kept.{kept}
use Rattle.writer.specs.Writes.{reply_to, Puts, Writes}
use Rattle.store.proofs.RowPromise.{machine_promise}

module _ (t : List ℕ) (q : Queue) (w : ℕ) where
  -- writing leaves the store as it was
  own_reply : (room : ℕ) → Promise (store t q []) (write w room) (reply_to t q w room) (store t q [])
  own_reply room =
      machine_promise (store t q []) (write w room) (reply_to t q w room) (store t q []) refl (sym (kept (store t q []) (write w room)).bounded)

  pub put_promise : (old new : List ℕ) (answer : LengthAnswer) → Puts t q w old new answer → TextPut (store t q []) w old new answer
  put_promise old new answer p = record {
    reply = reply_to t q w (length old);
    promise = own_reply (length old);
    told = p.told;
    buffer = p.buffer;
  }

  pub hand_promise : (room : ℕ) (buffer begin : ℕ × ℕ) (part : List ℕ) → Writes t q w room buffer begin part → TextHanded (store t q []) w room buffer begin part
  hand_promise room buffer begin part p = record { reply = reply_to t q w room; promise = own_reply room; filled = p.filled; front = p.front }
