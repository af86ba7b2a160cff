-- A call on the queue that the words are: what the store promises of it is promised of the words.
use mathlib.Core.Path.{◌≡◌, sym, subst, subst₂}
use mathlib.Core.List.{List, []}
use Prim.Native.Nat.{ℕ}
use Rattle.machine.specs.declared.Queue.{Queue}
use Rattle.machine.specs.Answers.{LengthAnswer}
use Rattle.machine.specs.Calls as machine
use Rattle.machine.specs.Calls.{Call, store}
use Rattle.machine.specs.Promise.{Promise, TextPut}
use Rattle.c_layout.specs.declared.Reply.{Reply}
use Rattle.c_layout.specs.Queues.{queue_in}
use Rattle.c_layout.specs.Replies.{told, LengthTold}
use Rattle.c_store.specs.Told.{PromiseTold, TextTold}

-- load, call, save
pub saved_told : (w w' : List ℕ) {t scratch t' scratch' : List ℕ} {q q' : Queue} {call : Call} {reply : machine.Reply} {r : Reply} → q ≡ queue_in w
    → Promise (store t q scratch) call reply (store t' q' scratch') → queue_in w' ≡ q' → r ≡ told reply
    → PromiseTold (store t (queue_in w) scratch) call r (store t' (queue_in w') scratch')
saved_told w w' {t} {scratch} {t'} {scratch'} {q} {q'} {call} {reply} load promise save numbers = record {
  reply = reply;
  promise = subst₂ (λ (x y : Queue). Promise (store t x scratch) call reply (store t' y scratch')) load (sym save) promise;
  numbers = numbers;
}

-- load and call
pub text_told : (w : List ℕ) {t old new : List ℕ} {q : Queue} {word : ℕ} {answer : LengthAnswer} {r : Reply} → q ≡ queue_in w
    → TextPut (store t q []) word old new answer → LengthTold answer r → TextTold (store t (queue_in w) []) word old new r
text_told w {t} {old} {new} {q} {word} {answer} {r} load put numbers =
    subst (λ (x : Queue). TextTold (store t x []) word old new r) load (record {
      kept = record { reply = put.reply; promise = put.promise; numbers = numbers put.reply put.told };
      buffer = put.buffer;
    })
