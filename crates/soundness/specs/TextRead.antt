-- Rule text (document 02, A4): on a sound store no cons inside a reading can be refused, and what is written is read back. The proofs are in
-- proofs/TextRead.
use Rattle.std.specs.Prelude.{◌≡◌, List, ℕ}
use Rattle.notation.specs.Trees.{Tree, nil, atom, pair}
use Rattle.notation.specs.Parse.{parse, meaning}
use Rattle.machine.specs.Calls.{row, read, write, cons, value, text, Store}
use Rattle.machine.specs.Texts.{build_by, OpensOut}
use Rattle.machine.specs.Questions.{first_no, questions}
use Rattle.machine.specs.Machine.{consed}
use Rattle.machine.specs.Promise.{Promise}
use Rattle.soundness.specs.Whole.{Whole}

-- every cons that builds the tree is accepted where it is made
abbrev pub AllAccepted : Store → Tree → Type 0
AllAccepted s nil = Unit {0}
AllAccepted s (atom v) = Unit {0}
AllAccepted s (pair a d) =
    let x = build_by consed s a in
    let y = build_by consed x.after d in
    AllAccepted s a × AllAccepted x.after d × (first_no (questions y.after (row (cons x.word y.word))) ≡ 0)

-- so it is wherever the questions before a reading say "yes"
abbrev pub NoneRefused : Type 0
NoneRefused = (s : Store) (bytes : List ℕ) → Whole s.table s.queue → first_no (questions s (read bytes)) ≡ 0 → AllAccepted s (meaning (parse bytes))

-- two words, each in its table, open out into one tree
pub record SameTree (t : List ℕ) (w : ℕ) (u : List ℕ) (x : ℕ) : Type 0 where
  pub tree : Tree
  pub one : OpensOut t w tree
  pub other : OpensOut u x tree

-- A text written from a word of any store, read and accepted in any sound store, makes a word that opens out into the same tree: what the word opened
-- out into when it was written; shared cells come back as copies.
abbrev pub RoundTrip : Type 0
RoundTrip = (s : Store) (w room : ℕ) (bytes : List ℕ) (s' : Store) → Promise s (write w room) (text bytes) s'
    → (v : Store) (x : ℕ) (v' : Store) → Whole v.table v.queue → Promise v (read bytes) (value x) v' → SameTree s.table w v'.table x
