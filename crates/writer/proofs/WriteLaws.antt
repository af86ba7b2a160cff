-- What the questions and the measure say of writing is what the machine replies.
use Rattle.std.specs.Prelude.{Ok, Err, Result}
use mathlib.Core.Path.{◌≡◌, refl, sym, ap, ◌∙◌}
use mathlib.Core.Bool.{Bool, true, false, not}
use mathlib.Core.List.{List, [], ◌∷◌, ◌++◌}
use Prim.Native.Nat.{ℕ, zero, suc, pred, ◌≤◌}
use native.Mathlib.Omega.{arith}
use lib.ListN.{length, take, drop, length-append}
use lib.Seq.{take_at}
use Rattle.notation.specs.Brackets.{Met, nothing, too_many, no_room, is_too_many, is_no_room, first_met}
use Rattle.machine.specs.declared.Queue.{Queue}
use Rattle.machine.specs.declared.Refusal.{Refusal}
use Rattle.machine.specs.Answers.{LengthAnswer}
use Rattle.machine.specs.Calls.{write, refused, text, store}
use Rattle.machine.specs.Texts.{text_for}
use Rattle.machine.specs.Step.{Outcome}
use Rattle.machine.specs.Questions.{first_no, refused_by, in_range, words_legal, word_held, met, early, late, questions}
use Rattle.machine.specs.Queue.{waiting}
use Rattle.machine.specs.Machine.{accepted}
use Rattle.machine.specs.Answers.{refusal_number}
use Rattle.machine.proofs.Answers.{refusal_some}
use Rattle.machine.proofs.Kept.{machine_refused, machine_accepted}
use Rattle.printer.specs.declared.Unfit.{Unfit}
use Rattle.printer.specs.Measures.{PutText}
use Rattle.writer.specs.Front.{front}
use Rattle.writer.specs.Writes.{answer_of, reply_to, Puts, Writes}

-- the first number that is not 0
abbrev first_of : ℕ → ℕ → ℕ
first_of zero m = m
first_of (suc n) m = suc n

-- the number of the question that says "no" where this is met first
abbrev met_number : Met → ℕ
met_number nothing = 0
met_number too_many = 12
met_number no_room = 13

module _ (t : List ℕ) (q : Queue) (w room : ℕ) where
  abbrev bytes : List ℕ
  bytes = text_for room t w

  abbrev found : Met
  found = first_met room 0 bytes

  -- all questions are the front ones, and then what is met first
  all_asked : first_no (questions (store t q []) (write w room)) ≡ first_of (first_no (front t q w)) (met_number found)
  unfolding questions early late first_no front met
  all_asked = go (in_range t q) (words_legal t (w ∷ [])) (word_held t (waiting q) w) found
    where
      last : (m : Met) → refused_by (not (is_too_many m)) 12 (refused_by (not (is_no_room m)) 13 0) ≡ met_number m
      last nothing = refl
      last too_many = refl
      last no_room = refl

      go : (a b c : Bool) (m : Met)
          → refused_by a 1 (refused_by b 4 (refused_by c 6 (refused_by (not (is_too_many m)) 12 (refused_by (not (is_no_room m)) 13 0))))
          ≡ first_of (refused_by a 1 (refused_by b 4 (refused_by c 6 0))) (met_number m)
      go false b c m = refl
      go true false c m = refl
      go true true false m = refl
      go true true true m = last m

  refused_reply : (n : ℕ) → first_no (questions (store t q []) (write w room)) ≡ suc n → reply_to t q w room ≡ refused (suc n)
  refused_reply n e = ap (λ (o : Outcome). o.reply) (machine_refused (store t q []) (write w room) n e)

  -- a front question says "no"
  pub front_refused : (f : Refusal) (n : ℕ) → refusal_number f ≡ suc n → refusal_number f ≡ first_no (front t q w) → reply_to t q w room ≡ refused (refusal_number f)
  front_refused f n s e = refused_reply n (all_asked ∙ rw (sym e, s)) ∙ ap refused (sym s)

  -- none does: what is met decides
  met_refused : (n : ℕ) → 0 ≡ first_no (front t q w) → met_number found ≡ suc n → reply_to t q w room ≡ refused (suc n)
  met_refused n z e = refused_reply n (all_asked ∙ rw (sym z, e))

  text_reply : 0 ≡ first_no (front t q w) → found ≡ nothing → reply_to t q w room ≡ text bytes
  unfolding accepted
  text_reply z e = ap (λ (o : Outcome). o.reply) (machine_accepted (store t q []) (write w room) (all_asked ∙ rw (sym z, e)))

-- refused by a front question, with the buffer as it was
pub puts_refused : (t : List ℕ) (q : Queue) (w : ℕ) (old : List ℕ) (f : Refusal) → refusal_number f ≡ first_no (front t q w)
    → Puts t q w old old (Err f)
puts_refused t q w old f e =
    let some = refusal_some f in
    let n : refusal_number f ≡ suc (pred (refusal_number f)) = omega arith in
    let r = front_refused t q w (length old) f (pred (refusal_number f)) n e in
    record { told = r; buffer = rw r }

-- measured, and put where it fits
pub puts_measured : (t : List ℕ) (q : Queue) (w : ℕ) (old new : List ℕ) (m : Result ℕ Unfit) → 0 ≡ first_no (front t q w) → PutText t w old new m
    → Puts t q w old new (answer_of m)
puts_measured t q w old new m z p = go (first_met room 0 bytes) refl
  where
    room : ℕ
    room = length old

    bytes : List ℕ
    bytes = text_for room t w

    fits : first_met room 0 bytes ≡ nothing → Puts t q w old new (answer_of m)
    fits e =
        let is : m ≡ Ok (length bytes) = p.exact ∙ rw e in
        let r = text_reply t q w room z e in
        let b : new ≡ bytes ++ drop (length bytes) old = rw is at p.put in
        rw is (record { told = (bytes, r, refl); buffer = rw r b })

    refuses : (k : ℕ) (f : Refusal) → refusal_number f ≡ suc k → met_number (first_met room 0 bytes) ≡ suc k → answer_of m ≡ Err f → new ≡ old
        → Puts t q w old new (answer_of m)
    refuses k f n e a b =
        let r = met_refused t q w room k z e in
        rw (a, b) (record { told = r ∙ ap refused (sym n); buffer = rw r })

    go : (found : Met) → first_met room 0 bytes ≡ found → Puts t q w old new (answer_of m)
    go nothing e = fits e
    go too_many e =
        let is : m ≡ Err Unfit.TooDeep = p.exact ∙ rw e in
        let b : new ≡ old = rw is at p.put in
        refuses 11 Refusal.TooDeep refl (ap met_number e) (ap answer_of is) b
    go no_room e =
        let is : m ≡ Err Unfit.NoRoom = p.exact ∙ rw e in
        let b : new ≡ old = rw is at p.put in
        refuses 12 Refusal.BufferTooShort refl (ap met_number e) (ap answer_of is) b

-- the part of the buffer that holds the text
module _ (t : List ℕ) (q : Queue) (w : ℕ) (old new : List ℕ) where
  pub part_within : (n : ℕ) → Puts t q w old new (Ok n) → n ≤ length new
  part_within n p =
      let b = p.told.0 in
      let e : new ≡ b ++ drop (length b) old = rw p.told.1 at p.buffer in
      omega (arith, ap length e, length-append b (drop (length b) old), p.told.2)

  pub part_text : (n : ℕ) (begin : ℕ × ℕ) → Puts t q w old new (Ok n) → Writes t q w (length old) begin begin (take n new)
  part_text n begin p =
      let b = p.told.0 in
      let e : new ≡ b ++ drop (length b) old = rw p.told.1 at p.buffer in
      record { filled = rw (p.told.1, e) (take_at b (drop (length b) old) n (sym p.told.2)); front = refl }

  pub part_none : (f : Refusal) (begin : ℕ × ℕ) → Puts t q w old new (Err f) → Writes t q w (length old) begin begin []
  part_none f begin p = record { filled = rw p.told; front = refl }
