-- A line's answer, from what the calls for it promise; and why its first bytes are enough.
use mathlib.Core.Path.{◌≡◌, refl, sym, ap, ◌∙◌}
use mathlib.Core.Bool.{Bool, true, false}
use mathlib.Core.List.{List, [], ◌∷◌, ◌++◌}
use Prim.Native.Nat.{ℕ, ◌+◌, ◌<◌, min}
use native.Mathlib.Omega.{arith}
use lib.Dec.{leb}
use lib.ListN.{length, take, set, length-append, length-take}
use lib.Seq.{take_all, length-take-le}
use borrow.Author.Tests.{leb-true, leb-false, lt-leb}
use Rattle.base_ten.specs.Bytes.{line_feed, ascii}
use Rattle.base_ten.specs.Decimal.{most_digits, decimal}
use Rattle.base_ten.specs.Put.{Put}
use Rattle.base_ten.proofs.WordLaws.{append_none}
use Rattle.base_ten.proofs.KeepLaws.{take_cap}
use Rattle.base_ten.proofs.PutLaws.{put_both_lem, put_byte, digits_length}
use Rattle.notation.specs.Grammar.{most_text}
use Rattle.machine.specs.declared.Queue.{Queue}
use Rattle.machine.specs.Calls.{read, value, refused, store}
use Rattle.machine.specs.Questions.{in_notation}
use Rattle.machine.specs.Answers.{filled_part}
use Rattle.machine.specs.Promise.{Promise, TextHanded}
use Rattle.rule_lines.specs.Answers.{no, answer_of, answer_line, most_answer, room}
use Rattle.rule_lines.specs.Stores.{Cleans, PutsText, Answers, AnswersHeld}
use Rattle.line_text.specs.Kept.{Keeps}
use Rattle.rule_lines.specs.Kept.{kept_bytes}
use Rattle.rule_lines.proofs.TextLaws.{clean_reads, writes_back}

-- what is written of a word that was read is the answer to its line
pub puts_text : {w : ℕ} {t : List ℕ} {q : Queue} {out : List ℕ} {at : ℕ} {out' : List ℕ} {end : ℕ} {buffer begin : ℕ × ℕ} {part : List ℕ}
    → TextHanded (store t q []) w most_answer buffer begin part → Put out at (take most_answer part) out' end → PutsText w t q out at out' end
puts_text {part = part} w put = record {
  within = omega (arith, put.ends, length-take most_answer part);
  told = λ line scratch b.
      let is : part ≡ answer_of line = w.filled ∙ ap filled_part (writes_back b most_answer (omega arith) w.promise) in
      let all : take most_answer part ≡ answer_of line = rw is (take_all most_answer (answer_of line) (rw b.answer b.fits)) in
      rw all at put;
}

-- no more is put than an answer can have
pub put_shortened : (part : List ℕ) {out : List ℕ} {at size : ℕ} {out' : List ℕ} {end : ℕ} → size ≡ min (length part) most_answer → Put out at (take size part) out' end
    → Put out at (take most_answer part) out' end
put_shortened part {size = size} e put =
    let same : min most_answer (length part) ≡ size = omega arith in
    rw (take_cap most_answer part, same) put

-- a refusal's number is its answer, and the store stands
pub answers_no : {line t : List ℕ} {q : Queue} {scratch out : List ℕ} {at n : ℕ} {t' : List ℕ} {q' : Queue} {out' : List ℕ} {end : ℕ}
    → Promise (store t q []) (read line) (refused n) (store t' q' []) → Put out at (no n) out' end
    → Answers (answer_of line) most_answer t q scratch out at t' q' scratch out' end
answers_no {line} {n = n} p put = record {
  within = omega (arith, put.ends, length-append (ascii "NO ") (decimal n), digits_length most_digits n);
  told = λ c. let r = clean_reads c line p in (rw (r.1, r.2) c, rw r.0 put);
}

-- a word's text is its answer, and the word is let go
pub answers_text : {line t : List ℕ} {q : Queue} {scratch out : List ℕ} {at w : ℕ} {t₁ : List ℕ} {q₁ : Queue} {t' : List ℕ} {q' : Queue} {scratch' out' : List ℕ} {end : ℕ}
    → Promise (store t q []) (read line) (value w) (store t₁ q₁ []) → PutsText w t₁ q₁ out at out' end → Cleans w t₁ q₁ scratch t' q' scratch'
    → Answers (answer_of line) most_answer t q scratch out at t' q' scratch' out' end
answers_text {line} {scratch = scratch} p put cleans = record {
  within = put.within;
  told = λ c. let b = clean_reads c line p in (cleans b.holding, put.told line scratch b);
}

-- and its line feed
pub answers_line : {answer t : List ℕ} {q : Queue} {scratch out : List ℕ} {at : ℕ} {t' : List ℕ} {q' : Queue} {scratch' out' : List ℕ} {end : ℕ}
    → end < length out' → Answers answer most_answer t q scratch out at t' q' scratch' out' end
    → Answers (answer ++ (line_feed ∷ [])) room t q scratch out at t' q' scratch' (set out' end line_feed) (end + 1)
answers_line {out' = out'} {end = end} h a = record {
  within = omega (arith, a.within);
  told = λ c. let k = a.told c in (k.0, put_both_lem k.1 (put_byte out' end line_feed h));
}

-- a line over 4,096 bytes is no text, whatever its bytes
pub answer_long : (line : List ℕ) → most_text < length line → answer_of line ≡ no 11
unfolding answer_of in_notation
answer_long line h = rw (lt-leb (length line) most_text h)

-- so a line's first bytes tell its answer
pub answer_capped : (l z : List ℕ) → answer_of (l ++ z) ≡ answer_of (take kept_bytes l ++ z)
answer_capped l z = go (leb (length l) kept_bytes) refl
  where
    go : (t : Bool) → leb (length l) kept_bytes ≡ t → answer_of (l ++ z) ≡ answer_of (take kept_bytes l ++ z)
    go true e = rw (take_all kept_bytes l (leb-true (length l) kept_bytes e))
    go false e =
        let long : kept_bytes < length l = leb-false (length l) kept_bytes e in
        let kept : length (take kept_bytes l) ≡ kept_bytes = length-take-le kept_bytes l (omega arith) in
        answer_long (l ++ z) (omega (arith, length-append l z))
        ∙ sym (answer_long (take kept_bytes l ++ z) (omega (arith, length-append (take kept_bytes l) z)))

pub line_capped : (l : List ℕ) → answer_of l ≡ answer_of (take kept_bytes l)
line_capped l = ap answer_of (sym (append_none l)) ∙ answer_capped l [] ∙ ap answer_of (append_none (take kept_bytes l))

-- a line of which no byte was held, and one of which some were
module _ {line part t : List ℕ} {held : ℕ} {q : Queue} {scratch out : List ℕ} {at : ℕ} {t' : List ℕ} {q' : Queue} {scratch' out' : List ℕ} {end : ℕ} where
  pub answers_whole : held ≡ 0 → Answers (answer_line part) room t q scratch out at t' q' scratch' out' end
      → AnswersHeld line held part t q scratch out at t' q' scratch' out' end
  answers_whole e a = record { within = a.within; told = λ l c. rw e (a.told c) }

  pub answers_kept : {new : List ℕ} {size : ℕ} → Keeps line held part new size → Answers (answer_line (take size new)) room t q scratch out at t' q' scratch' out' end
      → AnswersHeld line held part t q scratch out at t' q' scratch' out' end
  answers_kept {new} {size} k a = record {
    within = a.within;
    told = λ l c.
        let same : answer_of (take size new) ≡ answer_of (take held line ++ part) = ap answer_of (rw l at k.front) ∙ sym (line_capped (take held line ++ part)) in
        let d = a.told c in
        (d.0, rw same at d.1);
  }
