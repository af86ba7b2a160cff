-- What a whole line, a part of a line, and one part after the other tell.
use mathlib.Core.Path.{◌≡◌, refl, sym, ap, ◌∙◌}
use mathlib.Core.List.{List, [], ◌∷◌, ◌++◌, append_assoc}
use Prim.Native.Nat.{ℕ, ◌+◌, ◌<◌}
use native.Mathlib.Numerals.{add-one}
use lib.ListN.{length, take}
use Rattle.base_ten.specs.Bytes.{line_feed, before, lines_of}
use Rattle.base_ten.specs.Lines.{onto}
use Rattle.base_ten.proofs.LineLaws.{onto_none, lines_joined, lines_ended}
use Rattle.rule_lines.specs.Answers.{answer_line, answers}
use Rattle.line_text.specs.Kept.{Keeps}
use Rattle.rule_lines.specs.Kept.{kept_bytes}
use Rattle.rule_lines.specs.Progress.{State, state, rules_of, begun_line, ahead, Tells}
use Rattle.rule_lines.proofs.AnswerLaws.{answer_capped, line_capped}

-- of a line that has begun the first bytes are enough
answers_capped : (l : List ℕ) (ls : List (List ℕ)) → answers (onto l ls) ≡ answers (onto (take kept_bytes l) ls)
unfolding answers
answers_capped l (x ∷ ls) = ap (λ (a : List ℕ). (a ++ (line_feed ∷ [])) ++ answers ls) (answer_capped l x)
answers_capped [] [] = refl
answers_capped (b ∷ bs) [] = ap (λ (a : List ℕ). (a ++ (line_feed ∷ [])) ++ answers []) (line_capped (b ∷ bs))

-- a part without a line feed joins the line
pub joined_tells : (s : State) (part : List ℕ) {new : List ℕ} {held : ℕ}
    → before line_feed part ≡ length part → Keeps s.line s.rules.held part new held
    → Tells s part [] (state (rules_of held s.rules.queue) s.table s.scratch new)
unfolding ahead
joined_tells s part all kept = record {
  clean = λ c. record { store = c.store; kept = kept.size ∙ c.kept };
  listing = λ c rest.
      ap answers (lines_joined (begun_line s) part rest all)
      ∙ answers_capped (begun_line s ++ part) (lines_of rest)
      ∙ ap (λ (x : List ℕ). answers (onto x (lines_of rest))) (sym (rw c.kept at kept.front));
}

-- with its line feed the line is whole, and none has begun behind it
pub ended_ahead : (s : State) (input : List ℕ) (s' : State) → before line_feed input < length input → s'.rules.held ≡ 0 → (rest : List ℕ)
    → ahead s (take (before line_feed input + 1) input ++ rest) ≡ answer_line (begun_line s ++ take (before line_feed input) input) ++ ahead s' rest
unfolding ahead answers
ended_ahead s input s' some none rest =
    let feed = before line_feed input in
    let line = begun_line s ++ take feed input in
    let ended : lines_of (take (feed + 1) input ++ rest) ≡ take feed input ∷ lines_of rest = rw (add-one feed) (lines_ended input rest some) in
    let begun : begun_line s' ≡ [] = rw none in
    ap (λ (ls : List (List ℕ)). answers (onto (begun_line s) ls)) ended
    ∙ ap (λ (ls : List (List ℕ)). answer_line line ++ answers ls) (sym (onto_none (lines_of rest)))
    ∙ ap (λ (b : List ℕ). answer_line line ++ answers (onto b (lines_of rest))) (sym begun)

-- one after the other
pub tells_both : {s : State} {x y : List ℕ} {s₁ : State} {x₁ y₁ : List ℕ} {s₂ : State} → Tells s x y s₁ → Tells s₁ x₁ y₁ s₂ → Tells s (x ++ x₁) (y ++ y₁) s₂
tells_both {s} {x} {y} {s₁} {x₁} {y₁} {s₂} a b = record {
  clean = λ c. b.clean (a.clean c);
  listing = λ c rest.
      ap (ahead s) (append_assoc x x₁ rest)
      ∙ a.listing c (x₁ ++ rest)
      ∙ ap (λ (z : List ℕ). y ++ z) (b.listing (a.clean c) rest)
      ∙ sym (append_assoc y y₁ (ahead s₂ rest));
}

pub tells_none : (s : State) → Tells s [] [] s
tells_none s = record { clean = λ c. c; listing = λ c rest. refl }
