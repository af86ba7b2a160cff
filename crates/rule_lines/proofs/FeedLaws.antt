-- Lines one after the other, and the end of the input.
use mathlib.Core.Path.{◌≡◌, refl, sym, ap, ◌∙◌}
use mathlib.Core.List.{List, [], ◌++◌, append_assoc}
use Prim.Native.Nat.{ℕ, zero, suc, ◌+◌, ◌-◌, ◌≤◌, ◌<◌}
use native.Mathlib.Omega.{arith}
use borrow.Author.Rules.{rules}
use Rattle.std.specs.Prelude.{Some, None}
use lib.ListN.{length, take, drop, length-drop, take-append-drop}
use lib.Seq.{take-add, take-length}
use Rattle.base_ten.specs.Bytes.{line_feed, before, split}
use Rattle.base_ten.specs.Lines.{last_line}
use Rattle.base_ten.proofs.WordLaws.{append_none, before_most}
use Rattle.base_ten.proofs.LineLaws.{last_line_lem}
use Rattle.base_ten.proofs.KeepLaws.{last_part}
use Rattle.machine.specs.declared.Queue.{Queue}
use Rattle.rule_lines.specs.Answers.{answer_line, answers, room}
use Rattle.rule_lines.specs.Stores.{AnswersHeld}
use Rattle.line_text.specs.Kept.{Keeps}
use Rattle.rule_lines.specs.Progress.{State, state, rules_of, begun_line, ahead, Tells, Feeds, Finishes, FinishesWithRoom}
use Rattle.rule_lines.proofs.TellsLaws.{joined_tells, ended_ahead, tells_both}

-- How far the lines have come: the sizes stand, and what was taken gave what was written.
pub record Going (s₀ : State) (input out₀ : List ℕ) (s : State) (out : List ℕ) (taken written next : ℕ) : Type 0 where
  pub most : taken ≤ length input
  pub within : written ≤ length out
  pub nothing : taken ≡ 0 → written ≡ 0
  pub found : next ≡ taken + before line_feed (drop taken input)
  pub table_size : length s.table ≡ length s₀.table
  pub scratch_size : length s.scratch ≡ length s₀.scratch
  pub line_size : length s.line ≡ length s₀.line
  pub out_size : length out ≡ length out₀
  pub tells : Tells s₀ (take taken input) (take written out) s

-- with room for an answer something is taken
some_taken : (taken written size : ℕ) → (taken ≡ 0 → written ≡ 0) → size - written < room → room ≤ size → 0 < taken
some_taken zero written size h l r = let w : written ≡ 0 = h refl in absurd (omega arith)
some_taken (suc taken) written size h l r = omega arith

module _ {s₀ : State} {input out₀ : List ℕ} {s : State} {out : List ℕ} {taken written next : ℕ} (g : Going s₀ input out₀ s out taken written next) where
  -- the next line answered
  pub next_tells : {s' : State} {new : List ℕ} {end : ℕ}
      → next < length input → s'.rules.held ≡ 0 → length s'.line ≡ length s.line
      → AnswersHeld s.line s.rules.held (take (next - taken) (drop taken input)) s.table s.rules.queue s.scratch out written
      s'.table s'.rules.queue s'.scratch new end
      → Tells s₀ (take (next + 1) input) (take end new) s'
  next_tells {s'} {new} {end} inside none same a =
      let rest = drop taken input in
      let size : length rest ≡ length input - taken = length-drop taken input in
      let first : next - taken ≡ before line_feed rest = omega (arith, g.found) in
      let line = answer_line (begun_line s ++ take (next - taken) rest) in
      let past : next + 1 ≡ taken + (before line_feed rest + 1) = omega (arith, g.found) in
      let mid = take (before line_feed rest + 1) rest in
      let parts : take (next + 1) input ≡ take taken input ++ mid = rw past (take-add taken (before line_feed rest + 1) input) in
      record {
        clean = λ c. let d = g.tells.clean c in record { store = (a.told d.kept d.store).0; kept = same ∙ d.kept };
        listing = λ c more.
            let d = g.tells.clean c in
            let put = (a.told d.kept d.store).1 in
            let ended : ahead s (mid ++ more) ≡ line ++ ahead s' more = rw first (ended_ahead s rest s' (omega arith) none more) in
            ap (λ (x : List ℕ). ahead s₀ (x ++ more)) parts
            ∙ ap (ahead s₀) (append_assoc (take taken input) mid more)
            ∙ g.tells.listing c (mid ++ more)
            ∙ ap (λ (x : List ℕ). take written out ++ x) ended
            ∙ sym (append_assoc (take written out) line (ahead s' more))
            ∙ ap (λ (x : List ℕ). x ++ ahead s' more) (sym put.front);
      }

  -- no room for a line
  pub stopped : length out - written < room → Feeds s₀ input s taken written out
  stopped low = record {
    most = g.most;
    within = g.within;
    some = λ h r. some_taken taken written (length out) g.nothing low r;
    all = λ h. omega arith;
    tells = g.tells;
  }

  -- no line feed: what is left begins a line
  pub ended : {new : List ℕ} {held : ℕ} → length input ≤ next
      → Keeps s.line s.rules.held (take (length input - taken) (drop taken input)) new held
      → Feeds s₀ input (state (rules_of held s.rules.queue) s.table s.scratch new) (length input) written out
  ended past kept =
      let rest = drop taken input in
      let left : length rest ≡ length input - taken = length-drop taken input in
      let all : before line_feed rest ≡ length rest = omega (arith, g.found, g.most, before_most line_feed rest) in
      record {
        most = omega arith;
        within = g.within;
        some = λ h r. h;
        all = λ h. refl;
        tells = rw (take-length input, ← take-append-drop taken input, ← append_none (take written out))
            (tells_both g.tells (joined_tells s rest all (rw (last_part input taken) at kept)));
      }

-- no line has begun
pub finish_none : (s : State) (out : List ℕ) → s.rules.held ≡ 0 → Finishes s 0 out
unfolding ahead split answers
finish_none s out e = record {
  within = omega arith;
  listing = λ c. ap (λ (k : ℕ). answers (last_line (take k s.line))) e;
}

-- a last line without its line feed
pub finish_line : (s : State) {out : List ℕ} {t' : List ℕ} {q' : Queue} {scratch' out' : List ℕ} {end : ℕ}
    → (s.rules.held ≡ 0 → ⊥) → room ≤ length out'
    → AnswersHeld s.line s.rules.held [] s.table s.rules.queue s.scratch out 0 t' q' scratch' out' end
    → Finishes s end out'
unfolding ahead split answers
finish_line s {out} {out' = out'} {end = end} some fits a = record {
  within = omega (arith, a.within);
  listing = λ c.
      let put = (a.told c.kept c.store).1 in
      ap answers (last_line_lem s.rules.held s.line some (λ z. omega (arith, c.kept)))
      ∙ append_none (answer_line (begun_line s))
      ∙ ap answer_line (sym (append_none (begun_line s)))
      ∙ sym put.front;
}

-- all is written
pub all_told : {s : State} {out : List ℕ} {written : ℕ} {s' : State} {out' : List ℕ} → Finishes s written out'
    → FinishesWithRoom s out (Some written) s' out'
all_told f = record { over = λ r. search rules; finishes = f }

-- no room for the last answer
pub more_waits : {s : State} {out : List ℕ} → length out < room → FinishesWithRoom s out None s out
more_waits l = record { over = λ r. absurd (omega arith); finishes = (refl, refl) }
