-- Lines one after the other, and the end of the input.
use mathlib.Core.Path.{◌≡◌, refl, sym, ap, ◌∙◌}
use mathlib.Core.List.{List, [], ◌∷◌, ◌++◌}
use Prim.Native.Nat.{ℕ, zero, suc, ◌+◌, ◌-◌, ◌≤◌, ◌<◌}
use native.Mathlib.Omega.{arith}
use borrow.Author.Rules.{rules}
use Rattle.std.specs.Prelude.{Option, Some, None}
use lib.ListN.{length, take, drop, length-drop, take-append-drop}
use lib.Seq.{take-add, take-length}
use Rattle.base_ten.specs.Bytes.{line_feed, before, split}
use Rattle.base_ten.specs.Lines.{last_line}
use Rattle.base_ten.specs.Put.{Put}
use Rattle.base_ten.proofs.LineLaws.{last_line_lem}
use Rattle.base_ten.proofs.KeepLaws.{last_part}
use Rattle.base_ten.proofs.WordLaws.{append_none, before_most}
use Rattle.machine.specs.declared.Queue.{Queue}
use Rattle.machine.specs.Calls.{store}
use Rattle.line_text.specs.declared.Request.{Request}
use Rattle.line_text.specs.declared.Verdict.{Verdict}
use Rattle.line_text.specs.Requests.{request_of}
use Rattle.line_text.specs.Kept.{kept_bytes, Keeps}
use Rattle.line_text.specs.Texts.{room, output_line}
use Rattle.line_text.specs.Put.{Next}
use Rattle.line_text.proofs.PutLaws.{output_length}
use Rattle.session_lines.specs.declared.Session.{Session}
use Rattle.session_lines.specs.Listing.{listed}
use Rattle.serving.specs.Serving.{served_line, Good, Serves}
use Rattle.session_lines.specs.Progress.{session_of, begun_line, ahead, Tells, FeedsLines, Finishes, FinishesWithRoom}
use Rattle.session_lines.proofs.TellsLaws.{line_tells, joined_tells, ended_tells, tells_both}

-- How far the lines have come: the sizes stand, the count is the session's, and what was taken gave what was written.
pub record Going (table₀ scratch₀ input out₀ : List ℕ) (s₀ : Session) (table scratch out : List ℕ) (s : Session) (count taken written feed : ℕ) : Type 0 where
  pub most : taken ≤ length input
  pub within : written ≤ length out
  pub nothing : taken ≡ 0 → written ≡ 0
  pub none : 0 < taken → s.held ≡ 0
  pub found : feed ≡ taken + before line_feed (drop taken input)
  pub counted : count ≡ s.lines
  pub line_size : length s.line ≡ length s₀.line
  pub table_size : length table ≡ length table₀
  pub scratch_size : length scratch ≡ length scratch₀
  pub out_size : length out ≡ length out₀
  pub tells : Tells s₀ table₀ scratch₀ (take taken input) (take written out) s table scratch

module _ (input : List ℕ) (taken : ℕ) {feed : ℕ} (found : feed ≡ taken + before line_feed (drop taken input))
    {s₀ s : Session} {t₀ scratch₀ t scratch : List ℕ} (out : List ℕ) (written : ℕ)
    (told : Tells s₀ t₀ scratch₀ (take taken input) (take written out) s t scratch) where
  -- the next line served
  pub next_tells : {asked : Option Request} {v : Verdict} {lines : ℕ} {t' : List ℕ} {queue : Queue} {scratch' : List ℕ} {end : ℕ} {new line : List ℕ}
      → feed < length input
      → asked ≡ request_of (begun_line s ++ take (feed - taken) (drop taken input))
      → (Good t s.queue → Serves (served_line (store t s.queue scratch) asked) v (store t' queue scratch'))
      → Next s.lines lines
      → Put out written (output_line lines v) new end
      → Tells s₀ t₀ scratch₀ (take (feed + 1) input) (take end new) (session_of line 0 lines queue) t' scratch'
  next_tells inside er es en put =
      let rest = drop taken input in
      let size : length rest ≡ length input - taken = length-drop taken input in
      let first : feed - taken ≡ before line_feed rest = omega arith in
      let past : taken + (before line_feed rest + 1) ≡ feed + 1 = omega arith in
      rw (← past, take-add taken (before line_feed rest + 1) input, put.front)
      (tells_both told (ended_tells s rest (omega arith) (line_tells (rw first at er) es en)))

  -- what is left begins a line
  pub rest_tells : {new : List ℕ} {held : ℕ} → length input ≤ feed → taken ≤ length input → length s.line ≡ kept_bytes
      → Keeps s.line s.held (take (length input - taken) (drop taken input)) new held
      → Tells s₀ t₀ scratch₀ (take (length input) input) (take written out) (session_of new held s.lines s.queue) t scratch
  rest_tells past most size kept =
      let rest = drop taken input in
      let left : length rest ≡ length input - taken = length-drop taken input in
      let all : before line_feed rest ≡ length rest = omega (arith, before_most line_feed rest) in
      rw (take-length input, ← take-append-drop taken input, ← append_none (take written out))
      (tells_both told (joined_tells s rest all size (rw (last_part input taken) at kept)))

-- an output line ends within its room
pub next_within : {out new : List ℕ} {written end : ℕ} (lines : ℕ) (v : Verdict) → written + room ≤ length out → length new ≡ length out
    → Put out written (output_line lines v) new end → end ≤ length new
next_within lines v h l put = omega (arith, put.ends, output_length lines v)

-- with room for a line something is taken
some_taken : (taken written size : ℕ) → (taken ≡ 0 → written ≡ 0) → size - written < room → room ≤ size → 0 < taken
some_taken zero written size h l r = let w : written ≡ 0 = h refl in absurd (never w l r)
  where
    never : written ≡ 0 → size - written < room → room ≤ size → ⊥
    never w l r = omega arith
some_taken (suc taken) written size h l r = omega arith

-- an input of a line feed alone is taken
one_taken : (input : List ℕ) (taken feed : ℕ) → input ≡ line_feed ∷ [] → feed ≡ taken + before line_feed (drop taken input) → length input ≤ feed
    → taken ≤ length input → taken ≡ 1
unfolding before
one_taken input zero feed e found past most = absurd (never (found ∙ rw e) (rw e at past))
  where
    never : feed ≡ 0 + 0 → 1 ≤ feed → ⊥
    never p q = omega arith
one_taken input (suc zero) feed e found past most = refl
one_taken input (suc (suc n)) feed e found past most = absurd (never (rw e at most))
  where
    never : suc (suc n) ≤ 1 → ⊥
    never p = omega arith

module _ {table₀ scratch₀ input out₀ : List ℕ} {s₀ : Session} {table scratch out : List ℕ} {s : Session} {count taken written feed : ℕ}
    (going : Going table₀ scratch₀ input out₀ s₀ table scratch out s count taken written feed) where
  -- no room for a line
  pub stopped : length out - written < room → FeedsLines s₀ table₀ scratch₀ input s taken written table scratch out
  stopped low = record {
    feeds = record {
      most = going.most;
      within = going.within;
      some = λ h r. some_taken taken written (length out) going.nothing low r;
      all = λ h. omega arith;
      tells = going.tells;
    };
    closed = λ e r. rw (going.none (some_taken taken written (length out) going.nothing low r));
  }

  -- no line feed
  pub ended : {new : List ℕ} {held' : ℕ} → length input ≤ feed → length s.line ≡ kept_bytes
      → Keeps s.line s.held (take (length input - taken) (drop taken input)) new held'
      → FeedsLines s₀ table₀ scratch₀ input (session_of new held' s.lines s.queue) (length input) written table scratch out
  ended past whole kept = record {
    feeds = record {
      most = omega arith;
      within = going.within;
      some = λ h r. h;
      all = λ h. refl;
      tells = rest_tells input taken going.found out written going.tells past going.most whole kept;
    };
    closed = λ e r.
        let one : taken ≡ 1 = one_taken input taken feed e going.found past going.most in
        let zero_held : s.held ≡ 0 = going.none (omega arith) in
        (rw whole at kept.front) ∙ rw (e, one, zero_held);
  }

-- no line has begun
pub finish_none : (s : Session) {t scratch out : List ℕ} → s.held ≡ 0 → Finishes s t scratch 0 out
unfolding ahead split listed
finish_none s {t} {scratch} e = record {
  within = omega arith;
  listing = λ g l. ap (λ (k : ℕ). listed s.lines (store t s.queue scratch) (last_line (take k s.line))) e;
}

-- the line feed that is missing
pub finish_line : (s : Session) {t scratch : List ℕ} {s' : Session} {taken written : ℕ} {t' scratch' out : List ℕ}
    → length s.line ≡ kept_bytes → (s.held ≡ 0 → ⊥) → room ≤ length out
    → FeedsLines s t scratch (line_feed ∷ []) s' taken written t' scratch' out → Finishes s t scratch written out
unfolding ahead split listed
finish_line s {t} {scratch} {s'} {taken} {written} {t'} {scratch'} {out} size e r told = record {
  within = told.feeds.within;
  listing = λ g l.
      let f = told.feeds in
      let st = store t s.queue scratch in
      let one : 0 < taken = f.some (omega arith) r in
      let taken1 : taken ≡ 1 = omega (arith, f.most) in
      let whole : take taken (line_feed ∷ []) ≡ line_feed ∷ [] = rw taken1 in
      let begun : last_line (begun_line s) ≡ (begun_line s ++ []) ∷ [] =
      last_line_lem s.held s.line e (λ z. omega arith) ∙ ap (λ (x : List ℕ). x ∷ []) (sym (append_none (begun_line s))) in
      let closed : ahead s' t' scratch' [] ≡ [] =
      ap (λ (x : List ℕ). listed s'.lines (store t' s'.queue scratch') (last_line x)) (told.closed refl r) in
      ap (listed s.lines st) begun
      ∙ ap (λ (x : List ℕ). ahead s t scratch (x ++ [])) (sym whole)
      ∙ f.tells.listing g (omega (arith, ap length whole)) []
      ∙ ap (λ (x : List ℕ). take written out ++ x) closed
      ∙ append_none (take written out);
}

-- all is written
pub all_told : {s : Session} {t scratch out : List ℕ} {written : ℕ} {t' scratch' out' : List ℕ} → Finishes s t scratch written out'
    → FinishesWithRoom s t scratch out (Some written) t' scratch' out'
all_told f = record { over = λ r. search rules; finishes = f }

-- no room for the last line
pub more_waits : {s : Session} {t scratch out : List ℕ} → length out < room → FinishesWithRoom s t scratch out None t scratch out
more_waits l = record { over = λ r. absurd (omega arith); finishes = (refl, refl, refl) }
