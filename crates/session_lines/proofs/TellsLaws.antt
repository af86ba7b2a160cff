-- What a whole line, a part of a line, and one part after the other tell.
use mathlib.Core.Path.{◌≡◌, refl, sym, ap, ◌∙◌}
use mathlib.Core.List.{List, [], ◌∷◌, ◌++◌, append_assoc}
use Prim.Native.Nat.{ℕ, ◌+◌, ◌<◌}
use native.Mathlib.Numerals.{add-one}
use native.Mathlib.Omega.{arith}
use Rattle.std.specs.Prelude.{Option}
use lib.ListN.{length, take, length-append}
use lib.Seq.{length-take-le}
use Rattle.base_ten.specs.Bytes.{line_feed, before, lines_of}
use Rattle.base_ten.specs.Lines.{onto}
use Rattle.base_ten.proofs.LineLaws.{onto_none, lines_joined, lines_ended}
use Rattle.machine.specs.declared.Queue.{Queue}
use Rattle.machine.specs.Calls.{Store, store}
use Rattle.line_text.specs.declared.Request.{Request}
use Rattle.line_text.specs.declared.Verdict.{Verdict}
use Rattle.session_lines.specs.declared.Session.{Session}
use Rattle.line_text.specs.Requests.{request_of}
use Rattle.line_text.specs.Kept.{kept_bytes, Keeps}
use Rattle.line_text.specs.Put.{Next}
use Rattle.line_text.specs.Texts.{output_line}
use Rattle.serving.specs.Serving.{served_line, Good, Serves}
use Rattle.session_lines.specs.Listing.{listed}
use Rattle.session_lines.specs.Progress.{session_of, begun_line, ahead, TellsLine, Tells}
use Rattle.session_lines.proofs.LineLaws.{listed_capped}

-- a served line's output is its line of the listing
pub line_tells : {line : List ℕ} {lines : ℕ} {s : Store} {asked : Option Request} {v : Verdict} {s' : Store} {number : ℕ}
    → asked ≡ request_of line
    → (Good s.table s.queue → Serves (served_line s asked) v s')
    → Next lines number
    → TellsLine line lines s (output_line number v) number s'
unfolding listed
line_tells {lines = lines} er h en = record {
  good = λ g. (h g).good;
  counted = en.most;
  listing = λ g b rest.
      let e = h g in
      rw (e.verdict, e.after, er, en.one b, add-one lines);
}

-- a part without a line feed joins the line
pub joined_tells : (s : Session) (part : List ℕ) {new : List ℕ} {held : ℕ} {t scratch : List ℕ}
    → before line_feed part ≡ length part → length s.line ≡ kept_bytes → Keeps s.line s.held part new held
    → Tells s t scratch part [] (session_of new held s.lines s.queue) t scratch
unfolding ahead
joined_tells s part {t = t} {scratch = scratch} all size kept = record {
  good = λ g. g;
  counted = omega arith;
  listing = λ g b rest.
      let st = store t s.queue scratch in
      ap (listed s.lines st) (lines_joined (begun_line s) part rest all)
      ∙ listed_capped s.lines st (begun_line s ++ part) (lines_of rest)
      ∙ ap (λ (x : List ℕ). listed s.lines st (onto x (lines_of rest))) (sym (rw size at kept.front));
}

-- with its line feed the line is whole
pub ended_tells : (s : Session) (input : List ℕ) {t scratch text : List ℕ} {lines : ℕ} {t' : List ℕ} {queue : Queue} {scratch' line : List ℕ}
    → before line_feed input < length input
    → TellsLine (begun_line s ++ take (before line_feed input) input) s.lines (store t s.queue scratch) text lines (store t' queue scratch')
    → Tells s t scratch (take (before line_feed input + 1) input) text (session_of line 0 lines queue) t' scratch'
unfolding ahead
ended_tells s input {t} {scratch} {text} {lines} {t'} {queue} {scratch'} some told =
    let feed = before line_feed input in
    let size : length (take (feed + 1) input) ≡ feed + 1 = length-take-le (feed + 1) input (omega arith) in
    record {
      good = told.good;
      counted = omega (arith, told.counted, size);
      listing = λ g b rest.
          let st = store t s.queue scratch in
          let ended : lines_of (take (feed + 1) input ++ rest) ≡ take feed input ∷ lines_of rest = rw (add-one feed) (lines_ended input rest some) in
          ap (λ (ls : List (List ℕ)). listed s.lines st (onto (begun_line s) ls)) ended
          ∙ told.listing g (omega (arith, size)) (lines_of rest)
          ∙ ap (λ (ls : List (List ℕ)). text ++ listed lines (store t' queue scratch') ls) (sym (onto_none (lines_of rest)));
    }

-- one after the other
pub tells_both : {s : Session} {t scratch x y : List ℕ} {s₁ : Session} {t₁ scratch₁ x₁ y₁ : List ℕ} {s₂ : Session} {t₂ scratch₂ : List ℕ}
    → Tells s t scratch x y s₁ t₁ scratch₁ → Tells s₁ t₁ scratch₁ x₁ y₁ s₂ t₂ scratch₂ → Tells s t scratch (x ++ x₁) (y ++ y₁) s₂ t₂ scratch₂
tells_both {s} {t} {scratch} {x} {y} {s₁} {t₁} {scratch₁} {x₁} {y₁} {s₂} {t₂} {scratch₂} a b = record {
  good = λ g. b.good (a.good g);
  counted = omega (arith, a.counted, b.counted, length-append x x₁);
  listing = λ g l rest.
      ap (ahead s t scratch) (append_assoc x x₁ rest)
      ∙ a.listing g (omega (arith, length-append x x₁)) (x₁ ++ rest)
      ∙ ap (λ (z : List ℕ). y ++ z) (b.listing (a.good g) (omega (arith, a.counted, length-append x x₁)) rest)
      ∙ sym (append_assoc y y₁ (ahead s₂ t₂ scratch₂ rest));
}

pub tells_none : (s : Session) (t scratch : List ℕ) → Tells s t scratch [] [] s t scratch
tells_none s t scratch = record { good = λ g. g; counted = omega arith; listing = λ g l rest. refl }
