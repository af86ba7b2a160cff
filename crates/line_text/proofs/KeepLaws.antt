-- What is kept of a line, and why its first bytes are enough to tell what it asks for.
use mathlib.Core.Path.{◌≡◌, refl, sym, ap, ◌∙◌}
use mathlib.Core.Bool.{Bool, true, false}
use mathlib.Core.List.{List, [], ◌++◌}
use Prim.Native.Nat.{ℕ, ◌+◌, ◌-◌, ◌<◌, min}
use native.Mathlib.Omega.{arith}
use lib.Dec.{leb}
use lib.ListN.{length, take, length-append}
use lib.Seq.{take_all, take-append-add, length-take-le}
use borrow.Author.Tests.{leb-true, leb-false}
use Rattle.base_ten.proofs.KeepLaws.{take_cap}
use Rattle.base_ten.proofs.WordLaws.{append_none}
use Rattle.line_text.specs.Requests.{request_of}
use Rattle.line_text.specs.Kept.{kept_bytes, Keeps}
use Rattle.line_text.proofs.RequestLaws.{line_long}

-- the part's bytes copied behind those held, as many of both as there is room for
pub keeps : (line part : List ℕ) (held : ℕ) {from size : ℕ} {new : List ℕ}
    → from ≡ min held (length line) → size ≡ min (length part) (length line - from) → length new ≡ length line
    → take (from + size) new ≡ take from line ++ take size part
    → Keeps line held part new (from + size)
keeps line part held {from} {size} held_is size_is same copied =
    let left = length line - from in
    let front : length (take from line) ≡ from = length-take-le from line (omega (arith, held_is)) in
    let whole : length (take from line) + left ≡ length line = omega (arith, front, held_is) in
    let fits : size ≡ min left (length part) = omega (arith, size_is) in
    let all_held : take from line ≡ take held line = ap (λ (k : ℕ). take k line) held_is ∙ sym (take_cap held line) in
    let all_part : take size part ≡ take left part = ap (λ (k : ℕ). take k part) fits ∙ sym (take_cap left part) in
    record {
      most = omega (arith, held_is, size_is);
      size = same;
      front =
          copied
          ∙ ap (λ (x : List ℕ). take from line ++ x) all_part
          ∙ sym (take-append-add (take from line) part left)
          ∙ ap (λ (k : ℕ). take k (take from line ++ part)) whole
          ∙ ap (λ (x : List ℕ). take (length line) (x ++ part)) all_held;
    }

pub capped : (l z : List ℕ) → request_of (l ++ z) ≡ request_of (take kept_bytes l ++ z)
capped l z = go (leb (length l) kept_bytes) refl
  where
    go : (t : Bool) → leb (length l) kept_bytes ≡ t → request_of (l ++ z) ≡ request_of (take kept_bytes l ++ z)
    go true e = rw (take_all kept_bytes l (leb-true (length l) kept_bytes e))
    go false e =
        let long : kept_bytes < length l = leb-false (length l) kept_bytes e in
        let kept : length (take kept_bytes l) ≡ kept_bytes = length-take-le kept_bytes l (omega arith) in
        sym (line_long (l ++ z) (omega (arith, length-append l z)))
        ∙ line_long (take kept_bytes l ++ z) (omega (arith, length-append (take kept_bytes l) z))

pub request_capped : (l : List ℕ) → request_of l ≡ request_of (take kept_bytes l)
request_capped l = ap request_of (sym (append_none l)) ∙ capped l [] ∙ ap request_of (append_none (take kept_bytes l))
