-- How many digits a number has, and the bytes of pieces.
use mathlib.Core.Path.{◌≡◌, refl, ap}
use mathlib.Core.Bool.{Bool, true, false, cond}
use mathlib.Core.List.{List, [], ◌∷◌, ◌++◌}
use Prim.Native.Nat.{ℕ, zero, suc, ◌+◌, ◌/◌, ◌%◌, ◌^◌, ◌≤◌, ◌<◌}
use native.Mathlib.Nat.{pow-suc}
use native.Mathlib.Omega.{arith}
use lib.Dec.{ltb}
use lib.ListN.{length, length-append}
use borrow.Author.Tests.{lt-ltb, le-ltb}
use Rattle.base_ten.specs.Bytes.{digit_zero}
use Rattle.base_ten.specs.Decimal.{digits, most_digits, decimal}
use Rattle.base_ten.proofs.PutLaws.{digits_some}
use Rattle.notation.specs.Grammar.{close_byte}
use Rattle.printer.specs.declared.walk.Piece.{Piece}
use Rattle.printer.specs.Pieces.{bytes_of}

-- so many digits are enough
pub digits_exact : (most n : ℕ) → digits (length (digits most n)) n ≡ digits most n
unfolding digits
digits_exact zero n = refl
digits_exact (suc most) n = go (ltb n 10) refl (digits_exact most (n / 10))
  where
    go : (t : Bool) → ltb n 10 ≡ t → digits (length (digits most (n / 10))) (n / 10) ≡ digits most (n / 10)
        → digits (length (cond t ((digit_zero + n) ∷ []) (digits most (n / 10) ++ ((digit_zero + n % 10) ∷ [])))) n
        ≡ cond t ((digit_zero + n) ∷ []) (digits most (n / 10) ++ ((digit_zero + n % 10) ∷ []))
    go true e ih = rw e
    go false e ih =
        let one : length (digits most (n / 10) ++ ((digit_zero + n % 10) ∷ [])) ≡ suc (length (digits most (n / 10))) = simp length-append (omega arith) in
        rw (one, e) (ap (λ (l : List ℕ). l ++ ((digit_zero + n % 10) ∷ [])) ih)

-- a number from ten to the k on, below ten to the k + 1, has k + 1 digits
pub digits_count : (k most n : ℕ) → k < most → n < 10 ^ suc k → (0 < k → 10 ^ k ≤ n) → suc k ≡ length (digits most n)
unfolding digits
digits_count k zero n h l m = absurd (omega arith)
digits_count zero (suc most) n h l m = rw (lt-ltb n 10 l)
digits_count (suc k) (suc most) n h l m =
    let more : 10 ^ suc k ≤ n = m (omega arith) in
    let ten : 10 ≤ n = omega (arith, pow-suc 10 k, one k) in
    rw (le-ltb n 10 ten, length-append (digits most (n / 10)) ((digit_zero + n % 10) ∷ []))
    (omega (arith, digits_count k most (n / 10) (omega arith) (omega (arith, pow-suc 10 (suc k))) (λ z. omega (arith, pow-suc 10 k))))
  where
    one : (k : ℕ) → 1 ≤ 10 ^ k
    one zero = omega arith
    one (suc k) = omega (arith, one k, pow-suc 10 k)

-- no piece is empty
pub piece_some : (p : Piece) → 0 < length (bytes_of p)
unfolding bytes_of
piece_some Piece.Opening = omega arith
piece_some Piece.Empty = omega arith
piece_some (Piece.Number v) = digits_some most_digits v (omega arith)
piece_some Piece.Space = omega arith
piece_some (Piece.Dotted v) = omega arith
piece_some Piece.Closing = omega arith

pub dotted_length : (v : ℕ) → length (bytes_of (Piece.Dotted v)) ≡ 4 + length (decimal v)
unfolding bytes_of
dotted_length v = rw (length-append (decimal v) (close_byte ∷ [])) (omega arith)
