-- Why the first bytes of a line are enough.
use mathlib.Core.Path.{◌≡◌, refl}
use mathlib.Core.List.{List, [], ◌∷◌, ◌++◌}
use Prim.Native.Nat.{ℕ}
use lib.ListN.{take}
use Rattle.base_ten.specs.Lines.{onto}
use Rattle.machine.specs.Calls.{Store}
use Rattle.line_text.specs.Requests.{request_of}
use Rattle.line_text.specs.Kept.{kept_bytes}
use Rattle.line_text.proofs.KeepLaws.{capped, request_capped}
use Rattle.session_lines.specs.Listing.{listed}

pub listed_same : (n : ℕ) (s : Store) (a b : List ℕ) (ls : List (List ℕ)) → request_of a ≡ request_of b → listed n s (a ∷ ls) ≡ listed n s (b ∷ ls)
unfolding listed
listed_same n s a b ls e = rw e

pub listed_capped : (n : ℕ) (s : Store) (l : List ℕ) (ls : List (List ℕ)) → listed n s (onto l ls) ≡ listed n s (onto (take kept_bytes l) ls)
listed_capped n s l (x ∷ ls) = listed_same n s (l ++ x) (take kept_bytes l ++ x) ls (capped l x)
listed_capped n s [] [] = refl
listed_capped n s (b ∷ bs) [] = listed_same n s (b ∷ bs) (take kept_bytes (b ∷ bs)) [] (request_capped (b ∷ bs))
