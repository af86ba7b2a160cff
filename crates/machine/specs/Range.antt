-- What is said of every number below a bound, of some number below it, or summed over all of them; and small tests on lists.
use Rattle.std.specs.Prelude.{Bool, true, false, cond, ◌&&◌, ◌||◌, List, [], ◌∷◌, ◌++◌, ℕ, zero, suc, ◌+◌, eqb}

-- p holds of every number below n
unfoldable pub every : ℕ → (ℕ → Bool) → Bool
every zero p = true
every (suc n) p = every n p && p n

-- p holds of some number below n
unfoldable pub exists : ℕ → (ℕ → Bool) → Bool
exists zero p = false
exists (suc n) p = exists n p || p n

-- the sum of f over the numbers below n
unfoldable pub total : ℕ → (ℕ → ℕ) → ℕ
total zero f = 0
total (suc n) f = total n f + f n

-- the numbers below n of which p holds, ascending
unfoldable pub select : ℕ → (ℕ → Bool) → List ℕ
select zero p = []
select (suc n) p = select n p ++ cond (p n) (n ∷ []) []

-- f of each number below n, in order
unfoldable pub tabulate : ℕ → (ℕ → Bool) → List Bool
tabulate zero f = []
tabulate (suc n) f = tabulate n f ++ (f n ∷ [])

-- n where the word w is x, else 0
unfoldable pub matching : ℕ → ℕ → ℕ → ℕ
matching w x n = cond (eqb w x) n 0

-- how often x stands in a list of words
unfoldable pub occurrences : ℕ → List ℕ → ℕ
occurrences x [] = 0
occurrences x (w ∷ ws) = matching w x 1 + occurrences x ws

-- p holds of every word of a list
unfoldable pub every_of : List ℕ → (ℕ → Bool) → Bool
every_of [] p = true
every_of (w ∷ ws) p = p w && every_of ws p

-- a list's last word, or 0
unfoldable pub last_of : List ℕ → ℕ
last_of [] = 0
last_of (w ∷ []) = w
last_of (w ∷ v ∷ ws) = last_of (v ∷ ws)
