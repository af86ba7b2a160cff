-- Reads and writes one after the other, of bytes that are known.
use Rattle.std.proofs.Common.{◌≡◌, ℕ, ◌+◌, ◌-◌, ◌≤◌, List, ◌++◌, length, take, drop, ap, ◌∙◌, subst, length-take-le}
use Rattle.std.proofs.lemmas.List.{take_rest}
use Rattle.std.specs.declared.option.Option.{Option}
use Rattle.std.specs.Io.KnownBytes.{Appends, Consumes}
use Rattle.std.proofs.KnownBytes.{Appends-trans, Consumes-trans}
use Rattle.std.proofs.Math.Seq.{take-add, take-append-add, take-append-le}
use borrow.Rule.Slice.PartMut.{put_mid, post_of}

-- one more write, of a front of what is left
pub more_added : (a b c : Option (List ℕ)) (bytes : List ℕ) (done n : ℕ) → Appends a b (take done bytes)
    → Appends b c (take n (take (length bytes - done) (drop done bytes))) → Appends a c (take (done + n) bytes)
more_added a b c bytes done n p q =
    rw (take-add done n bytes) (Appends-trans a b c _ _ p (rw (take_rest bytes done) at q))

-- a part's front after what stands before it
front_put : (xs ys : List ℕ) (a k n : ℕ) → a ≤ length xs → n ≤ length ys → take (a + n) (put_mid a k xs ys) ≡ take a xs ++ take n ys
front_put xs ys a k n h m =
    let e : length (take a xs) ≡ a = length-take-le a xs h in
    subst (λ (z : ℕ). take (z + n) (put_mid a k xs ys) ≡ take a xs ++ take n ys) e
    (take-append-add (take a xs) (ys ++ post_of a k xs) n ∙ ap (λ (l : List ℕ). take a xs ++ l) (take-append-le n ys (post_of a k xs) m))

-- one more read, into what is left of the buffer
pub more_taken : (a b c : Option (List ℕ)) (buffer part : List ℕ) (done k n : ℕ) → done ≤ length buffer → n ≤ length part
    → Consumes a b (take done buffer) → Consumes b c (take n part) → Consumes a c (take (done + n) (put_mid done k buffer part))
more_taken a b c buffer part done k n h m p q = rw (front_put buffer part done k n h m) (Consumes-trans a b c _ _ p q)
