-- Laws of the words that a packet names, and of naming them: nil has no counter.
use mathlib.Core.Path.{◌≡◌, refl, sym, ap, ◌∙◌}
use mathlib.Core.List.{List, [], ◌∷◌}
use Prim.Native.Nat.{ℕ}
use Rattle.machine.specs.Words.{is_cell}
use Rattle.machine.specs.Queue.{packet}
use Rattle.machine.specs.Packets.{Kind, reads, makes, replaces, raises, lowers, unknown, kind_of, name, Direction, plus, minus, names_of, names, name_changes}
use Rattle.machine.specs.Step.{move_count, apply_changes, named}
use Rattle.counts.specs.Changes.{move_fitting, apply_fitting, Moves, named_fitting}
use Rattle.counts.specs.Names.{three_of}
use Rattle.counts.proofs.Changes.{moves_none, made_none, made_more}

nil_unnamed : (t : List ℕ) (d : Direction) → move_fitting t name 0 d 1 ≡ t
nil_unnamed t d = sym (moves_none t name 0 d 1 (unfold is_cell in refl)).moved

-- the three words are named as the packet's are
three_named : (d : Direction) (k : Kind) (t : List ℕ) (a b c : ℕ) → apply_fitting t (name_changes d (three_of k a b c)) ≡ apply_fitting t (name_changes d (names_of k a b c))
unfolding three_of names_of name_changes apply_fitting
three_named d reads t a b c = refl
three_named d makes t a b c = refl
three_named d (replaces f) t a b c = refl
three_named d raises t a b c = let u = move_fitting t name a d 1 in rw (nil_unnamed u d, nil_unnamed u d)
three_named d lowers t a b c = let u = move_fitting t name a d 1 in rw (nil_unnamed u d, nil_unnamed u d)
three_named d unknown t a b c = rw (nil_unnamed t d, nil_unnamed t d, nil_unnamed t d)

-- named one after another
pub named_three : (d : Direction) (t u v w : List ℕ) (k : Kind) (a b c x y z : ℕ) → x ∷ y ∷ z ∷ [] ≡ three_of k a b c → Moves t name x d 1 u → Moves u name y d 1 v
    → Moves v name z d 1 w → w ≡ apply_fitting t (name_changes d (names_of k a b c))
unfolding name_changes
named_three d t u v w k a b c x y z e f g h =
    made_more t u w _ _ f (made_more u v w _ _ g (made_more v w w _ _ h (made_none w)))
    ∙ ap (λ (ws : List ℕ). apply_fitting t (name_changes d ws)) e ∙ three_named d k t a b c

-- lowering always fits
lowers_whole : (t : List ℕ) (ws : List ℕ) → apply_fitting t (name_changes minus ws) ≡ apply_changes t (name_changes minus ws)
unfolding apply_fitting apply_changes name_changes move_fitting
lowers_whole t [] = refl
lowers_whole t (w ∷ ws) = lowers_whole (move_count t name w minus 1) ws

pub packet_named : (t t' : List ℕ) (kind a b c : ℕ) → t' ≡ apply_fitting t (name_changes plus (names_of (kind_of kind) a b c)) → t' ≡ named_fitting t (packet kind a b c)
unfolding named_fitting names
packet_named t t' kind a b c h = h

pub packet_unnamed : (t t' : List ℕ) (kind a b c : ℕ) → t' ≡ apply_fitting t (name_changes minus (names_of (kind_of kind) a b c)) → t' ≡ named minus t (packet kind a b c)
unfolding named names
packet_unnamed t t' kind a b c h = h ∙ lowers_whole t (names_of (kind_of kind) a b c)
