-- Where every cell in use is reached or a suspect, the suspects that are not kept are the cells that are not reached. No waiting packet names a suspect,
-- so its cell count is the pointers to it: more of them than come from suspects come from a cell that is none, and so is reached.
use mathlib.Core.Path.{◌≡◌, sym, ◌∙◌}
use mathlib.Core.Logic.{◌⊎◌, ⊎_elim}
use mathlib.Core.Bool.{true, false, not, ◌&&◌}
use mathlib.Core.List.{List}
use Prim.Native.Nat.{ℕ, suc, ◌+◌, ◌≤◌, ◌<◌}
use native.Mathlib.Omega.{arith}
use lib.Dec.{ltb, eqb}
use borrow.Author.Tests.{eqb-true, ltb-true, lt-ltb}
use Rattle.machine.specs.Table.{right, root_count, cell_count, capacity, word_at, in_use}
use Rattle.machine.specs.Queue.{Packet}
use Rattle.machine.specs.Packets.{cell, plus, minus, is_named}
use Rattle.machine.specs.Reached.{is_root, is_root_by_queue, points_to, ReachedBy, begun, onward, Reached, reached}
use Rattle.machine.specs.Step.{unreached}
use Rattle.machine.specs.Facts.{pointers_out}
use Rattle.machine.specs.Suspects.{is_lost, leads_on, Suspect, is_suspect, suspects, is_supported, is_kept, local_dead}
use Rattle.machine.proofs.Range.{tested, or-false, and_both, and_first, and_second, not_both, matching_same}
use Rattle.machine.proofs.Reached.{reached_is}
use Rattle.machine.proofs.RootsByCell.{Counted, root_is, by_queue}
use Rattle.machine.proofs.Select.{select_same}
use Rattle.machine.proofs.Suspects.{suspect_is, suspect_no_root, kept_is}
use Rattle.soundness.proofs.PacketKinds.{unnamed_waiting}
use Rattle.soundness.proofs.Views.{View, shown, seen, seen_same, seen_put, seen_none, seen_waiting, nil_no_cell, Same}
use Rattle.soundness.proofs.LegalPackets.{Fit}
use Rattle.soundness.proofs.Stages.{shown_used, shown_free}
use Rattle.soundness.proofs.Facts.{Facts, all_below}
use Rattle.soundness.proofs.ReachedCells.{points_by, points_cases, pointed_used, reached_used}
use Rattle.soundness.proofs.Masks.{mask, masked, unmasked, seen_split, out_seen}

module _ (t : List ℕ) (ps : List Packet) (f : Facts t ps) (n : Counted t ps) (w : ℕ) (fit : Fit t w) where
  abbrev c : ℕ
  c = capacity t

  -- isKept, inductive
  abbrev Kept : ℕ → Type 0
  Kept = ReachedBy c (is_supported t w) (leads_on t)

  suspect_used : {i : ℕ} → Suspect t w i → (i < c) × (in_use t i ≡ true)
  unfolding is_lost leads_on
  suspect_used (begun {i = i} l e) = (l, fit.used i l (eqb-true w (suc i) (and_first (eqb w (suc i)) (not (is_root t i)) e)))
  suspect_used (onward {j = j} {i = i} r l e) =
      let h = suspect_used r in (l, pointed_used t ps f j i h.0 l h.1 (and_first (points_to t j i) (not (is_root t i)) e))

  -- the pointers to a suspect: from suspects, and from the other cells
  abbrev others : View
  others = mask (λ i. not (is_suspect t w i)) (shown t)

  from_suspects : (x : ℕ) → pointers_out t (suspects t w) (suc x) ≡ seen c (mask (is_suspect t w) (shown t)) (suc x)
  unfolding suspects
  from_suspects x = out_seen t c (is_suspect t w) x ∙ seen_same c (mask (is_suspect t w) (word_at t)) (mask (is_suspect t w) (shown t)) (suc x) same
    where
      same : Same c (mask (is_suspect t w) (word_at t)) (mask (is_suspect t w) (shown t))
      same i k _ _ =
          ⊎_elim (λ e. unmasked (is_suspect t w) (word_at t) i k e ∙ sym (shown_used t i k (suspect_used ((suspect_is t w i).0 e)).1)
          ∙ sym (unmasked (is_suspect t w) (shown t) i k e))
          (λ e. masked (is_suspect t w) (word_at t) i k e ∙ sym (masked (is_suspect t w) (shown t) i k e)) (tested (is_suspect t w i))

  suspect_count : {i : ℕ} → Suspect t w i → word_at t i cell_count ≡ pointers_out t (suspects t w) (suc i) + seen c others (suc i)
  unfolding is_root_by_queue
  suspect_count {i} s =
      let l = (suspect_used s).0 in
      let unnamed = (or-false (ltb 0 (word_at t i root_count)) (is_named ps (suc i)) (sym (root_is t ps n i l) ∙ suspect_no_root t w s)).1 in
      omega (
        arith,
        f.counts i l,
        seen_waiting c (shown t) ps i (all_below t ps f) f.stages,
        unnamed_waiting ps (suc i) unnamed cell plus,
        unnamed_waiting ps (suc i) unnamed cell minus,
        seen_split c (is_suspect t w) (shown t) i,
        from_suspects i,
      )

  -- a cell in use that is no suspect supports the suspects in its fields
  supports : (j i : ℕ) → j < c → in_use t j ≡ true → is_suspect t w j ≡ false → points_to t j i ≡ true → Suspect t w i → is_supported t w i ≡ true
  unfolding is_supported
  supports j i l u o e s =
      let k = points_cases t j i e in
      let v : others j k.0 ≡ suc i = unmasked (λ m. not (is_suspect t w m)) (shown t) j k.0 (rw o) ∙ shown_used t j k.0 u ∙ k.2 in
      and_both ((suspect_is t w i).1 s) (lt-ltb (pointers_out t (suspects t w) (suc i)) (word_at t i cell_count) (omega (
        arith,
        suspect_count s,
        seen_put c others j k.0 0 (suc i) l k.1,
        matching_same (others j k.0) (suc i) 1 v,
        nil_no_cell i,
      )))

  -- so a suspect that is reached is kept
  reached_kept : {i : ℕ} → Reached t i → Suspect t w i → Kept i
  unfolding leads_on
  reached_kept (begun l e) s = absurd (not_both e (suspect_no_root t w s))
  reached_kept (onward {j = j} {i = i} r l e) s =
      ⊎_elim (λ h. onward (reached_kept r ((suspect_is t w j).0 h)) l (and_both e (rw (suspect_no_root t w s))))
      (λ h. let d = reached_used t ps f (by_queue t ps n r) in begun l (supports j i d.0 d.1 h e s)) (tested (is_suspect t w j))

  module _ (cover : (i : ℕ) → i < c → in_use t i ≡ true → Reached t i ⊎ Suspect t w i) where
    other_reached : (i : ℕ) → i < c → in_use t i ≡ true → is_suspect t w i ≡ false → Reached t i
    other_reached i l u o = ⊎_elim (λ r. r) (λ s. absurd (not_both ((suspect_is t w i).1 s) o)) (cover i l u)

    -- what a cell that is no suspect points to is reached
    others_reached : (i j k : ℕ) → i < c → j < c → k ≤ right → others j k ≡ suc i → Reached t i
    others_reached i j k l m b e = ⊎_elim suspect other (tested (is_suspect t w j))
      where
        suspect : is_suspect t w j ≡ true → Reached t i
        suspect h = absurd (omega (arith, masked (λ x. not (is_suspect t w x)) (shown t) j k (rw h)))

        other : is_suspect t w j ≡ false → Reached t i
        other h =
            let v : shown t j k ≡ suc i = sym (unmasked (λ x. not (is_suspect t w x)) (shown t) j k (rw h)) ∙ e in
            ⊎_elim (λ u. onward (other_reached j m u h) l (points_by t j i k b (sym (shown_used t j k u) ∙ v)))
            (λ u. absurd (omega (arith, shown_free t j k u))) (tested (in_use t j))

    supported_reached : (i : ℕ) → i < c → is_supported t w i ≡ true → Reached t i
    unfolding is_supported
    supported_reached i l h = ⊎_elim (reached_is t i).0 (λ e. absurd (unreachable e)) (tested (reached t i))
      where
        s : Suspect t w i
        s = (suspect_is t w i).0 (and_first (is_suspect t w i) (ltb (pointers_out t (suspects t w) (suc i)) (word_at t i cell_count)) h)

        unreachable : reached t i ≡ false → ⊥
        unreachable e = omega (
          arith,
          suspect_count s,
          ltb-true (pointers_out t (suspects t w) (suc i)) (word_at t i cell_count)
              (and_second (is_suspect t w i) (ltb (pointers_out t (suspects t w) (suc i)) (word_at t i cell_count)) h),
          seen_none c others (suc i) (λ j k m b d. not_both ((reached_is t i).1 (others_reached i j k l m b d)) e),
        )

    -- and a suspect that is kept is reached
    kept_reached : {i : ℕ} → Kept i → Reached t i
    unfolding leads_on
    kept_reached (begun {i = i} l e) = supported_reached i l e
    kept_reached (onward {j = j} {i = i} r l e) = onward (kept_reached r) l (and_first (points_to t j i) (not (is_root t i)) e)

    same_test : (i : ℕ) → i < c → is_suspect t w i && not (is_kept t w i) ≡ in_use t i && not (reached t i)
    same_test i l = ⊎_elim suspect other (tested (is_suspect t w i))
      where
        suspect : is_suspect t w i ≡ true → is_suspect t w i && not (is_kept t w i) ≡ in_use t i && not (reached t i)
        suspect e =
            let s = (suspect_is t w i).0 e in
            rw (e, (suspect_used s).1) (⊎_elim (λ (r : reached t i ≡ true). rw (r, (kept_is t w i).1 (reached_kept ((reached_is t i).0 r) s)))
            (λ (r : reached t i ≡ false). rw r (⊎_elim (λ k. absurd (not_both ((reached_is t i).1 (kept_reached ((kept_is t w i).0 k))) r))
            (λ (k : is_kept t w i ≡ false). rw k) (tested (is_kept t w i)))) (tested (reached t i)))

        other : is_suspect t w i ≡ false → is_suspect t w i && not (is_kept t w i) ≡ in_use t i && not (reached t i)
        other e =
            rw e (⊎_elim (λ (u : in_use t i ≡ true). rw (u, (reached_is t i).1 (other_reached i l u e))) (λ (u : in_use t i ≡ false). rw u) (tested (in_use t i)))

    pub local_unreached : local_dead t w ≡ unreached t
    unfolding local_dead unreached
    local_unreached = select_same c (λ i. is_suspect t w i && not (is_kept t w i)) (λ i. in_use t i && not (reached t i)) same_test
