-- The local way tells the dead cells of a step: what was reached before the packet is applied is still reached, or hangs on the watched word.
use mathlib.Core.Path.{◌≡◌, sym, ◌∙◌}
use mathlib.Core.Logic.{◌⊎◌, inl, inr, ⊎_elim}
use mathlib.Core.Bool.{true, false}
use mathlib.Core.List.{List, [], ◌∷◌}
use Prim.Native.Nat.{ℕ, suc, ◌<◌}
use borrow.Author.Tests.{eq-eqb}
use Rattle.machine.specs.Table.{capacity, in_use}
use Rattle.machine.specs.Queue.{Packet}
use Rattle.machine.specs.Packets.{Kind, reads, makes, replaces, raises, lowers, unknown, kind_of, names_of, names, contains}
use Rattle.machine.specs.Reached.{is_root, points_to, begun, onward, Reached}
use Rattle.machine.specs.Step.{apply_packet, unreached}
use Rattle.machine.specs.ShortWay.{watched_of, watched}
use Rattle.machine.specs.Suspects.{is_lost, leads_on, Suspect, local_dead, LocalWay}
use Rattle.machine.proofs.Range.{tested, and_both}
use Rattle.machine.proofs.RootsByCell.{Counted, sound_counted, root_is}
use Rattle.soundness.proofs.LegalPackets.{Fit, fit_nil, fit_grows, first_of, second_of, third_of}
use Rattle.soundness.proofs.Facts.{Facts, Live, sound_facts, sound_live}
use Rattle.soundness.proofs.NameCounts.{packet_capacity, packet_use, packet_facts, packet_counted}
use Rattle.soundness.proofs.WhatWasReached.{reached_before}
use Rattle.soundness.proofs.SuspectCells.{local_unreached}

module _ (t : List ℕ) (p : Packet) (ps : List Packet) (f : Facts t (p ∷ ps)) (n : Counted t (p ∷ ps)) (live : Live t (p ∷ ps)) where
  abbrev u : List ℕ
  u = apply_packet t p

  counted : Counted u ps
  counted = packet_counted t p ps f n

  -- the watched word is nil or named, so fit
  watched_fit : Fit u (watched p)
  unfolding watched names watched_of names_of
  watched_fit =
      fit_grows t u (watched p) (packet_capacity t p ps f) (λ i _ e. packet_use t p ps f i ∙ e)
      (go (kind_of p.kind) p.a p.b p.c f.legal.0.names)
    where
      go : (k : Kind) (a b c : ℕ) → ((w : ℕ) → contains (names_of k a b c) w ≡ true → Fit t w) → Fit t (watched_of k a b c)
      go reads a b c g = g a (first_of a (b ∷ c ∷ []))
      go makes a b c g = g c (third_of a b c)
      go (replaces k) a b c g = g b (second_of a b (c ∷ []))
      go raises a b c g = fit_nil t
      go lowers a b c g = g a (first_of a [])
      go unknown a b c g = fit_nil t

  -- still reached, or a suspect
  abbrev Found : ℕ → Type 0
  Found i = Reached u i ⊎ Suspect u (watched p) i

  edges : (j i : ℕ) → Found j → i < capacity u → points_to u j i ≡ true → Found i
  unfolding leads_on
  edges j i (inl r) l e = inl (onward r l e)
  edges j i (inr s) l e = ⊎_elim (λ h. inl (begun l h)) (λ (h : is_root u i ≡ false). inr (onward s l (and_both e (rw h)))) (tested (is_root u i))

  met : (i : ℕ) → i < capacity u → watched p ≡ suc i → Found i
  unfolding is_lost
  met i l e =
      ⊎_elim (λ h. inl (begun l h)) (λ (h : is_root u i ≡ false). inr (begun l (and_both (eq-eqb (watched p) (suc i) e) (rw h)))) (tested (is_root u i))

  found : (i : ℕ) → i < capacity u → in_use u i ≡ true → Found i
  found i l e =
      reached_before t p ps f Found (λ j m r. inl (begun m (root_is u ps counted j m ∙ r))) edges met
      (live i (rw (packet_capacity t p ps f) at l) (sym (packet_use t p ps f i) ∙ e))

  dead_local : local_dead u (watched p) ≡ unreached u
  dead_local = local_unreached u ps (packet_facts t p ps f) counted (watched p) watched_fit found

pub local_way : LocalWay
local_way t q p ps s e = dead_local t p ps (rw e at (sound_facts t q s)) (rw e at (sound_counted t q s)) (rw e at (sound_live t q s))
