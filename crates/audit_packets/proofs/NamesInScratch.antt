-- S3's name counts: the names counted in the scratch, and what the code tests of them.
use mathlib.Core.Path.{◌≡◌, refl, ap, ◌∙◌}
use mathlib.Core.List.{List, [], ◌∷◌}
use Prim.Native.Nat.{ℕ, suc, ◌+◌, ◌%◌, ◌≤◌}
use native.Mathlib.Numerals.{add-one}
use native.Mathlib.Omega.{arith}
use lib.Dec.{eqb}
use lib.ListN.{length, get_or, drop}
use Rattle.machine.specs.declared.Queue.{Queue}
use Rattle.machine.specs.Audit.{names_counted}
use Rattle.machine.specs.Packets.{Kind, reads, makes, replaces, raises, lowers, unknown, kind_of, names_of, names, times_named}
use Rattle.machine.specs.Queue.{Packet, slots, slot, packets_from, waiting}
use Rattle.machine.specs.Range.{every, matching, occurrences}
use Rattle.machine.specs.Step.{cleared}
use Rattle.machine.specs.Table.{name_count, capacity, scratch_words, word_at}
use Rattle.machine.proofs.Names.{times_append, times_most}
use Rattle.machine.proofs.Range.{matching_other}
use Rattle.machine.proofs.Ring.{packets_snoc, length_packets}
use Rattle.machine.proofs.Scratch.{cleared_zero, past_cleared}
use Rattle.counts.specs.Names.{three_of}
use Rattle.marks.proofs.Scratch.{cell_word}
use Rattle.scratch_counts.specs.Counts.{CountUp, Below, count_matches}
use Rattle.audit_cells.proofs.Tests.{every_same}
use Rattle.audit_packets.specs.Packets.{packet_on, oldest}
use Rattle.audit_packets.specs.Names.{most_names, CountPacket, NamesCount}

nil_other : (i : ℕ) → matching 0 (suc i) 1 ≡ 0
nil_other i = matching_other 0 (suc i) 1 (λ e. omega arith)

-- nil in the place of a name that a packet lacks counts for no cell
three_occur : (k : Kind) (a b c i : ℕ) → occurrences (suc i) (three_of k a b c) ≡ occurrences (suc i) (names_of k a b c)
unfolding three_of names_of occurrences
three_occur reads a b c i = refl
three_occur makes a b c i = refl
three_occur (replaces f) a b c i = refl
three_occur raises a b c i = omega (arith, nil_other i)
three_occur lowers a b c i = omega (arith, nil_other i)
three_occur unknown a b c i = omega (arith, nil_other i)

three_counted : (x y z n : ℕ) → matching x n 1 + matching y n 1 + matching z n 1 ≡ occurrences n (x ∷ y ∷ z ∷ [])
unfolding occurrences
three_counted x y z n = omega arith

-- three words counted, one after another
pub packet_counted : (c : ℕ) (p : Packet) (x y z : ℕ) → x ∷ y ∷ z ∷ [] ≡ three_of (kind_of p.kind) p.a p.b p.c → (s s₁ s₂ s₃ : List ℕ)
    → CountUp c x s s₁ → CountUp c y s₁ s₂ → CountUp c z s₂ s₃ → CountPacket c p s s₃
unfolding names
packet_counted c p x y z e s s₁ s₂ s₃ f g h = record {
  each = λ i l. omega (arith, f.each i l, g.each i l, h.each i l, three_counted x y z (suc i), places i);
  past = h.past ∙ g.past ∙ f.past;
}
  where
    places : (i : ℕ) → occurrences (suc i) (x ∷ y ∷ z ∷ []) ≡ occurrences (suc i) (names_of (kind_of p.kind) p.a p.b p.c)
    places i = ap (occurrences (suc i)) e ∙ three_occur (kind_of p.kind) p.a p.b p.c i

-- the names of the oldest n packets counted, from the scratch s₀ that was cleared
pub record Counting (c : ℕ) (q : Queue) (n : ℕ) (s₀ s : List ℕ) : Type 0 where
  pub counts : NamesCount c (oldest q n) s₀ s
  pub same : length s ≡ length s₀

module _ (c : ℕ) (q : Queue) where
  pub counting_none : (r s : List ℕ) → s ≡ cleared (scratch_words c) r → Counting c q 0 s s
  unfolding oldest packets_from times_named
  counting_none r s h = record {
    counts = record {
      each = λ i l. ap (λ (z : List ℕ). get_or z i 0) h ∙ cleared_zero (scratch_words c) r i (cell_word c i l);
      past = refl;
    };
    same = refl;
  }

  times_more : (n x : ℕ) → times_named (oldest q (n + 1)) x ≡ times_named (oldest q n) x + occurrences x (names (packet_on q n))
  unfolding times_named oldest packet_on
  times_more n x =
      rw (add-one n, packets_snoc q q.place n) (omega (arith, times_append (packets_from q q.place n) (slot q ((q.place + n) % slots) ∷ []) x))

  pub counting_more : (n : ℕ) (p : Packet) (s₀ s s' : List ℕ) → p ≡ packet_on q n → Counting c q n s₀ s → CountPacket c p s s' → length s' ≡ length s
      → Counting c q (n + 1) s₀ s'
  counting_more n p s₀ s s' e h k m = record {
    counts = record {
      each = λ i l. omega (arith, h.counts.each i l, k.each i l, times_more n (suc i), ap (λ (r : Packet). occurrences (suc i) (names r)) e);
      past = k.past ∙ h.counts.past;
    };
    same = m ∙ h.same;
  }

  pub counting_below : (n : ℕ) (s₀ s : List ℕ) → Counting c q n s₀ s → n ≤ slots → Below c most_names s
  unfolding oldest
  counting_below n s₀ s h l i b = omega (arith, h.counts.each i b, times_most (oldest q n) (suc i), length_packets q q.place n)

  pub counting_done : (n : ℕ) (r s₀ s : List ℕ) → Counting c q n s₀ s → n ≡ q.count → s₀ ≡ cleared (scratch_words c) r → NamesCount c (waiting q) r s
  unfolding oldest waiting
  counting_done n r s₀ s h e k = record {
    each = λ i l. (rw e at (h.counts.each i l));
    past = h.counts.past ∙ ap (drop (scratch_words c)) k ∙ past_cleared (scratch_words c) r;
  }

-- the name counts are the scratch's counts just where the rule holds
pub matched_counted : (t : List ℕ) (ps : List Packet) (s s' : List ℕ) (c : ℕ) → c ≡ capacity t → NamesCount c ps s s'
    → every (capacity t) (count_matches name_count t s') ≡ names_counted t ps
unfolding names_counted count_matches
matched_counted t ps s s' c e h =
    every_same (capacity t) (count_matches name_count t s') (λ i. eqb (word_at t i name_count) (times_named ps (suc i)))
    (λ i l. ap (eqb (word_at t i name_count)) (h.each i (omega arith)))

pub names_past : (t : List ℕ) (ps : List Packet) (s s' : List ℕ) (c : ℕ) → c ≡ capacity t → NamesCount c ps s s'
    → drop (scratch_words (capacity t)) s' ≡ drop (scratch_words (capacity t)) s
names_past t ps s s' c e h = rw (← e) h.past
