-- The plain facts that a sound store gives, drawn from question 1 and S1 to S5 once, and back.
use mathlib.Core.Path.{◌≡◌, refl, sym, ap, ◌∙◌}
use mathlib.Core.Logic.{⊎_elim}
use mathlib.Core.Bool.{Bool, true, false, ◌&&◌, ◌||◌}
use mathlib.Core.List.{List, [], ◌∷◌, map}
use Prim.Native.Nat.{ℕ, zero, suc, ◌≤◌, ◌<◌}
use native.Mathlib.Omega.{arith}
use lib.Dec.{eqb, leb}
use lib.ListN.{length}
use borrow.Author.Tests.{leb-true, le-leb, eqb-true, eq-eqb}
use Rattle.machine.specs.declared.Queue.{Queue}
use Rattle.machine.specs.Range.{every, last_of}
use Rattle.machine.specs.Words.{ceiling, most_cells}
use Rattle.machine.specs.Table.{stride, left, right, root_count, cell_count, state, capacity, first_free, last_free, table_length, word_at, in_use, is_free}
use Rattle.machine.specs.Queue.{Packet, waiting}
use Rattle.machine.specs.Packets.{is_named}
use Rattle.machine.specs.Counts.{pointers}
use Rattle.machine.specs.Reached.{ReachedByQueue, reached}
use Rattle.machine.specs.Audit.{field_sound, cell_sound, cells_sound, other_slots_zero, packets_legal, replays, names_counted, packets_sound, before, undoes, pointers_sound, all_reached, Sound}
use Rattle.machine.specs.Facts.{TableShape, QueueShape, Linked, Chain}
use Rattle.machine.proofs.Range.{tested, or_true, or_left, or_right, and_both, and_first, and_second, not_both, every_at, every_all}
use Rattle.machine.proofs.Table.{free_not_in_use, not_in_use_free}
use Rattle.machine.proofs.Lists.{Indices}
use Rattle.machine.proofs.Chain.{linked_indices, chain_is}
use Rattle.machine.proofs.Reached.{reached_is}
use Rattle.machine.proofs.Questions.{shape_is, shape_test}
use Rattle.machine.proofs.RootsByCell.{Counted, counted_test, sound_counted, by_queue, by_cell}
use Rattle.soundness.proofs.Views.{shown, seen, seen_same, earlier, All, WrittenBelow, all_map, StagesOf, pointers_seen}
use Rattle.soundness.proofs.LegalPackets.{Fit, field_fit, fit_field, LegalPacket, packets_legal_lem, legal_packets, legal_below, named_fit}
use Rattle.soundness.proofs.Stages.{before_shown, before_capacity, undoes_stages, stages_undoes}

-- what S1 to S4 say of a table with the packets ps waiting, but for its name counts (RootsByCell.Counted)
pub record Facts (t : List ℕ) (ps : List Packet) : Type 0 where
  pub some : 1 ≤ capacity t
  pub most : capacity t ≤ most_cells
  pub room : table_length (capacity t) ≤ length t
  pub states : (i : ℕ) → i < capacity t → word_at t i state ≤ 1
  pub roots : (i : ℕ) → i < capacity t → word_at t i root_count ≤ ceiling
  pub cells : (i : ℕ) → i < capacity t → word_at t i cell_count ≤ ceiling
  pub fields : (i k : ℕ) → i < capacity t → k ≤ right → in_use t i ≡ true → Fit t (word_at t i k)
  pub free : List ℕ
  pub chain : Chain t free
  pub legal : All (LegalPacket t) ps
  pub replay : (i : ℕ) → i < capacity t → replays (suc i) (word_at t i root_count) ps ≡ true
  pub stages : StagesOf (capacity t) (shown t) ps
  pub counts : (i : ℕ) → i < capacity t → word_at t i cell_count ≡ seen (capacity t) (earlier (shown t) ps) (suc i)

-- S5, by the queue: a call writes fields before it names its packet's cells
abbrev pub Live : List ℕ → List Packet → Type 0
Live t ps = (i : ℕ) → i < capacity t → in_use t i ≡ true → ReachedByQueue t ps i

-- S1 at one cell
record CellFacts (t : List ℕ) (i : ℕ) : Type 0 where
  state : word_at t i state ≤ 1
  roots : word_at t i root_count ≤ ceiling
  cells : word_at t i cell_count ≤ ceiling
  fields : (k : ℕ) → k ≤ right → in_use t i ≡ true → Fit t (word_at t i k)

each_field : (P : ℕ → Type 0) → P left → P right → (k : ℕ) → k ≤ right → P k
each_field P a b zero l = a
each_field P a b (suc zero) l = b
each_field P a b (suc (suc k)) l = absurd (omega arith)

cell_facts : (t : List ℕ) (i : ℕ) → capacity t ≤ most_cells → cell_sound t i ≡ true → CellFacts t i
unfolding cell_sound
cell_facts t i m h =
    let s = leb (word_at t i state) 1 in
    let r = leb (word_at t i root_count) ceiling in
    let n = leb (word_at t i cell_count) ceiling in
    let f = is_free t i || (field_sound t (word_at t i left) && field_sound t (word_at t i right)) in
    let h₃ = and_first (s && r && n) f h in
    let h₂ = and_first (s && r) n h₃ in
    record {
      state = leb-true (word_at t i state) 1 (and_first s r h₂);
      roots = leb-true (word_at t i root_count) ceiling (and_second s r h₂);
      cells = leb-true (word_at t i cell_count) ceiling (and_second (s && r) n h₃);
      fields = λ k l u. fields (and_second (s && r && n) f h) u k l;
    }
  where
    fields : is_free t i || (field_sound t (word_at t i left) && field_sound t (word_at t i right)) ≡ true → in_use t i ≡ true → (k : ℕ) → k ≤ right → Fit t (word_at t i k)
    fields o u =
        let both : field_sound t (word_at t i left) && field_sound t (word_at t i right) ≡ true =
        ⊎_elim (λ e. absurd (not_both u (free_not_in_use t i e))) (λ e. e)
        (or_true (is_free t i) (field_sound t (word_at t i left) && field_sound t (word_at t i right)) o) in
        each_field (λ k. Fit t (word_at t i k))
        (field_fit t (word_at t i left) m (and_first (field_sound t (word_at t i left)) (field_sound t (word_at t i right)) both))
        (field_fit t (word_at t i right) m (and_second (field_sound t (word_at t i left)) (field_sound t (word_at t i right)) both))

facts_cell : (t : List ℕ) (i : ℕ) → CellFacts t i → cell_sound t i ≡ true
unfolding cell_sound
facts_cell t i c =
    and_both (and_both (and_both (le-leb (word_at t i state) 1 c.state) (le-leb (word_at t i root_count) ceiling c.roots))
    (le-leb (word_at t i cell_count) ceiling c.cells))
    (⊎_elim (λ u. or_right (is_free t i) (and_both (fit_field t (word_at t i left) (c.fields left (omega arith) u))
    (fit_field t (word_at t i right) (c.fields right (omega arith) u))))
    (λ u. or_left (field_sound t (word_at t i left) && field_sound t (word_at t i right)) (not_in_use_free t i u)) (tested (in_use t i)))

module _ (t : List ℕ) (q : Queue) (s : Sound t q) where
  abbrev shape : TableShape t
  shape = (shape_is t q s.shape).table

  abbrev slots_zero : Bool
  slots_zero = other_slots_zero q

  abbrev all_legal : Bool
  all_legal = packets_legal t (waiting q)

  abbrev all_replay : Bool
  all_replay = every (capacity t) (λ i. replays (suc i) (word_at t i root_count) (waiting q))

  packet_tests : slots_zero && all_legal && all_replay ≡ true
  unfolding packets_sound
  packet_tests = and_first (slots_zero && all_legal && all_replay) (names_counted t (waiting q)) s.packets

  sound_slots : other_slots_zero q ≡ true
  sound_slots = and_first slots_zero all_legal (and_first (slots_zero && all_legal) all_replay packet_tests)

  legal_all : All (LegalPacket t) (waiting q)
  legal_all = packets_legal_lem t (waiting q) shape.most (and_second slots_zero all_legal (and_first (slots_zero && all_legal) all_replay packet_tests))

  cell_at : (i : ℕ) → i < capacity t → CellFacts t i
  unfolding cells_sound
  cell_at i l = cell_facts t i shape.most (every_at (capacity t) (cell_sound t) s.cells i l)

  counted : (i : ℕ) → i < capacity t → word_at t i cell_count ≡ pointers (before t (waiting q)) (suc i)
  unfolding pointers_sound
  counted i l =
      eqb-true (word_at t i cell_count) (pointers (before t (waiting q)) (suc i))
      (every_at (capacity t) (λ j. eqb (word_at t j cell_count) (pointers (before t (waiting q)) (suc j)))
      (and_second (undoes t (waiting q)) (every (capacity t) (λ j. eqb (word_at t j cell_count) (pointers (before t (waiting q)) (suc j)))) s.pointed) i l)

  undoes_all : undoes t (waiting q) ≡ true
  unfolding pointers_sound
  undoes_all = and_first (undoes t (waiting q)) (every (capacity t) (λ j. eqb (word_at t j cell_count) (pointers (before t (waiting q)) (suc j)))) s.pointed

  pub sound_facts : Facts t (waiting q)
  sound_facts = record {
    some = shape.some;
    most = shape.most;
    room = shape.room;
    states = λ i l. (cell_at i l).state;
    roots = λ i l. (cell_at i l).roots;
    cells = λ i l. (cell_at i l).cells;
    fields = λ i k l. (cell_at i l).fields k;
    free = ((chain_is t).0 s.chain).0;
    chain = ((chain_is t).0 s.chain).1;
    legal = legal_all;
    replay = every_at (capacity t) (λ i. replays (suc i) (word_at t i root_count) (waiting q)) (and_second (slots_zero && all_legal) all_replay packet_tests);
    stages = undoes_stages t shape.room (waiting q) legal_all undoes_all;
    counts = λ i l. counted i l ∙ pointers_seen (before t (waiting q)) i
        ∙ ap (λ (c : ℕ). seen c (shown (before t (waiting q))) (suc i)) (before_capacity t shape.room (waiting q) legal_all)
        ∙ seen_same (capacity t) (shown (before t (waiting q))) (earlier (shown t) (waiting q)) (suc i) (before_shown t shape.room (waiting q) legal_all);
  }

  pub sound_live : Live t (waiting q)
  unfolding all_reached
  sound_live i l u =
      by_queue t (waiting q) (sound_counted t q s) ((reached_is t i).0
      (⊎_elim (λ e. absurd (not_both u (free_not_in_use t i e))) (λ e. e)
      (or_true (is_free t i) (reached t i) (every_at (capacity t) (λ j. is_free t j || reached t j) s.live i l))))

-- the ends lie within the cells
last_below : (c : ℕ) (is : List ℕ) → Indices c is → last_of (map suc is) ≤ c
unfolding last_of
last_below c [] p = omega arith
last_below c (i ∷ []) p = p.0
last_below c (i ∷ j ∷ is) p = last_below c (j ∷ is) p.1

first_within : (t : List ℕ) (is : List ℕ) → Chain t is → first_free t ≤ capacity t
first_within t is h = go is h.linked
  where
    go : (is : List ℕ) → Linked t (first_free t) is → first_free t ≤ capacity t
    go [] l = omega arith
    go (i ∷ is) l = let e = l.0 in let m = l.1 in omega arith

pub last_within : (t : List ℕ) (is : List ℕ) → Chain t is → last_free t ≤ capacity t
last_within t is h = rw (← h.ends) (last_below (capacity t) is (linked_indices t (first_free t) is h.linked))

-- what is said of the queue alone
pub record Slots (q : Queue) : Type 0 where
  pub shape : QueueShape q
  pub others : other_slots_zero q ≡ true

pub slots_of : (t : List ℕ) (q : Queue) → Sound t q → Slots q
slots_of t q s =
    record { shape = (shape_is t q s.shape).queue; others = sound_slots t q s }

pub facts_sound : (t : List ℕ) (q : Queue) → Slots q → Facts t (waiting q) → Counted t (waiting q) → Live t (waiting q) → Sound t q
unfolding cells_sound packets_sound pointers_sound all_reached
facts_sound t q n f d l = record {
  shape = shape_test t q (record {
    table = record {
      some = f.some;
      most = f.most;
      first = first_within t f.free f.chain;
      last = last_within t f.free f.chain;
      room = f.room;
    };
    queue = n.shape;
  });
  cells = every_all (capacity t) (cell_sound t)
      (λ i m. facts_cell t i (record { state = f.states i m; roots = f.roots i m; cells = f.cells i m; fields = λ k. f.fields i k m }));
  chain = (chain_is t).1 (f.free, f.chain);
  packets = and_both (and_both (and_both n.others (legal_packets t (waiting q) f.legal))
      (every_all (capacity t) (λ i. replays (suc i) (word_at t i root_count) (waiting q)) f.replay)) (counted_test t (waiting q) d);
  pointed = and_both (stages_undoes t f.room (waiting q) f.legal f.stages)
      (every_all (capacity t) (λ j. eqb (word_at t j cell_count) (pointers (before t (waiting q)) (suc j)))
      (λ i m. eq-eqb (word_at t i cell_count) (pointers (before t (waiting q)) (suc i))
      (f.counts i m
      ∙ sym (seen_same (capacity t) (shown (before t (waiting q))) (earlier (shown t) (waiting q)) (suc i) (before_shown t f.room (waiting q) f.legal))
      ∙ sym (ap (λ (c : ℕ). seen c (shown (before t (waiting q))) (suc i)) (before_capacity t f.room (waiting q) f.legal))
      ∙ sym (pointers_seen (before t (waiting q)) i))));
  live = every_all (capacity t) (λ i. is_free t i || reached t i) (λ i m.
      ⊎_elim (λ u. or_right (is_free t i) ((reached_is t i).1 (by_cell t (waiting q) d (l i m u)))) (λ u. or_left (reached t i) (not_in_use_free t i u))
      (tested (in_use t i)));
}

-- all packets write to fields of cells
pub all_below : (t : List ℕ) (ps : List Packet) → Facts t ps → All (WrittenBelow (capacity t)) ps
all_below t ps f = all_map (LegalPacket t) (WrittenBelow (capacity t)) ps (legal_below t) f.legal

-- a cell that is not free: a root count above 0, or named by a waiting packet
module _ (t : List ℕ) (ps : List Packet) (f : Facts t ps) where
  pub free_zero : (i k : ℕ) → i < capacity t → in_use t i ≡ false → right ≤ k → k < stride → word_at t i k ≡ 0
  free_zero i k l u low high = f.chain.wiped i k l (not_in_use_free t i u) low high

  pub held_used : (i : ℕ) → i < capacity t → 0 < word_at t i root_count → in_use t i ≡ true
  held_used i l h = ⊎_elim (λ u. u) (λ u. absurd (omega (arith, free_zero i root_count l u (omega arith) (omega arith)))) (tested (in_use t i))

  pub named_used : (i : ℕ) → i < capacity t → is_named ps (suc i) ≡ true → in_use t i ≡ true
  named_used i l n = (named_fit t ps f.legal (suc i) n).used i l refl

  pub free_unnamed : (i : ℕ) → i < capacity t → in_use t i ≡ false → is_named ps (suc i) ≡ false
  free_unnamed i l u = ⊎_elim (λ n. absurd (not_both (named_used i l n) u)) (λ n. n) (tested (is_named ps (suc i)))
