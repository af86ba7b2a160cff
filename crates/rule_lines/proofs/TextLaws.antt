-- A line's text on a clean store: what reading it gives, and what is then written of its word.
use mathlib.Core.Path.{◌≡◌, refl, sym, ap, ◌∙◌}
use mathlib.Core.Bool.{Bool, true, false, cond, not}
use mathlib.Core.List.{List, []}
use Prim.Native.Nat.{ℕ, suc, pred, ◌+◌, ◌≤◌}
use native.Mathlib.Omega.{arith}
use lib.Dec.{leb}
use lib.ListN.{length}
use borrow.Author.Tests.{leb-true, le-leb}
use Rattle.notation.specs.Trees.{Tree, pairs}
use Rattle.notation.specs.Grammar.{most_text}
use Rattle.notation.specs.Parse.{parse, Parsed, tree, none, is_tree, meaning}
use Rattle.notation.specs.Print.{print}
use Rattle.notation.specs.Brackets.{too_deep, nothing}
use Rattle.notation.proofs.Theorems.{values_read, print_shallow}
use Rattle.machine.specs.declared.Queue.{Queue}
use Rattle.machine.specs.Range.{every_of}
use Rattle.machine.specs.Words.{is_cell, is_legal}
use Rattle.machine.specs.Table.{root_count, capacity, word_at, is_free}
use Rattle.machine.specs.Queue.{waiting}
use Rattle.machine.specs.Packets.{root, plus, minus, waiting_change}
use Rattle.machine.specs.Counts.{held_at_least}
use Rattle.machine.specs.Calls.{read, write, Reply, value, refused, text, Store, store}
use Rattle.machine.specs.Step.{Outcome}
use Rattle.machine.specs.Texts.{build_by, text_for}
use Rattle.machine.specs.Questions.{refused_by, first_no, in_notation, not_too_deep, text_storable, text_pairs, slots_empty, cells_free, words_legal, word_held, met, early, late, questions}
use Rattle.machine.specs.Machine.{consed, text_read, accepted, machine}
use Rattle.machine.specs.Promise.{Promise}
use Rattle.machine.proofs.Range.{and_first, and_second, total_same, total_ones, matching_same}
use Rattle.machine.proofs.Select.{select_length}
use Rattle.machine.proofs.Words.{cell_index, cell_number_lem}
use Rattle.machine.proofs.Table.{not_in_use_free}
use Rattle.machine.proofs.Questions.{first_no_zero}
use Rattle.machine.proofs.Kept.{machine_accepted, machine_refused, gives_machine}
use Rattle.machine.proofs.TextLaws.{printed_whole}
use Rattle.soundness.specs.Demand3.{holds}
use Rattle.soundness.proofs.BuiltCells.{free_cells}
use Rattle.soundness.proofs.CallSound.{decided, text_built}
use Rattle.soundness.proofs.RootsAreHolds.{read_agrees}
use Rattle.rule_lines.specs.Answers.{store_cells, no, answer_of, most_answer}
use Rattle.rule_lines.specs.Stores.{Clean, Holding, ReadBack, Reads}
use Rattle.rule_lines.proofs.TextSize.{print_length, met_nothing}
use Rattle.rule_lines.proofs.StoreLaws.{clean_agrees}

-- all cells of a clean store are free
clean_cells : {t : List ℕ} {q : Queue} {scratch : List ℕ} → Clean t q scratch → free_cells t ≡ store_cells
clean_cells {t} c =
    select_length (capacity t) (is_free t)
    ∙ total_same (capacity t) (λ i. cond (is_free t i) 1 0) (λ i. 1) (λ i l. ap (λ (b : Bool). cond b 1 0) (not_in_use_free t i (c.free i l)))
    ∙ total_ones (capacity t)
    ∙ c.size

-- so question 8 never says "no" where 7 does not
pub clean_asked : {t : List ℕ} {q : Queue} {scratch : List ℕ} → Clean t q scratch → (line : List ℕ)
    → first_no (questions (store t q []) (read line))
    ≡ refused_by (in_notation line) 11 (refused_by (not_too_deep line) 12 (refused_by (text_storable line) 14 (refused_by (leb (text_pairs line) store_cells) 7 0)))
unfolding first_no questions early late slots_empty cells_free
clean_asked {t} {q} c line =
    let slot : q.count + text_pairs line ≡ text_pairs line = omega (arith, c.idle) in
    rw (c.whole.sound.shape, slot, clean_cells c)
    (ap (λ (n : ℕ). refused_by (in_notation line) 11 (refused_by (not_too_deep line) 12 (refused_by (text_storable line) 14 n))) (once (leb (text_pairs line) store_cells)))
  where
    once : (b : Bool) → refused_by b 7 (refused_by b 8 0) ≡ refused_by b 7 0
    once true = refl
    once false = refl

-- a text in the notation means a tree
means : (line : List ℕ) → in_notation line ≡ true → parse line ≡ tree (meaning (parse line))
unfolding in_notation
means line h = go (parse line) (and_second (leb (length line) most_text) (is_tree (parse line)) h)
  where
    go : (r : Parsed) → is_tree r ≡ true → r ≡ tree (meaning r)
    go (tree t) e = refl
    go none e = absurd (let z : ◌≡◌ {A = ℕ} 0 1 = cc in omega arith)

shallow : (line : List ℕ) → not_too_deep line ≡ true → too_deep 0 line ≡ false
unfolding not_too_deep
shallow line h = go (too_deep 0 line) h
  where
    go : (b : Bool) → not b ≡ true → b ≡ false
    go false e = refl
    go true e = absurd (let z : ◌≡◌ {A = ℕ} 0 1 = cc in omega arith)

module _ {t : List ℕ} {q : Queue} {scratch : List ℕ} (c : Clean t q scratch) (line : List ℕ) where
  abbrev s : Store
  s = store t q []

  abbrev means_tree : Tree
  means_tree = meaning (parse line)

  module _ {r : Reply} {t' : List ℕ} {q' : Queue} (p : Promise s (read line) r (store t' q' [])) where
    given : (r ≡ (machine s (read line)).reply) × (store t' q' [] ≡ (machine s (read line)).after)
    given = gives_machine s (read line) r (store t' q' []) (p.exact (decided s (read line) c.whole.sound))

    refuses : (n : ℕ) → first_no (questions s (read line)) ≡ suc n → answer_of line ≡ no (suc n) → Reads line t q scratch r t' q'
    refuses n e a =
        let m = machine_refused s (read line) n e in
        let er : r ≡ refused (suc n) = given.0 ∙ ap (λ (o : Outcome). o.reply) m in
        let es : store t' q' [] ≡ s = given.1 ∙ ap (λ (o : Outcome). o.after) m in
        rw er (a, ap (λ (x : Store). x.table) es, ap (λ (x : Store). x.queue) es)

    accepts : first_no (questions s (read line)) ≡ 0 → in_notation line ≡ true → not_too_deep line ≡ true → text_storable line ≡ true
        → leb (text_pairs line) store_cells ≡ true → Reads line t q scratch r t' q'
    unfolding accepted text_read text_pairs words_legal every_of answer_of
    accepts e a d v n =
        let m = machine_accepted s (read line) e in
        let b = build_by consed s means_tree in
        let k = (text_built s line c.whole e).1 in
        let g = read_agrees s line (λ x. holds 0 0) (clean_agrees c) e in
        let is = means line a in
        let size : capacity b.after.table ≡ store_cells = k.stands.same_capacity ∙ c.size in
        let er : r ≡ value b.word = given.0 ∙ ap (λ (o : Outcome). o.reply) m in
        let et : t' ≡ b.after.table = ap (λ (x : Store). x.table) given.1 ∙ ap (λ (o : Outcome). o.after.table) m in
        let eq : q' ≡ b.after.queue = ap (λ (x : Store). x.queue) given.1 ∙ ap (λ (o : Outcome). o.after.queue) m in
        rw (er, et, eq) (record {
          holding = record {
            whole = g.whole;
            size = size;
            lent = c.lent;
            legal = rw size at (and_first (is_legal (capacity b.after.table) b.word) true k.ready.legal);
            once = λ i l. omega (arith, g.roots i l);
          };
          waits = omega (arith, k.count, c.idle);
          opens = k.opens;
          answer = rw (a, d, v, n);
          shallow = print_shallow line means_tree is (shallow line d);
          fits = omega (arith, print_length means_tree (values_read line means_tree is), leb-true (pairs means_tree) store_cells n);
        })

    -- what reading a line gives
    pub clean_reads : Reads line t q scratch r t' q'
    unfolding answer_of
    clean_reads = go (in_notation line) (not_too_deep line) (text_storable line) (leb (text_pairs line) store_cells) refl refl refl refl (clean_asked c line)
      where
        go : (a d v n : Bool) → in_notation line ≡ a → not_too_deep line ≡ d → text_storable line ≡ v → leb (text_pairs line) store_cells ≡ n
            → first_no (questions s (read line))
            ≡ refused_by (in_notation line) 11 (refused_by (not_too_deep line) 12 (refused_by (text_storable line) 14 (refused_by (leb (text_pairs line) store_cells) 7 0)))
            → Reads line t q scratch r t' q'
        go false d v n ea ed ev en e = refuses 10 (rw ea at e) (rw ea)
        go true false v n ea ed ev en e = refuses 11 (rw (ea, ed) at e) (rw (ea, ed))
        go true true false n ea ed ev en e = refuses 13 (rw (ea, ed, ev) at e) (rw (ea, ed, ev))
        go true true true false ea ed ev en e = refuses 6 (rw (ea, ed, ev, en) at e) (rw (ea, ed, ev, en))
        go true true true true ea ed ev en e = accepts (rw (ea, ed, ev, en) at e) ea ed ev en

-- what is then written, into so much room
module _ {line : List ℕ} {w : ℕ} {t : List ℕ} {q : Queue} {scratch : List ℕ} (b : ReadBack line w t q scratch) (room : ℕ) (enough : most_answer ≤ room) where
  abbrev h : Holding w t q scratch
  h = b.holding

  written_tree : text_for room t w ≡ print (meaning (parse line))
  written_tree = printed_whole room t w (meaning (parse line)) b.opens (met_nothing room 0 (print (meaning (parse line))) b.shallow (omega (arith, b.fits)))

  met_none : met room t w ≡ nothing
  unfolding met
  met_none = rw written_tree (met_nothing room 0 (print (meaning (parse line))) b.shallow (omega (arith, b.fits)))

  held : word_held t (waiting q) w ≡ true
  unfolding word_held held_at_least
  held = go (is_cell (capacity t) w) refl
    where
      go : (c : Bool) → is_cell (capacity t) w ≡ c → cond c (held_at_least t (waiting q) (pred w) 1) true ≡ true
      go true e =
          let i = cell_index (capacity t) w e in
          le-leb (waiting_change root minus (suc (pred w)) (waiting q) + 1) (word_at t (pred w) root_count + waiting_change root plus (suc (pred w)) (waiting q))
          (omega (arith, h.once (pred w) i, matching_same w (suc (pred w)) 1 (cell_number_lem (capacity t) w e)))
      go false e = refl

  asked : first_no (questions (store t q []) (write w room)) ≡ 0
  unfolding questions early late words_legal every_of
  asked = first_no_zero (questions (store t q []) (write w room))
      (h.whole.sound.shape, (rw (h.size, h.legal) refl, (held, (rw met_none refl, (rw met_none refl, tt)))))

  pub writes_back : {r : Reply} {after : Store} → Promise (store t q []) (write w room) r after → r ≡ text (answer_of line)
  unfolding accepted
  writes_back {r} {after} p =
      (gives_machine (store t q []) (write w room) r after (p.exact (decided (store t q []) (write w room) h.whole.sound))).0
      ∙ ap (λ (o : Outcome). o.reply) (machine_accepted (store t q []) (write w room) asked)
      ∙ ap text (written_tree ∙ sym b.answer)
