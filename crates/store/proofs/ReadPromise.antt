-- What `reader` proves of reading a text is the promise: on a sound store its conses are the machine's.
use mathlib.Core.Path.{◌≡◌, refl, sym, ap, ap₂, ◌∙◌}
use mathlib.Core.Logic.{⊎_elim}
use mathlib.Core.Bool.{Bool, true}
use mathlib.Core.List.{List, [], ◌∷◌, ◌++◌}
use Prim.Native.Nat.{ℕ, zero, suc, pred}
use native.Mathlib.Omega.{arith}
use lib.Dec.{leb, leb-zero, leb-suc-zero, leb-suc-suc}
use lib.ListN.{length}
use Rattle.notation.specs.Trees.{Tree, nil, atom, pair, pairs}
use Rattle.notation.specs.Parse.{parse, meaning}
use Rattle.machine.specs.declared.Queue.{Queue}
use Rattle.machine.specs.Answers.{RowAnswer}
use Rattle.machine.specs.Range.{select}
use Rattle.machine.specs.Words.{is_cell}
use Rattle.machine.specs.Table.{left, capacity, first_free, word_at, is_free}
use Rattle.machine.specs.Queue.{Arrays}
use Rattle.machine.specs.Packets.{contains}
use Rattle.machine.specs.Calls.{cons, row, read, value, refused, Store, store, field}
use Rattle.machine.specs.Step.{Outcome, outcome}
use Rattle.machine.specs.Texts.{Built, built_pair, build_by}
use Rattle.machine.specs.Questions.{Question, ask, first_no, early, late, questions, text_pairs, slots_empty, cells_free}
use Rattle.machine.specs.Audit.{Sound}
use Rattle.machine.specs.Facts.{Linked}
use Rattle.machine.specs.Machine.{refused_or, accepted_row, consed, text_read, accepted, machine}
use Rattle.machine.specs.Answers.{row_reply}
use Rattle.machine.specs.Promise.{Untouched, numbers, Promise}
use Rattle.machine.proofs.Words.{index_cell}
use Rattle.machine.proofs.Questions.{first_no_append, first_no_none, first_no_number, early_numbered}
use Rattle.machine.proofs.Kept.{untouched_trans, unmoved, built_keeps, untouched_built, machine_accepted, machine_refused}
use Rattle.soundness.specs.Whole.{Whole}
use Rattle.soundness.proofs.Facts.{sound_facts}
use Rattle.soundness.proofs.FreeCells.{chain_length}
use Rattle.soundness.proofs.CallSound.{built_whole}
use Rattle.calls.specs.Called.{code_accepted, outcome_of}
use Rattle.calls.proofs.RowLaws.{fitted_accepted}
use Rattle.reader.specs.Builds.{code_cons}
use Rattle.reader.specs.Called.{chain_has, read_questions, read_done, read_outcome, ReadCalled}
use Rattle.store.proofs.RowTests.{questions_same}
use Rattle.store.proofs.NamesFit.{names_fit}
use Rattle.store.proofs.RowPromise.{outcome_bounded}

-- question 8: going along the free chain finds as many cells as are free
chain_is : (n : ℕ) (t : List ℕ) (w : ℕ) (is : List ℕ) → Linked t w is → chain_has n t w ≡ leb n (length is)
unfolding chain_has field is_cell
chain_is zero t w is h = sym (leb-zero (length is))
chain_is (suc n) t w [] h = rw (h, leb-suc-zero n)
chain_is (suc n) t w (i ∷ is) h =
    let number : pred (suc i) ≡ i = omega arith in
    rw h.0 (rw (index_cell (capacity t) i h.1, number) (chain_is n t (word_at t i left) is h.2 ∙ sym (leb-suc-suc n (length is))))

free_same : (t : List ℕ) (q : Queue) → Sound t q → (n : ℕ) → chain_has n t (first_free t) ≡ cells_free t n
unfolding cells_free
free_same t q s n =
    let f = sound_facts t q s in
    chain_is n t (first_free t) f.free f.chain.linked ∙ ap (leb n) (sym (chain_length t f.free f.chain))

-- a cons of the code is the machine's on a sound store
cons_same : (s : Store) (x y : ℕ) → s.scratch ≡ [] → Whole s.table s.queue → code_cons s x y ≡ consed s x y
unfolding outcome_of consed
cons_same s x y e w =
    let t = s.table in
    let q = s.queue in
    ap (λ (n : ℕ). refused_or n (store t q []) (code_accepted t q (cons x y))) (questions_same t q w.sound w.arrays (cons x y))
    ∙ go (first_no (questions (store t q []) (row (cons x y)))) refl
    ∙ ap (λ (l : List ℕ). consed (store t q l) x y) (sym e)
  where
    go : (n : ℕ) → first_no (questions (store s.table s.queue []) (row (cons x y))) ≡ n
        → refused_or n (store s.table s.queue []) (code_accepted s.table s.queue (cons x y))
        ≡ refused_or n (store s.table s.queue []) (accepted_row (store s.table s.queue []) (cons x y))
    go zero d = unfold accepted in fitted_accepted s.table s.queue (cons x y) (names_fit s.table s.queue w.sound w.arrays (cons x y) d)
    go (suc n) d = refl

no_words : (l : List ℕ) → length l ≡ 0 → l ≡ []
no_words [] e = refl
no_words (x ∷ l) e = absurd (omega arith)

-- and so is all that it builds
built_same : (s : Store) (tree : Tree) → s.scratch ≡ [] → Whole s.table s.queue → build_by code_cons s tree ≡ build_by consed s tree
unfolding build_by
built_same s nil e w = refl
built_same s (atom n) e w = refl
built_same s (pair a d) e w =
    let x = build_by consed s a in
    let y = build_by consed x.after d in
    let between = built_whole s a w in
    let empty : x.after.scratch ≡ [] = no_words x.after.scratch ((untouched_built s a).scratch_length ∙ ap length e) in
    let last : y.after.scratch ≡ [] = no_words y.after.scratch ((untouched_built x.after d).scratch_length ∙ ap length empty) in
    ap (λ (b : Built). after_left b d) (built_same s a e w)
    ∙ ap (λ (b : Built). after_both x b) (built_same x.after d empty between)
    ∙ ap built_pair (cons_same y.after x.word y.word last (built_whole x.after d between))
  where
    after_both : Built → Built → Built
    after_both x y = built_pair (code_cons y.after x.word y.word)

    after_left : Built → Tree → Built
    after_left x d = after_both x (build_by code_cons x.after d)

-- building touches nothing but cells, on any store
code_untouched : (s : Store) (tree : Tree) → s.scratch ≡ [] → Untouched s (build_by code_cons s tree).after × ((build_by code_cons s tree).after.scratch ≡ [])
code_untouched s tree e =
    built_keeps code_cons (λ u. Untouched s u × (u.scratch ≡ [])) (λ u x y h.
    let o = (code_cons u x y).after in
    let once : Untouched u o = rw (own u h.1) (outcome_bounded u.table u.queue (cons x y)) in
    (untouched_trans s u o h.0 once, no_words o.scratch (once.scratch_length ∙ ap length h.1))) s tree (unmoved s, e)
  where
    own : (v : Store) → v.scratch ≡ [] → v ≡ store v.table v.queue []
    own v k = ap (λ (l : List ℕ). store v.table v.queue l) k

module _ (t : List ℕ) (q : Queue) (bytes : List ℕ) (a : RowAnswer) (t' : List ℕ) (q' : Queue) (h : ReadCalled t q bytes a t' q') where
  abbrev s : Store
  s = store t q []

  abbrev s' : Store
  s' = store t' q' []

  abbrev found : List Question
  found = ask 7 (slots_empty q (text_pairs bytes)) ∷ ask 8 (chain_has (text_pairs bytes) t (first_free t)) ∷ []

  -- refused by the first "no", with nothing changed
  refused_whole : (n : ℕ) → first_no (read_questions t q bytes) ≡ suc n → (row_reply a ≡ refused (suc n)) × (s' ≡ s)
  unfolding read_outcome
  refused_whole n e =
      let o : read_outcome t q bytes ≡ outcome (refused (suc n)) s = rw e in (
        h.reply ∙ ap (λ (x : Outcome). x.reply) o,
        ap₂ (λ (u : List ℕ) (v : Queue). store u v []) (h.table ∙ ap (λ (x : Outcome). x.after.table) o) (h.queue ∙ ap (λ (x : Outcome). x.after.queue) o),
      )

  -- or done
  done_whole : first_no (read_questions t q bytes) ≡ 0 → (row_reply a ≡ (read_done s (parse bytes)).reply) × (s' ≡ (read_done s (parse bytes)).after)
  unfolding read_outcome
  done_whole e =
      let o : read_outcome t q bytes ≡ read_done s (parse bytes) = rw e in (
        h.reply ∙ ap (λ (x : Outcome). x.reply) o,
        ap₂ (λ (u : List ℕ) (v : Queue). store u v []) (h.table ∙ ap (λ (x : Outcome). x.after.table) o) (h.queue ∙ ap (λ (x : Outcome). x.after.queue) o)
            ∙ own (read_done s (parse bytes)).after (code_untouched s (meaning (parse bytes)) refl).1,
      )
    where
      own : (v : Store) → v.scratch ≡ [] → store v.table v.queue [] ≡ v
      own v k = ap (λ (l : List ℕ). store v.table v.queue l) (sym k)

  read_asked : (n : ℕ) → first_no (early s (read bytes)) ≡ suc n → (row_reply a ≡ refused (suc n)) × (s' ≡ s)
  unfolding read_questions
  read_asked n e = refused_whole n (first_no_append (early s (read bytes)) found n e)

  read_refusal : (n : ℕ) → first_no (early s (read bytes)) ≡ 0 → row_reply a ≡ refused n → (contains (numbers (late s (read bytes))) n ≡ true) × (s' ≡ s)
  unfolding read_questions late numbers
  read_refusal n e k = go (first_no found) refl
    where
      whole : first_no (read_questions t q bytes) ≡ first_no found
      whole = first_no_none (early s (read bytes)) found (early_numbered s (read bytes)) e

      clash : {v m : ℕ} → value v ≡ refused m → ⊥
      clash d = let z : ◌≡◌ {A = ℕ} 0 1 = cc in omega arith

      same : {m l : ℕ} → refused m ≡ refused l → m ≡ l
      same d = cc

      go : (m : ℕ) → first_no found ≡ m → (contains (numbers (late s (read bytes))) n ≡ true) × (s' ≡ s)
      go zero d = absurd (clash (sym (done_whole (whole ∙ d)).0 ∙ k))
      go (suc m) d =
          let w = refused_whole m (whole ∙ d) in
          let number : suc m ≡ n = same (sym w.0 ∙ k) in
          (rw number at (first_no_number found m d), w.1)

  -- where question 8 has the paper's answer, and the cells built are the machine's
  read_same : chain_has (text_pairs bytes) t (first_free t) ≡ cells_free t (text_pairs bytes)
      → (first_no (questions s (read bytes)) ≡ 0 → build_by code_cons s (meaning (parse bytes)) ≡ build_by consed s (meaning (parse bytes)))
      → (row_reply a ≡ (machine s (read bytes)).reply) × (s' ≡ (machine s (read bytes)).after)
  unfolding read_questions questions late accepted text_read
  read_same eight cells = go (first_no (read_questions t q bytes)) refl
    where
      same : first_no (questions s (read bytes)) ≡ first_no (read_questions t q bytes)
      same = ap (λ (b : Bool). first_no (early s (read bytes) ++ (ask 7 (slots_empty q (text_pairs bytes)) ∷ ask 8 b ∷ []))) (sym eight)

      go : (n : ℕ) → first_no (read_questions t q bytes) ≡ n → (row_reply a ≡ (machine s (read bytes)).reply) × (s' ≡ (machine s (read bytes)).after)
      go zero d =
          let w = done_whole d in
          let b = cells (same ∙ d) in
          rw (machine_accepted s (read bytes) (same ∙ d))
          (w.0 ∙ ap (λ (x : Built). value x.word) b, w.1 ∙ ap (λ (x : Built). x.after) b)
      go (suc n) d = rw (machine_refused s (read bytes) n (same ∙ d)) (refused_whole n d)

  sound_same : Arrays q → Sound t q → (row_reply a ≡ (machine s (read bytes)).reply) × (s' ≡ (machine s (read bytes)).after)
  sound_same arrays sound =
      read_same (free_same t q sound (text_pairs bytes)) (λ _. built_same s (meaning (parse bytes)) refl (record { sound = sound; arrays = arrays }))

  -- a text without pairs takes no cell
  leaf_same : text_pairs bytes ≡ 0 → (row_reply a ≡ (machine s (read bytes)).reply) × (s' ≡ (machine s (read bytes)).after)
  unfolding text_pairs chain_has cells_free
  leaf_same e = read_same (rw (e, leb-zero (length (select (capacity t) (is_free t))))) (λ _. leaf (meaning (parse bytes)) e)
    where
      leaf : (tree : Tree) → pairs tree ≡ 0 → build_by code_cons s tree ≡ build_by consed s tree
      leaf nil z = unfold build_by in refl
      leaf (atom n) z = unfold build_by in refl
      leaf (pair b d) z = absurd (unfold pairs in omega arith)

  pub read_promise : Arrays q → Promise s (read bytes) (row_reply a) s'
  read_promise arrays = record {
    asked = read_asked;
    refusal = read_refusal;
    exact = ⊎_elim (sound_same arrays) leaf_same;
    bounded = bounded (first_no (read_questions t q bytes)) refl;
  }
    where
      bounded : (n : ℕ) → first_no (read_questions t q bytes) ≡ n → Untouched s s'
      bounded zero d = rw (done_whole d).1 (code_untouched s (meaning (parse bytes)) refl).0
      bounded (suc n) d = rw (refused_whole n d).1 (unmoved s)
