-- Laws of what the code holds: words, open lists and the store in arrays.
use mathlib.Core.Path.{◌≡◌, refl, sym, ap, ◌∙◌}
use mathlib.Core.Bool.{Bool, true, false}
use mathlib.Core.List.{List, [], ◌∷◌, ◌++◌}
use Prim.Native.Nat.{ℕ, zero, suc, pred, ◌+◌, ◌-◌, ◌≤◌, ◌<◌}
use native.Mathlib.Omega.{arith}
use native.Mathlib.Numerals.{add-one, sub-one}
use lib.ListN.{length, get_or, take, drop, set, length-take, length-set, drop_of_length-le}
use lib.Seq.{length-take-le, take-suc-set, drop-cons, get_or-take, get_or-set_same, get_or-set_other, set-get_or, take-take}
use Rattle.scanner.specs.Tokens.{marks_of_token}
use Rattle.scanner.specs.declared.tokens.Token.{Token}
use Rattle.notation.specs.Grammar.{closing, dot}
use Rattle.notation.specs.Trees.{largest_value}
use Rattle.notation.specs.Brackets.{most_open}
use Rattle.machine.specs.declared.Queue.{Queue}
use Rattle.machine.specs.Answers.{RowAnswer}
use Rattle.machine.specs.Words.{first_atom}
use Rattle.machine.specs.Calls.{Store, store, cons}
use Rattle.machine.specs.Questions.{first_no}
use Rattle.machine.specs.Machine.{refused_or}
use Rattle.machine.specs.Answers.{row_reply}
use Rattle.machine.specs.Texts.{built, built_pair, new_word}
use Rattle.calls.specs.Called.{code_accepted, outcome_of, RowCalled}
use Rattle.calls.specs.Tests.{code_questions}
use Rattle.reader.specs.Reading.{OpenList, reading, pairs_by, ended, closed_from, read_token, read_all}
use Rattle.reader.specs.Held.{most_words, lists_in, reading_in, Fits, Closable, Room}
use Rattle.reader.specs.Builds.{code_cons, Leaves}

-- no cons is lent scratch
no_scratch : (t : List ℕ) (q : Queue) (x y : ℕ) → (outcome_of t q (cons x y)).after.scratch ≡ []
unfolding outcome_of code_accepted
no_scratch t q x y = go (first_no (code_questions t q (cons x y)))
  where
    go : (n : ℕ) → (refused_or n (store t q []) (code_accepted t q (cons x y))).after.scratch ≡ []
    go zero = refl
    go (suc n) = refl

pub pair_leaves : (t : List ℕ) (q : Queue) (x y : ℕ) (a : RowAnswer) (w : ℕ) (t' : List ℕ) (q' : Queue) → RowCalled t q (cons x y) a t' q' → w ≡ new_word (row_reply a)
    → Leaves (built_pair (code_cons (store t q []) x y)) w t' q'
pair_leaves t q x y a w t' q' called e =
    let o = outcome_of t q (cons x y) in
    rw (e, called.reply, called.table, called.queue)
    (ap (λ (z : List ℕ). built (new_word o.reply) (store o.after.table o.after.queue z)) (no_scratch t q x y))

-- a list's pairs, from the word behind the last element on
pub pairs_none : (s : Store) (words : List ℕ) (end l : ℕ) → pairs_by code_cons s (drop end (take end words)) l ≡ built l s
unfolding pairs_by
pairs_none s words end l =
    let all : length (take end words) ≤ end = simp length-take (omega arith) in
    rw (drop_of_length-le (take end words) all)

-- one more
pub pairs_more : (s : Store) (words : List ℕ) (end l i word word' : ℕ) (t t' : List ℕ) (q q' : Queue) → i < end → end ≤ length words
    → Leaves (pairs_by code_cons s (drop (suc i) (take end words)) l) word t q
    → Leaves (built_pair (code_cons (store t q []) (get_or words i 0) word)) word' t' q'
    → Leaves (pairs_by code_cons s (drop i (take end words)) l) word' t' q'
unfolding pairs_by
pairs_more s words end l i word word' t t' q q' h k before after =
    let inside : i < length (take end words) = simp length-take (omega arith) in
    rw (drop-cons (take end words) i 0 inside, get_or-take end words i 0 h, before) after

pub length_lists : (n : ℕ) (starts : List ℕ) (dots : List Bool) → length (lists_in n starts dots) ≡ n
unfolding lists_in
length_lists zero starts dots = refl
length_lists (suc n) starts dots = ap suc (length_lists n starts dots)

-- a word more stands
pub word_more : (words : List ℕ) (count w : ℕ) → count < length words → take (count + 1) (set words count w) ≡ take count words ++ (w ∷ [])
word_more words count w h = rw (add-one, take-suc-set words count w h)

-- the first count words
pub words_number_lem : (ws words : List ℕ) (count : ℕ) → take count words ≡ ws → count ≤ most_words → length words ≡ most_words → length ws ≡ count
words_number_lem ws words count e h k = ap length (sym e) ∙ length-take-le count words (omega arith)

pub some_words : (ws words : List ℕ) {start count : ℕ} → take count words ≡ ws → start < length ws → 1 ≤ count
some_words ws words {start} {count} e h = omega (arith, simp length-take at (ap length e))

-- the words of a list, from `start` on, give way to its word
pub list_closed : (s : Store) (ws words words' : List ℕ) (start count word : ℕ) (t : List ℕ) (q : Queue) (ls : List OpenList)
    → take count words ≡ ws → start < length ws → count ≤ length words
    → Leaves (pairs_by code_cons s (drop start (take (count - 1) words)) (get_or words (count - 1) 0)) word t q
    → words' ≡ set words start word
    → reading (take (start + 1) words') ls (store t q []) ≡ closed_from code_cons s start ws ls
unfolding closed_from
list_closed s ws words words' start count word t q ls e h k made w =
    let n : length ws ≡ count = ap length (sym e) ∙ length-take-le count words k in
    let p : pred (length ws) ≡ count - 1 = ap pred n ∙ sym (sub-one count) in
    let inside : start < length words = omega arith in
    let fewer : count - 1 < count = omega arith in
    let front : take (count - 1) ws ≡ take (count - 1) words = ap (take (count - 1)) (sym e) ∙ take-take (count - 1) count words (omega arith) in
    let part : get_or ws (count - 1) 0 ≡ get_or words (count - 1) 0 = ap (λ (z : List ℕ). get_or z (count - 1) 0) (sym e) ∙ get_or-take count words (count - 1) 0 fewer in
    let first : take start ws ≡ take start words = ap (take start) (sym e) ∙ take-take start count words (omega arith) in
    rw (w, word_more words start word inside, p, front, part, made, first)

-- writes from n on leave n open lists
lists_kept : (n k : ℕ) (starts : List ℕ) (dots : List Bool) (x : ℕ) (b : Bool) → n ≤ k → lists_in n (set starts k x) (set dots k b) ≡ lists_in n starts dots
unfolding lists_in
lists_kept zero k starts dots x b h = refl
lists_kept (suc n) k starts dots x b h =
    rw (get_or-set_other starts k n x 0 (λ e. omega arith), get_or-set_other dots k n b false (λ e. omega arith), lists_kept n k starts dots x b (omega arith))

dots_kept : (n k : ℕ) (starts : List ℕ) (dots : List Bool) (b : Bool) → n ≤ k → lists_in n starts (set dots k b) ≡ lists_in n starts dots
dots_kept n k starts dots b h =
    ap (λ (ss : List ℕ). lists_in n ss (set dots k b)) (sym (set-get_or starts k 0)) ∙ lists_kept n k starts dots (get_or starts k 0) b h

-- one token read, where the arrays have room for it
module _ (words : List ℕ) (count : ℕ) (starts : List ℕ) (dots : List Bool) (opened : ℕ) (fits : Fits words count starts dots opened) (t : List ℕ) (q : Queue)
    (token : Token) (room : Room token (reading_in words count starts dots opened t q)) where
  -- these arrays, table and queue are what the token leaves
  abbrev pub Step : List ℕ → ℕ → List ℕ → List Bool → ℕ → List ℕ → Queue → Type 0
  Step words' count' starts' dots' opened' t' q' =
      Fits words' count' starts' dots' opened'
      × (reading_in words' count' starts' dots' opened' t' q' ≡ read_all code_cons (reading_in words count starts dots opened t q) (marks_of_token token))

  module _ (told : token ≡ Token.Opening) where
    pub opening_room : opened < most_open
    opening_room =
        let r : length (lists_in opened starts dots) < most_open = rw told at room in
        omega (arith, length_lists opened starts dots)

    pub step_opening : Step words count (set starts opened count) (set dots opened false) (opened + 1) t q
    unfolding read_all read_token lists_in
    step_opening =
        let h = opening_room in
        let a : opened < length starts = omega (arith, fits.starts) in
        let b : opened < length dots = omega (arith, fits.dots) in (
          record { words = fits.words; starts = simp length-set fits.starts; dots = simp length-set fits.dots; count = fits.count; opened = omega arith },
          rw (
            told,
            add-one,
            get_or-set_same starts opened count 0 a,
            get_or-set_same dots opened false false b,
            lists_kept opened opened starts dots count false (omega arith),
            length-take-le count words (omega (arith, fits.words, fits.count)),
          ),
        )

  module _ (told : token ≡ Token.Closing) where
    closable : Closable (take count words) (lists_in opened starts dots)
    closable = rw told at room

    pub closing_some : 1 ≤ opened
    unfolding lists_in
    closing_some = go opened closable
      where
        go : (n : ℕ) → Closable (take count words) (lists_in n starts dots) → 1 ≤ n
        go zero k = absurd k
        go (suc n) k = omega arith

    pub closing_room :
        (get_or starts (opened - 1) 0 < length (ended (get_or dots (opened - 1) false) (take count words)))
        × (length (ended (get_or dots (opened - 1) false) (take count words)) ≤ most_words)
    unfolding lists_in
    closing_room = let e : opened ≡ suc (opened - 1) = omega (arith, closing_some) in rw e at closable

    pub step_closing : (words' : List ℕ) (t' : List ℕ) (q' : Queue) → length words' ≡ most_words
        → ((ls : List OpenList) → reading (take (get_or starts (opened - 1) 0 + 1) words') ls (store t' q' [])
        ≡ closed_from code_cons (store t q []) (get_or starts (opened - 1) 0) (ended (get_or dots (opened - 1) false) (take count words)) ls)
        → Step words' (get_or starts (opened - 1) 0 + 1) starts dots (opened - 1) t' q'
    unfolding read_all read_token lists_in
    step_closing words' t' q' l closed =
        let e : opened ≡ suc (opened - 1) = omega (arith, closing_some) in
        let h = closing_room in (
          record { words = l; starts = fits.starts; dots = fits.dots; count = omega arith; opened = omega (arith, fits.opened) },
          rw told (closed (lists_in (opened - 1) starts dots) ∙ sym (ap (λ (n : ℕ). read_token code_cons closing (reading_in words count starts dots n t q)) e)),
        )

  module _ (told : token ≡ Token.Dot) where
    pub dot_some : 1 ≤ opened
    dot_some =
        let r : 1 ≤ length (lists_in opened starts dots) = rw told at room in
        omega (arith, length_lists opened starts dots)

    pub step_dot : Step words count starts (set dots (opened - 1) true) opened t q
    unfolding read_all read_token lists_in
    step_dot = (
      record { words = fits.words; starts = fits.starts; dots = simp length-set fits.dots; count = fits.count; opened = fits.opened },
      rw told (go (opened - 1) (omega (arith, dot_some)) (omega (arith, dot_some, fits.dots, fits.opened))),
    )
      where
        go : (n : ℕ) → opened ≡ suc n → n < length dots →
            reading_in words count starts (set dots n true) opened t q ≡ read_token code_cons dot (reading_in words count starts dots opened t q)
        go n e k = rw (e, get_or-set_same dots n true false k, dots_kept n n starts dots true (omega arith))

  module _ (v : ℕ) (told : token ≡ Token.Number v) where
    pub number_room : (count < most_words) × (v ≤ largest_value)
    number_room =
        let r : (length (take count words) < most_words) × (v ≤ largest_value) = rw told at room in
        (omega (arith, simp length-take at r.0, fits.words, fits.count), r.1)

    pub step_number : Step (set words count (first_atom + v)) (count + 1) starts dots opened t q
    unfolding read_all read_token
    step_number =
        let h = number_room.0 in
        let a : count < length words = omega (arith, fits.words) in (
          record { words = simp length-set fits.words; starts = fits.starts; dots = fits.dots; count = omega arith; opened = fits.opened },
          rw (told, word_more words count (first_atom + v) a),
        )

  -- a space, and what is no token, is passed over
  pub step_other : (token ≡ Token.Opening → ⊥) → (token ≡ Token.Closing → ⊥) → (token ≡ Token.Dot → ⊥) → ((v : ℕ) → token ≡ Token.Number v → ⊥)
      → Step words count starts dots opened t q
  unfolding read_all
  step_other a b d n = (fits, go token a b d n)
    where
      go : (k : Token) → (k ≡ Token.Opening → ⊥) → (k ≡ Token.Closing → ⊥) → (k ≡ Token.Dot → ⊥) → ((v : ℕ) → k ≡ Token.Number v → ⊥)
          → reading_in words count starts dots opened t q ≡ read_all code_cons (reading_in words count starts dots opened t q) (marks_of_token k)
      go Token.Blank a b d n = refl
      go Token.Opening a b d n = absurd (a refl)
      go Token.Closing a b d n = absurd (b refl)
      go Token.Dot a b d n = absurd (d refl)
      go (Token.Number v) a b d n = absurd (n v refl)
      go Token.Foreign a b d n = refl
