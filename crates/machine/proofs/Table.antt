-- Laws of the table: lengths, and what is read after a write, one law for every pair of index and word.
use mathlib.Core.Path.{◌≡◌, refl, ap, ◌∙◌}
use mathlib.Core.Logic.{◌≢◌, ⊎_elim}
use mathlib.Core.Bool.{true, false, cond, ◌&&◌}
use mathlib.Core.List.{List, [], ◌∷◌}
use Prim.Native.Nat.{ℕ, zero, suc, pred, ◌+◌, ◌*◌, ◌≤◌, ◌<◌}
use native.Mathlib.Omega.{arith}
use lib.Dec.{eqb}
use lib.ListN.{length, get_or, set, drop, length-set, get_or-replicate}
use lib.Seq.{get_or-set_same, get_or-set_other, drop-set-lt, set-get_or}
use Rattle.machine.specs.Table.{stride, header, left, right, root_count, cell_count, capacity, first_free, last_free, table_length, free_cell, position, word_at, put_word, put_ends, put_words, put_cell, in_use, is_free}
use borrow.Author.Tests.{eqb-true, eqb-false, not-true}
use Rattle.machine.proofs.Range.{tested}

-- the cell at index i has its words in the table t
pub Inside : List ℕ → ℕ → Type 0
Inside t i = table_length (suc i) ≤ length t

-- what holds of both counts, and of every other word of a cell
pub each_word : (P : ℕ → Type 0) → P root_count → P cell_count → ((k : ℕ) → k ≢ root_count → k ≢ cell_count → P k) → (k : ℕ) → P k
each_word P r c f k =
    ⊎_elim (λ (e : eqb k root_count ≡ true). rw (eqb-true k root_count e) r)
    (λ e. ⊎_elim (λ (d : eqb k cell_count ≡ true). rw (eqb-true k cell_count d) c) (λ d. f k (eqb-false k root_count e) (eqb-false k cell_count d)) (tested (eqb k cell_count)))
    (tested (eqb k root_count))

-- lengths
pub length_put_word : (t : List ℕ) (i k v : ℕ) → length (put_word t i k v) ≡ length t
unfolding put_word
length_put_word t i k v = length-set t (position i k) v

pub length_put_ends : (t : List ℕ) (f l : ℕ) → length (put_ends t f l) ≡ length t
unfolding put_ends
length_put_ends t f l = simp length-set

length_put_words : (t : List ℕ) (i k : ℕ) (vs : List ℕ) → length (put_words t i k vs) ≡ length t
unfolding put_words
length_put_words t i k [] = refl
length_put_words t i k (v ∷ vs) = length_put_words (put_word t i k v) i (suc k) vs ∙ length_put_word t i k v

pub length_put_cell : (t : List ℕ) (i : ℕ) (ws : List ℕ) → length (put_cell t i ws) ≡ length t
unfolding put_cell
length_put_cell t i ws = length_put_words t i left ws

-- what is read where it was written, and elsewhere
pub word_same : (t : List ℕ) (i k v : ℕ) → Inside t i → k < stride → word_at (put_word t i k v) i k ≡ v
unfolding word_at put_word position Inside
word_same t i k v f hk = get_or-set_same t (header + stride * i + k) v 0 (omega arith)

pub word_other : (t : List ℕ) (i k v j m : ℕ) → k < stride → m < stride → (i ≡ j → k ≡ m → ⊥) → word_at (put_word t i k v) j m ≡ word_at t j m
unfolding word_at put_word position
word_other t i k v j m hk hm d = get_or-set_other t (header + stride * i + k) (header + stride * j + m) v 0 (λ e. d (omega arith) (omega arith))

-- the read-after-write law for all pairs of index and word
pub word_put : (t : List ℕ) (i k v j m : ℕ) → Inside t i → k < stride → m < stride → word_at (put_word t i k v) j m ≡ cond (eqb k m && eqb i j) v (word_at t j m)
word_put t i k v j m f hk hm = ⊎_elim here (λ (e : eqb k m ≡ false). rw e (word_other t i k v j m hk hm (λ x y. eqb-false k m e y))) (tested (eqb k m))
  where
    same : i ≡ j → k ≡ m → word_at (put_word t i k v) j m ≡ v
    same p q = rw (← p, ← q) (word_same t i k v f hk)

    here : eqb k m ≡ true → word_at (put_word t i k v) j m ≡ cond (eqb k m && eqb i j) v (word_at t j m)
    here e =
        ⊎_elim (λ (d : eqb i j ≡ true). rw (e, d) (same (eqb-true i j d) (eqb-true k m e)))
        (λ (d : eqb i j ≡ false). rw (e, d) (word_other t i k v j m hk hm (λ x y. eqb-false i j d x)))
        (tested (eqb i j))

-- a cell's words and the header do not meet
pub capacity_put_word : (t : List ℕ) (i k v : ℕ) → capacity (put_word t i k v) ≡ capacity t
unfolding capacity put_word position
capacity_put_word t i k v = get_or-set_other t (header + stride * i + k) 0 v 0 (omega arith)

pub first_free_put_word : (t : List ℕ) (i k v : ℕ) → first_free (put_word t i k v) ≡ first_free t
unfolding first_free put_word position
first_free_put_word t i k v = get_or-set_other t (header + stride * i + k) 1 v 0 (omega arith)

pub last_free_put_word : (t : List ℕ) (i k v : ℕ) → last_free (put_word t i k v) ≡ last_free t
unfolding last_free put_word position
last_free_put_word t i k v = get_or-set_other t (header + stride * i + k) 2 v 0 (omega arith)

pub word_put_ends : (t : List ℕ) (f l i k : ℕ) → word_at (put_ends t f l) i k ≡ word_at t i k
unfolding word_at put_ends position
word_put_ends t f l i k =
    get_or-set_other (set t 1 f) 2 (header + stride * i + k) l 0 (omega arith) ∙ get_or-set_other t 1 (header + stride * i + k) f 0 (omega arith)

pub capacity_put_ends : (t : List ℕ) (f l : ℕ) → capacity (put_ends t f l) ≡ capacity t
unfolding capacity put_ends
capacity_put_ends t f l = get_or-set_other (set t 1 f) 2 0 l 0 (omega arith) ∙ get_or-set_other t 1 0 f 0 (omega arith)

pub first_free_put_ends : (t : List ℕ) (f l : ℕ) → 2 < length t → first_free (put_ends t f l) ≡ f
unfolding first_free put_ends
first_free_put_ends t f l h = get_or-set_other (set t 1 f) 2 1 l 0 (omega arith) ∙ get_or-set_same t 1 f 0 (omega arith)

pub last_free_put_ends : (t : List ℕ) (f l : ℕ) → 2 < length t → last_free (put_ends t f l) ≡ l
unfolding last_free put_ends
last_free_put_ends t f l h = get_or-set_same (set t 1 f) 2 l 0 (simp length-set h)

-- words past the cells stand
pub past_put_word : (t : List ℕ) (c i k v : ℕ) → i < c → k < stride → drop (table_length c) (put_word t i k v) ≡ drop (table_length c) t
unfolding put_word position
past_put_word t c i k v h hk = drop-set-lt (header + stride * c) t (header + stride * i + k) v (omega arith)

pub past_put_ends : (t : List ℕ) (c f l : ℕ) → drop (table_length c) (put_ends t f l) ≡ drop (table_length c) t
unfolding put_ends
past_put_ends t c f l = drop-set-lt (header + stride * c) (set t 1 f) 2 l (omega arith) ∙ drop-set-lt (header + stride * c) t 1 f (omega arith)

-- free and in use
pub free_not_in_use : (t : List ℕ) (i : ℕ) → is_free t i ≡ true → in_use t i ≡ false
unfolding is_free
free_not_in_use t i h = not-true (in_use t i) h

pub not_in_use_free : (t : List ℕ) (i : ℕ) → in_use t i ≡ false → is_free t i ≡ true
unfolding is_free
not_in_use_free t i h = rw h

-- a table of its length has room for each of its cells
pub room : (t : List ℕ) (c i : ℕ) → table_length c ≤ length t → i < c → Inside t i
unfolding Inside
room t c i f l = omega arith

pub inside_put : (t : List ℕ) (i k v j : ℕ) → Inside t j → Inside (put_word t i k v) j
unfolding Inside
inside_put t i k v j f = rw length_put_word f

-- what each write of a word of the cell keeps, writing several of its words keeps
words_keep : (P : List ℕ → Type 0) (t : List ℕ) (i k : ℕ) (vs : List ℕ) → k + length vs ≤ stride
    → ((u : List ℕ) (m v : ℕ) → k ≤ m → m < stride → P u → P (put_word u i m v)) → P t → P (put_words t i k vs)
unfolding put_words
words_keep P t i k [] l f h = h
words_keep P t i k (v ∷ vs) l f h =
    words_keep P (put_word t i k v) i (suc k) vs (omega arith) (λ u m w low high. f u m w (omega arith) high) (f t k v (omega arith) (omega arith) h)

-- a cell's words written from word k on: each is read back
words_at : (t : List ℕ) (i k : ℕ) (vs : List ℕ) → k + length vs ≤ stride → Inside t i → (m : ℕ) → m < length vs → word_at (put_words t i k vs) i (k + m) ≡ get_or vs m 0
unfolding put_words
words_at t i k [] l f m n = absurd (omega arith)
words_at t i k (v ∷ vs) l f zero n =
    ap (word_at (put_words (put_word t i k v) i (suc k) vs) i) (omega arith)
    ∙ words_keep (λ u. word_at u i k ≡ v) (put_word t i k v) i (suc k) vs (omega arith)
    (λ u m w low high e. word_other u i m w i k high (omega arith) (λ _ x. omega arith) ∙ e) (word_same t i k v f (omega arith))
words_at t i k (v ∷ vs) l f (suc m) n =
    ap (word_at (put_words (put_word t i k v) i (suc k) vs) i) (omega arith)
    ∙ words_at (put_word t i k v) i (suc k) vs (omega arith) (inside_put t i k v i f) m (omega arith)

-- a whole cell written: its words, and another cell's
pub cell_word : (t : List ℕ) (i : ℕ) (ws : List ℕ) → length ws ≡ stride → Inside t i → (k : ℕ) → k < stride → word_at (put_cell t i ws) i k ≡ get_or ws k 0
unfolding put_cell
cell_word t i ws e f k l = ap (word_at (put_words t i left ws) i) (omega arith) ∙ words_at t i left ws (omega arith) f k (omega arith)

cell_keeps : (P : List ℕ → Type 0) (t : List ℕ) (i : ℕ) (ws : List ℕ) → length ws ≡ stride → ((u : List ℕ) (k v : ℕ) → k < stride → P u → P (put_word u i k v)) → P t → P (put_cell t i ws)
unfolding put_cell
cell_keeps P t i ws e f h = words_keep P t i left ws (omega arith) (λ u m v _ high. f u m v high) h

pub cell_other : (t : List ℕ) (i : ℕ) (ws : List ℕ) → length ws ≡ stride → (j k : ℕ) → k < stride → (i ≡ j → ⊥) → word_at (put_cell t i ws) j k ≡ word_at t j k
cell_other t i ws e j k hk d =
    cell_keeps (λ u. word_at u j k ≡ word_at t j k) t i ws e (λ u k' v hk' g. word_other u i k' v j k hk' hk (λ x _. d x) ∙ g) refl

pub capacity_put_cell : (t : List ℕ) (i : ℕ) (ws : List ℕ) → length ws ≡ stride → capacity (put_cell t i ws) ≡ capacity t
capacity_put_cell t i ws e = cell_keeps (λ u. capacity u ≡ capacity t) t i ws e (λ u k v hk g. capacity_put_word u i k v ∙ g) refl

pub first_free_put_cell : (t : List ℕ) (i : ℕ) (ws : List ℕ) → length ws ≡ stride → first_free (put_cell t i ws) ≡ first_free t
first_free_put_cell t i ws e = cell_keeps (λ u. first_free u ≡ first_free t) t i ws e (λ u k v hk g. first_free_put_word u i k v ∙ g) refl

pub last_free_put_cell : (t : List ℕ) (i : ℕ) (ws : List ℕ) → length ws ≡ stride → last_free (put_cell t i ws) ≡ last_free t
last_free_put_cell t i ws e = cell_keeps (λ u. last_free u ≡ last_free t) t i ws e (λ u k v hk g. last_free_put_word u i k v ∙ g) refl

pub past_put_cell : (t : List ℕ) (c i : ℕ) (ws : List ℕ) → length ws ≡ stride → i < c → drop (table_length c) (put_cell t i ws) ≡ drop (table_length c) t
past_put_cell t c i ws e h =
    cell_keeps (λ u. drop (table_length c) u ≡ drop (table_length c) t) t i ws e (λ u k v hk g. past_put_word u c i k v h hk ∙ g) refl

-- a free cell's words behind left are 0
pub free_word : (next k : ℕ) → right ≤ k → k < stride → get_or (free_cell next) k 0 ≡ 0
free_word next zero l h = absurd (omega arith)
free_word next (suc k) l h = get_or-replicate (pred stride) k 0 0 (omega arith)

-- a word written by what stands there: a replace of a word by itself writes nothing new
pub put_itself : (t : List ℕ) (i k : ℕ) → put_word t i k (word_at t i k) ≡ t
unfolding put_word word_at
put_itself t i k = set-get_or t (position i k) 0
