-- A scan's locals keep to the open lists of the definition, token by token.
use mathlib.Core.Path.{◌≡◌, refl, sym, ap, ◌∙◌}
use mathlib.Core.Bool.{Bool, true, false, ◌||◌}
use mathlib.Core.List.{List, [], ◌∷◌, ◌++◌, map}
use Prim.Native.Nat.{ℕ, suc, pred, ◌+◌, ◌-◌, ◌≤◌, ◌<◌, max}
use native.Mathlib.Nat.{zero-max, max-zero}
use native.Mathlib.Numerals.{add-one, sub-one}
use native.Mathlib.Omega.{arith}
use lib.Dec.{eqb}
use lib.ListN.{length, drop, drop_of_length-le, length-drop, length-map}
use borrow.Author.Tests.{lt-leb, le-leb}
use Rattle.notation.specs.Trees.{Tree, nil, atom, pair, pairs, largest}
use Rattle.notation.specs.Grammar.{Token, opening, closing, dot, number, most_text}
use Rattle.notation.specs.Parse.{Mark, token, foreign, Frame, plain, dotted, full, State, within, outside, deliver, list_of, close_list, dot_list, parsed_from, marks_after, marks_of, start, tree, none, tree_of, parse}
use Rattle.notation.specs.Brackets.{most_open, too_deep}
use Rattle.notation.proofs.Tall.{too_tall, stays_outside, marks_short}
use Rattle.std.specs.Prelude.{Option, Some, None, Ok, Err}
use Rattle.scanner.specs.declared.Fault.{Fault}
use Rattle.scanner.specs.declared.lists.Scan.{Scan}
use Rattle.scanner.specs.declared.modes.Mode.{Mode}
use Rattle.scanner.specs.Modes.{digit, most_modes, unstacked, Stacked, Pushed, Popped}
use Rattle.scanner.specs.Scans.{judged, scan_of}
use Rattle.scanner.specs.Scanning.{mode_of, element_pairs, open_pairs, largest_mark, Based, grown_by, Pending, nothing, mark, datum, taken, pending_pairs, pending_marks, pending_bytes, deep_from, Scanning, TakenOf}
use Rattle.scanner.proofs.ModeLaws.{unstacked_length}
use Rattle.scanner.proofs.DepthLaws.{deep_marks, deep_marks_lem}
use Rattle.scanner.proofs.LargestLaws.{text_largest}

pub list_pairs : (es : List Tree) (l : Tree) → pairs (list_of es l) ≡ element_pairs es + pairs l
unfolding list_of pairs element_pairs
list_pairs [] l = omega arith
list_pairs (e ∷ es) l = omega (arith, list_pairs es (pair e l))

-- a mode's digit tells the mode
pub not_started : (m : Mode) → (m ≡ Mode.Started → ⊥) → digit m ≡ 1 → ⊥
not_started Mode.Empty h e = omega arith
not_started Mode.Started h e = h refl
not_started Mode.Dotted h e = omega arith
not_started Mode.Full h e = omega arith

pub not_dotted : (m : Mode) → (m ≡ Mode.Dotted → ⊥) → digit m ≡ 2 → ⊥
not_dotted Mode.Empty h e = omega arith
not_dotted Mode.Started h e = omega arith
not_dotted Mode.Dotted h e = h refl
not_dotted Mode.Full h e = omega arith

pub not_full : (m : Mode) → (m ≡ Mode.Full → ⊥) → digit m ≡ 3 → ⊥
not_full Mode.Empty h e = omega arith
not_full Mode.Started h e = omega arith
not_full Mode.Dotted h e = omega arith
not_full Mode.Full h e = h refl

or_assoc : (a b c : Bool) → ((a || b) || c) ≡ (a || (b || c))
or_assoc true b c = refl
or_assoc false b c = refl

-- a token read
module _ (text words : List ℕ) (s : Scan) (next : ℕ) (x : Scanning text words s nothing) where
  abbrev moved : Scan
  moved = record { at = next; mode = s.mode; brackets = s.brackets; deep = s.deep; pairs = s.pairs; largest = s.largest }

  module _ (further : s.at < next) (inside : next ≤ length text) where
    read : (p : Pending) → pending_pairs p ≡ 0 → pending_bytes p ≤ 1 → marks_of (drop s.at text) ≡ pending_marks p ++ marks_of (drop next text)
        → parsed_from (within x.frames) (marks_of (drop s.at text)) ≡ parsed_from (taken p x.frames) (marks_of (drop next text))
        → deep_marks s.brackets (marks_of (drop s.at text)) ≡ deep_from p s.brackets (drop next text)
        → Scanning text words moved p
    read p zero-pairs one marks same depth =
        let l = x.locals in
        record {
          frames = x.frames;
          locals = record { stacked = l.stacked; room = l.room; few = l.few };
          modes = x.modes;
          based = x.based;
          parsed = x.parsed ∙ ap tree_of same;
          deep = x.deep ∙ ap (λ (d : Bool). s.deep || d) (sym (deep_marks_lem s.brackets (drop s.at text)) ∙ depth);
          counted = omega (arith, x.counted);
          values = x.values ∙ ap (λ (ms : List Mark). max s.largest (largest_mark ms)) marks;
          short = x.short;
          inside = inside;
          enough = omega (arith, x.enough);
          opened = omega (arith, x.opened);
        }

    pub blank_read : marks_of (drop s.at text) ≡ marks_of (drop next text) → Scanning text words moved nothing
    blank_read e = read nothing refl (omega arith) e (rw e) (rw e (deep_marks_lem s.brackets (drop next text)))

    pub token_read : (k : Token) → marks_of (drop s.at text) ≡ token k ∷ marks_of (drop next text) → Scanning text words moved (mark k)
    unfolding parsed_from
    token_read k e = read (mark k) refl (omega arith) e (rw e) (rw e (by_token k))
      where
        by_token : (k : Token) → deep_marks s.brackets (token k ∷ marks_of (drop next text)) ≡ deep_from (mark k) s.brackets (drop next text)
        by_token opening = ap (λ (d : Bool). eqb s.brackets most_open || d) (deep_marks_lem (suc s.brackets) (drop next text))
        by_token closing = deep_marks_lem (pred s.brackets) (drop next text)
        by_token dot = deep_marks_lem s.brackets (drop next text)
        by_token (number v) = deep_marks_lem s.brackets (drop next text)

  pub foreign_read : marks_of (drop s.at text) ≡ foreign ∷ marks_of (drop next text) → parse text ≡ none
  unfolding parsed_from
  foreign_read e = rw e at x.parsed ∙ stays_outside (marks_of (drop next text))

-- what has been read, taken
module _ (text words : List ℕ) (s : Scan) where
  module _ (p : Pending) (x : Scanning text words s p) where
    -- as many lists as open brackets, and the text itself
    height : length x.frames ≡ suc s.brackets
    height = sym (length-map x.frames mode_of) ∙ ap length x.modes ∙ ap suc (unstacked_length s.brackets words)

    leaves : taken p x.frames ≡ outside → parse text ≡ none
    leaves e = x.parsed ∙ ap (λ (r : State). tree_of (parsed_from r (marks_of (drop s.at text)))) e ∙ stays_outside (marks_of (drop s.at text))

    -- another innermost list, in the same others
    settles : (fs : List Frame) (mode : Mode) (more : ℕ) → taken p x.frames ≡ within fs → map mode_of fs ≡ digit mode ∷ unstacked s.brackets words → Based fs
        → deep_from p s.brackets (drop s.at text) ≡ too_deep s.brackets (drop s.at text)
        → largest_mark (pending_marks p ++ marks_of (drop s.at text)) ≡ largest_mark (marks_of (drop s.at text))
        → s.pairs + more ≡ open_pairs fs → more ≤ pending_bytes p → Scanning text words (grown_by s mode more) nothing
    settles fs mode more e m b d v counted one = record {
      frames = fs;
      locals = record { stacked = x.locals.stacked; room = x.locals.room; few = omega (arith, x.enough, x.inside, x.short) };
      modes = m;
      based = b;
      parsed = x.parsed ∙ ap (λ (r : State). tree_of (parsed_from r (marks_of (drop s.at text)))) e;
      deep = x.deep ∙ ap (λ (r : Bool). s.deep || r) d;
      counted = omega arith;
      values = x.values ∙ ap (max s.largest) v;
      short = x.short;
      inside = x.inside;
      enough = omega (arith, x.enough);
      opened = omega (arith, x.opened);
    }

  module _ (t : Tree) (x : Scanning text words s (datum t)) where
    pub deliver_full : digit s.mode ≡ 3 → parse text ≡ none
    deliver_full h = leaves (datum t) x (go x.frames x.modes)
      where
        go : (fs : List Frame) → map mode_of fs ≡ digit s.mode ∷ unstacked s.brackets words → deliver t fs ≡ outside
        go [] m = refl
        go (plain [] ∷ fs) m = let e : 0 ≡ digit s.mode = cc in absurd (omega arith)
        go (plain (y ∷ es) ∷ fs) m = let e : 1 ≡ digit s.mode = cc in absurd (omega arith)
        go (dotted es ∷ fs) m = let e : 2 ≡ digit s.mode = cc in absurd (omega arith)
        go (full es l ∷ fs) m = refl

    pub deliver_behind : digit s.mode ≡ 2
        → Scanning text words (grown_by s Mode.Full 0) nothing
    deliver_behind h = go x.frames refl x.modes x.based x.counted
      where
        base : (es : List Tree) (fs : List Frame) → Based (dotted es ∷ fs) → Based (full es t ∷ fs)
        base es [] b = b
        base es (f ∷ fs) b = b

        go : (fs : List Frame) → x.frames ≡ fs → map mode_of fs ≡ digit s.mode ∷ unstacked s.brackets words → Based fs → s.pairs ≡ open_pairs fs + pairs t
            → Scanning text words (grown_by s Mode.Full 0) nothing
        go [] e m b n = absurd b
        go (plain [] ∷ fs) e m b n = let z : 0 ≡ digit s.mode = cc in absurd (omega arith)
        go (plain (y ∷ es) ∷ fs) e m b n = let z : 1 ≡ digit s.mode = cc in absurd (omega arith)
        go (dotted es ∷ fs) e m b n =
            let others : map mode_of fs ≡ unstacked s.brackets words = cc in
            settles (datum t) x (full es t ∷ fs) Mode.Full 0 (ap (deliver t) e) (ap {B = List ℕ} (λ r. 3 ∷ r) others) (base es fs b) refl refl
            (omega arith) (omega arith)
        go (full es l ∷ fs) e m b n = let z : 3 ≡ digit s.mode = cc in absurd (omega arith)

    pub deliver_element : (digit s.mode ≡ 3 → ⊥) → (digit s.mode ≡ 2 → ⊥)
        → Scanning text words (grown_by s Mode.Started 1) nothing
    unfolding element_pairs
    deliver_element other another = go x.frames refl x.modes x.based x.counted
      where
        go : (fs : List Frame) → x.frames ≡ fs → map mode_of fs ≡ digit s.mode ∷ unstacked s.brackets words → Based fs → s.pairs ≡ open_pairs fs + pairs t
            → Scanning text words (grown_by s Mode.Started 1) nothing
        go [] e m b n = absurd b
        go (plain es ∷ []) e m b n = absurd b
        go (plain es ∷ f ∷ fs) e m b n =
            let others : map mode_of (f ∷ fs) ≡ unstacked s.brackets words = cc in
            settles (datum t) x (plain (t ∷ es) ∷ f ∷ fs) Mode.Started 1 (ap (deliver t) e) (ap {B = List ℕ} (λ r. 1 ∷ r) others) b refl refl
            (omega arith) (omega arith)
        go (dotted es ∷ fs) e m b n = absurd (another (let z : digit s.mode ≡ 2 = cc in z))
        go (full es l ∷ fs) e m b n = absurd (other (let z : digit s.mode ≡ 3 = cc in z))

  module _ (x : Scanning text words s (mark dot)) where
    pub dot_outside : (digit s.mode ≡ 1 → ⊥) → parse text ≡ none
    dot_outside h = leaves (mark dot) x (go x.frames x.modes)
      where
        go : (fs : List Frame) → map mode_of fs ≡ digit s.mode ∷ unstacked s.brackets words → dot_list fs ≡ outside
        go [] m = refl
        go (plain [] ∷ fs) m = refl
        go (plain (y ∷ es) ∷ fs) m = absurd (h (let z : digit s.mode ≡ 1 = cc in z))
        go (dotted es ∷ fs) m = refl
        go (full es l ∷ fs) m = refl

    pub dot_taken : digit s.mode ≡ 1 → Scanning text words (grown_by s Mode.Dotted 0) nothing
    dot_taken h = go x.frames refl x.modes x.based x.counted
      where
        go : (fs : List Frame) → x.frames ≡ fs → map mode_of fs ≡ digit s.mode ∷ unstacked s.brackets words → Based fs → s.pairs ≡ open_pairs fs + 0
            → Scanning text words (grown_by s Mode.Dotted 0) nothing
        go [] e m b n = absurd b
        go (plain [] ∷ fs) e m b n = let z : 0 ≡ digit s.mode = cc in absurd (omega arith)
        go (plain (y ∷ es) ∷ []) e m b n = absurd b
        go (plain (y ∷ es) ∷ f ∷ fs) e m b n =
            let others : map mode_of (f ∷ fs) ≡ unstacked s.brackets words = cc in
            settles (mark dot) x (dotted (y ∷ es) ∷ f ∷ fs) Mode.Dotted 0 (ap dot_list e) (ap {B = List ℕ} (λ r. 2 ∷ r) others) b refl refl
            (omega arith) (omega arith)
        go (dotted es ∷ fs) e m b n = let z : 2 ≡ digit s.mode = cc in absurd (omega arith)
        go (full es l ∷ fs) e m b n = let z : 3 ≡ digit s.mode = cc in absurd (omega arith)

  module _ (x : Scanning text words s (mark opening)) where
    -- each list needs a byte to close it
    pub too_many_lem : s.brackets ≡ most_modes → parse text ≡ none
    too_many_lem h =
        x.parsed
        ∙ too_tall (plain [] ∷ x.frames) (marks_of (drop s.at text))
        (omega (arith, height (mark opening) x, marks_short (drop s.at text), length-drop s.at text, x.short, x.inside, x.opened))

    pub opens : (new : List ℕ) (deep : Bool) → (s.brackets ≡ most_modes → ⊥) → Pushed s.brackets (digit s.mode) words new → deep ≡ (s.deep || eqb s.brackets most_open)
        → Scanning text new (record { at = s.at; mode = Mode.Empty; brackets = s.brackets + 1; deep = deep; pairs = s.pairs; largest = s.largest }) nothing
    unfolding element_pairs
    opens new deep h pushed e = record {
      frames = plain [] ∷ x.frames;
      locals = record { stacked = pushed.stacked; room = omega (arith, x.locals.room); few = x.locals.few };
      modes = ap {B = List ℕ} (λ r. 0 ∷ r) (x.modes ∙ sym pushed.modes);
      based = base x.frames x.based;
      parsed = x.parsed;
      deep = x.deep ∙ sym (or_assoc s.deep (eqb s.brackets most_open) (too_deep (suc s.brackets) (drop s.at text))) ∙ rw (e, add-one s.brackets) refl;
      counted = omega (arith, x.counted);
      values = x.values;
      short = x.short;
      inside = x.inside;
      enough = omega (arith, x.enough);
      opened = omega (arith, x.opened);
    }
      where
        base : (fs : List Frame) → Based fs → Based (plain [] ∷ fs)
        base [] b = b
        base (f ∷ fs) b = b

  module _ (x : Scanning text words s (mark closing)) where
    -- the text itself ends by no bracket
    pub closes_none : s.brackets ≡ 0 → parse text ≡ none
    closes_none h = leaves (mark closing) x (go x.frames (height (mark closing) x))
      where
        go : (fs : List Frame) → length fs ≡ suc s.brackets → close_list fs ≡ outside
        go [] e = refl
        go (f ∷ []) e = refl
        go (f ∷ g ∷ fs) e = absurd (omega arith)

    pub closes_dotted : digit s.mode ≡ 2 → parse text ≡ none
    closes_dotted h = leaves (mark closing) x (go x.frames x.modes)
      where
        go : (fs : List Frame) → map mode_of fs ≡ digit s.mode ∷ unstacked s.brackets words → close_list fs ≡ outside
        go [] m = refl
        go (f ∷ []) m = refl
        go (plain [] ∷ g ∷ fs) m = let z : 0 ≡ digit s.mode = cc in absurd (omega arith)
        go (plain (y ∷ es) ∷ g ∷ fs) m = let z : 1 ≡ digit s.mode = cc in absurd (omega arith)
        go (dotted es ∷ g ∷ fs) m = refl
        go (full es l ∷ g ∷ fs) m = let z : 3 ≡ digit s.mode = cc in absurd (omega arith)

    module _ (new : List ℕ) (mode : Mode) (any : s.brackets ≡ 0 → ⊥) (other : digit s.mode ≡ 2 → ⊥) (popped : Popped s.brackets (digit mode) words new) where
      abbrev outer : Scan
      outer = record { at = s.at; mode = mode; brackets = s.brackets - 1; deep = s.deep; pairs = s.pairs; largest = s.largest }

      -- the list that ends, a datum for the one around it
      ended : (f : Frame) (fs : List Frame) (t : Tree) → close_list x.frames ≡ deliver t (f ∷ fs) → map mode_of (f ∷ fs) ≡ unstacked s.brackets words → Based (f ∷ fs)
          → s.pairs ≡ open_pairs (f ∷ fs) + pairs t → Scanning text new outer (datum t)
      ended f fs t e m b n =
          let ms = m ∙ popped.modes in
          record {
            frames = f ∷ fs;
            locals = record { stacked = popped.stacked; room = omega (arith, x.locals.room); few = x.locals.few };
            modes = ms;
            based = b;
            parsed = x.parsed ∙ ap (λ (r : State). tree_of (parsed_from r (marks_of (drop s.at text)))) e;
            deep = rw (sub-one s.brackets) x.deep;
            counted = n;
            values = x.values;
            short = x.short;
            inside = x.inside;
            enough = x.enough;
            opened = omega (arith, x.opened);
          }

      pub closes : {A : Type 0} → ((t : Tree) → Scanning text new outer (datum t) → A) → A
      unfolding pairs
      closes {A} then = go x.frames refl x.modes x.based x.counted (height (mark closing) x)
        where
          go : (fs : List Frame) → x.frames ≡ fs → map mode_of fs ≡ digit s.mode ∷ unstacked s.brackets words → Based fs → s.pairs ≡ open_pairs fs + 0
              → length fs ≡ suc s.brackets → A
          go [] e m b n h = absurd b
          go (f ∷ []) e m b n h = absurd (any (omega arith))
          go (plain es ∷ f ∷ fs) e m b n h =
              let others : map mode_of (f ∷ fs) ≡ unstacked s.brackets words = cc in
              then (list_of es nil) (ended f fs (list_of es nil) (ap close_list e) others b (omega (arith, list_pairs es nil)))
          go (dotted es ∷ f ∷ fs) e m b n h = absurd (other (let z : digit s.mode ≡ 2 = cc in z))
          go (full es l ∷ f ∷ fs) e m b n h =
              let others : map mode_of (f ∷ fs) ≡ unstacked s.brackets words = cc in
              then (list_of es l) (ended f fs (list_of es l) (ap close_list e) others b (omega (arith, list_pairs es l)))

  -- an atom is a datum, and its value is taken
  pub number_read : (v n : ℕ) → n ≡ max s.largest v → Scanning text words s (mark (number v))
      → Scanning text words (record { at = s.at; mode = s.mode; brackets = s.brackets; deep = s.deep; pairs = s.pairs; largest = n }) (datum (atom v))
  unfolding pairs
  number_read v n e x = record {
    frames = x.frames;
    locals = record { stacked = x.locals.stacked; room = x.locals.room; few = x.locals.few };
    modes = x.modes;
    based = x.based;
    parsed = x.parsed;
    deep = x.deep;
    counted = x.counted;
    values = x.values ∙ omega arith;
    short = x.short;
    inside = x.inside;
    enough = x.enough;
    opened = x.opened;
  }

-- before the first token
pub started : (text words : List ℕ) → length text ≤ most_text → Stacked 0 words
    → Scanning text words (record { at = 0; mode = Mode.Dotted; brackets = 0; deep = false; pairs = 0; largest = 0 }) nothing
unfolding parse unstacked element_pairs
started text words short stacked = record {
  frames = start;
  locals = record { stacked = stacked; room = omega arith; few = omega arith };
  modes = refl;
  based = refl;
  parsed = refl;
  deep = refl;
  counted = omega arith;
  values = sym (zero-max (largest_mark (marks_of text)));
  short = short;
  inside = omega arith;
  enough = omega arith;
  opened = omega arith;
}

-- at the end
module _ (text words : List ℕ) (s : Scan) (x : Scanning text words s nothing) (end : length text ≤ s.at) where
  last : drop s.at text ≡ []
  last = drop_of_length-le text end

  ends : parse text ≡ tree_of (within x.frames)
  unfolding parsed_from marks_after
  ends = rw last at x.parsed

  no_tree : tree_of (within x.frames) ≡ none → Err Fault.Outside ≡ judged text (parse text)
  no_tree e = rw (ends ∙ e)

  pub still_open : (s.brackets ≡ 0 → ⊥) → Err Fault.Outside ≡ judged text (parse text)
  still_open h = no_tree (go x.frames (height text words s nothing x))
    where
      go : (fs : List Frame) → length fs ≡ suc s.brackets → tree_of (within fs) ≡ none
      go [] e = refl
      go (f ∷ []) e = absurd (h (omega arith))
      go (plain es ∷ g ∷ fs) e = refl
      go (dotted es ∷ g ∷ fs) e = refl
      go (full es l ∷ g ∷ fs) e = refl

  pub no_datum : (digit s.mode ≡ 3 → ⊥) → Err Fault.Outside ≡ judged text (parse text)
  no_datum h = no_tree (go x.frames x.modes)
    where
      go : (fs : List Frame) → map mode_of fs ≡ digit s.mode ∷ unstacked s.brackets words → tree_of (within fs) ≡ none
      go [] m = refl
      go (plain es ∷ fs) m = refl
      go (dotted es ∷ fs) m = refl
      go (full es l ∷ fs) m = absurd (h (let z : digit s.mode ≡ 3 = cc in z))

  module _ (closed : s.brackets ≡ 0) (filled : digit s.mode ≡ 3) where
    whole : {A : Type 0} → ((t : Tree) → parse text ≡ tree t → s.pairs ≡ pairs t → A) → A
    unfolding element_pairs
    whole {A} then = go x.frames refl x.modes x.based x.counted (height text words s nothing x)
      where
        go : (fs : List Frame) → x.frames ≡ fs → map mode_of fs ≡ digit s.mode ∷ unstacked s.brackets words → Based fs → s.pairs ≡ open_pairs fs + 0
            → length fs ≡ suc s.brackets → A
        go [] e m b n h = absurd b
        go (plain es ∷ []) e m b n h = absurd b
        go (dotted es ∷ []) e m b n h = let z : 2 ≡ digit s.mode = cc in absurd (omega arith)
        go (full es t ∷ []) e m b n h = then t (ends ∙ rw e) (rw b at n ∙ omega arith)
        go (f ∷ g ∷ fs) e m b n h = absurd (omega arith)

    pub is_deep : s.deep ≡ true → Err Fault.TooDeep ≡ judged text (parse text)
    is_deep h = whole (λ t e n. let d : too_deep 0 text ≡ true = rw h at x.deep in rw (e, d))

    -- all marks are read
    value : largest_mark (marks_of text) ≡ s.largest
    unfolding marks_after
    value = rw last at x.values ∙ max-zero s.largest

    pub is_shallow : s.deep ≡ false → Ok (record { pairs = s.pairs; largest = s.largest }) ≡ judged text (parse text)
    unfolding too_deep
    is_shallow h = whole (λ t e n.
        let d : too_deep 0 text ≡ false = rw (h, last) at x.deep in
        let v : s.largest ≡ largest t = sym value ∙ text_largest text t e in
        rw (e, d, n, v))

pub taken_from : {from next : ℕ} (text words : List ℕ) (r : Option Scan) → from < next → TakenOf text words next r → TakenOf text words (from + 1) r
taken_from text words (Some s) h x = (x.0, omega (arith, x.1))
taken_from text words None h x = x

pub long_outside : (text : List ℕ) → most_text < length text → Err Fault.Outside ≡ scan_of text
unfolding scan_of
long_outside text h = rw (lt-leb (length text) most_text h)

pub short_judged : (text : List ℕ) → length text ≤ most_text → judged text (parse text) ≡ scan_of text
unfolding scan_of
short_judged text h = rw (le-leb (length text) most_text h)
