-- How far the shell's loops have come.
use Rattle.std.proofs.Common.{◌≡◌, refl, Bool, true, false, ℕ, ◌+◌, ◌-◌, ◌^◌, ◌≤◌, ◌<◌, List, [], ◌++◌, append_assoc, append-nil, length, length-append, length-drop, length-take-le, take, drop, take-append-drop, arith, ap, ◌∙◌, None, Some, Ok, Err, IfErr, OnOk}
use Rattle.std.proofs.lemmas.List.{take_rest}
use Rattle.std.proofs.Math.Seq.{take-add, take-append-add, take-length}
use Rattle.std.specs.declared.option.Option.{Option}
use Rattle.std.specs.declared.result.Result.{Result}
use Rattle.std.specs.Io.KnownBytes.{Appends, Consumes}
use Rattle.std.proofs.KnownBytes.{Appends-trans, Consumes-nil, Consumes-trans}
use Rattle.streams.specs.declared.Failure.{Failure}
use Rattle.streams.specs.Reading.{Within, Takes, Adds}
use Rattle.streams.specs.Service.{Relays, Follows, Left, TakesInput, Sending, Serves}

-- one more write
pub adds_both : (a b c : Option (List ℕ)) (x y : List ℕ) (r : Result (Unit {0}) Failure) → Appends a b x → Adds b c y r → Adds a c (x ++ y) r
adds_both a b c x y (Ok u) p q = Appends-trans a b c x y p q
adds_both a b c x y (Err e) p q =
    (length x + q.0, omega (arith, length-append x y, q.1), rw (take-append-add x y q.0) (Appends-trans a b c x (take q.0 y) p q.2))

-- what is written is all of the bytes
pub adds_all : (a b : Option (List ℕ)) (x : List ℕ) (r : Result (Unit {0}) Failure) → Appends a b x → Adds a b x r
adds_all a b x (Ok u) p = p
adds_all a b x (Err e) p = (length x, omega arith, rw (take-length x) p)

pub rest_length : (s : List ℕ) (n : ℕ) → length (take (length s - n) (drop n s)) ≡ length s - n
rest_length s n = ap length (take_rest s n) ∙ length-drop n s

module _ {S : Type 0} (Threads : S → List ℕ → List ℕ → S → Type 0) where
  -- how far the calls of `feed` on a part of the input have come
  pub record Relaying (s : S) (input : List ℕ) (w : Option (List ℕ)) (s' : S) (w' : Option (List ℕ)) (from : ℕ) : Type 0 where
    pub given : List ℕ
    pub most : from ≤ length input
    pub threads : Threads s (take from input) given s'
    pub appends : Appends w w' given

  -- how far a run has come
  pub record Taking (s : S) (r w : Option (List ℕ)) (s' : S) (r' w' : Option (List ℕ)) (reads : ℕ) : Type 0 where
    pub taken : List ℕ
    pub given : List ℕ
    pub threads : Threads s taken given s'
    pub consumes : Consumes r r' taken
    pub counted : reads ≤ length taken
    pub appends : Appends w w' given

module _ {S : Type 0} {Threads : S → List ℕ → List ℕ → S → Type 0}
    (both : (s s' s'' : S) (x y x' y' : List ℕ) → Threads s x y s' → Threads s' x' y' s'' → Threads s (x ++ x') (y ++ y') s'') where
  -- one more call, on the rest of the part
  pub more_threads : {s s' s'' : S} (input piece given : List ℕ) (from n : ℕ) → Threads s (take from input) given s'
      → Threads s' (take n (take (length input - from) (drop from input))) piece s'' → Threads s (take (from + n) input) (given ++ piece) s''
  more_threads {s} {s'} {s''} input piece given from n a b =
      rw (take-add from n input) (both s s' s'' _ _ _ _ a (rw (take_rest input from) at b))

  module _ {s s' s'' : S} {r r' r'' w w' w'' : Option (List ℕ)} {reads : ℕ} (a : Taking Threads s r w s' r' w' reads) (part : List ℕ)
      (read : Consumes r' r'' part) where
    -- one more read, all of which is taken
    pub taking_more : {u : Unit {0}} → 0 < length part → Relays Threads s' part w' (Ok u) s'' w'' → Taking Threads s r w s'' r'' w'' (reads + 1)
    taking_more some relays = record {
      taken = a.taken ++ part;
      given = a.given ++ relays.given;
      threads = both s s' s'' _ _ _ _ a.threads (rw (relays.all, take-length part) at relays.threads);
      consumes = Consumes-trans r r' r'' a.taken part a.consumes read;
      counted = omega (arith, length-append a.taken part, a.counted);
      appends = Appends-trans w w' w'' a.given relays.given a.appends relays.adds;
    }

    -- one more read, and a write that failed
    pub taking_failed : Relays Threads s' part w' (Err Failure.Writing) s'' w'' → TakesInput Threads s r w (Err Failure.Writing) s'' r'' w''
    taking_failed relays = record {
      taken = a.taken ++ take relays.taken part;
      given = a.given ++ relays.given;
      rest = drop relays.taken part;
      threads = both s s' s'' _ _ _ _ a.threads relays.threads;
      consumes = rw (append_assoc, take-append-drop) (Consumes-trans r r' r'' a.taken part a.consumes read);
      left = tt;
      adds = adds_both w w' w'' a.given relays.given (Err Failure.Writing) a.appends relays.adds;
    }

module _ {S : Type 0} {Threads : S → List ℕ → List ℕ → S → Type 0} {s s' : S} {r r' w w' : Option (List ℕ)} {reads : ℕ}
    (a : Taking Threads s r w s' r' w' reads) where
  -- a read that failed
  pub taking_unread : {r'' : Option (List ℕ)} → Consumes r' r'' [] → TakesInput Threads s r w (Err Failure.Reading) s' r'' w'
  taking_unread {r''} read = record {
    taken = a.taken;
    given = a.given;
    rest = [];
    threads = a.threads;
    consumes = Consumes-trans r r' r'' a.taken [] a.consumes read;
    left = refl;
    adds = adds_all w w' a.given (Err Failure.Reading) a.appends;
  }

  pub taking_too_long : 2 ^ 64 ≤ reads + 1 → TakesInput Threads s r w (Err Failure.TooLong) s' r' w'
  taking_too_long most = record {
    taken = a.taken;
    given = a.given;
    rest = [];
    threads = a.threads;
    consumes = Consumes-trans r r' r' a.taken [] a.consumes (Consumes-nil r');
    left = (refl, omega (arith, a.counted));
    adds = adds_all w w' a.given (Err Failure.TooLong) a.appends;
  }

module _ {S : Type 0} {Threads : S → List ℕ → List ℕ → S → Type 0}
    (both : (s s' s'' : S) (x y x' y' : List ℕ) → Threads s x y s' → Threads s' x' y' s'' → Threads s (x ++ x') (y ++ y') s'')
    {s s' s'' : S} {r r' r'' w w' w'' : Option (List ℕ)} {reads : ℕ} (a : Taking Threads s r w s' r' w' reads) (buffer : List ℕ) where
  -- one more read, and what followed
  pub followed_failed : (read : Result (Option ℕ) Failure) (e : Failure) → IfErr read (λ x. x ≡ Failure.Reading) → Takes r' r'' read buffer
      → Follows Threads read s' buffer w' (Err e) s'' w'' → TakesInput Threads s r w (Err e) s'' r'' w''
  followed_failed (Ok (Some n)) e p t f = rw f.0 (taking_failed both a (take n buffer) t (rw f.0 at f.1))
  followed_failed (Ok None) e p t f = absurd f
  followed_failed (Err x) e p t f = rw (f.1, f.2, f.0, p) (taking_unread a t)

  pub followed_more : (read : Result (Option ℕ) Failure) → Within (length buffer) read → Takes r' r'' read buffer
      → Follows Threads read s' buffer w' (Ok true) s'' w'' → Taking Threads s r w s'' r'' w'' (reads + 1)
  followed_more (Ok (Some n)) i t f = taking_more both a (take n buffer) t (omega (arith, length-take-le n buffer i.1, i.0)) f
  followed_more (Ok None) i t f = absurd f
  followed_more (Err x) i t f = absurd f

  pub followed_end : {u : Unit {0}} (read : Result (Option ℕ) Failure) → 0 < length buffer → Takes r' r'' read buffer
      → Follows Threads read s' buffer w' (Ok false) s'' w'' → TakesInput Threads s r w (Ok u) s'' r'' w''
  followed_end (Ok (Some n)) l t f = absurd f
  followed_end (Ok None) l t f = rw (f.0, f.1) (record {
    taken = a.taken;
    given = a.given;
    rest = [];
    threads = a.threads;
    consumes = Consumes-trans r r' r'' a.taken [] a.consumes t.0;
    left = (refl, t.1 l);
    adds = a.appends;
  })
  followed_end (Err x) l t f = absurd f

module _ {S : Type 0} (Sends : S → List ℕ → Bool → List ℕ → S → Type 0) where
  -- how far the calls of `next` have come: what follows from here follows from the beginning
  pub record Going (s : S) (w : Option (List ℕ)) (s' : S) (w' : Option (List ℕ)) : Type 0 where
    pub given : List ℕ
    pub appends : Appends w w' given
    pub goes_on : (s'' : S) (x out : List ℕ) (more : Bool) → Sends s' x more out s'' → Sends s (given ++ x) more out s''

module _ {S : Type 0} {Sends : S → List ℕ → Bool → List ℕ → S → Type 0}
    (both : (s s' s'' : S) (x y out out' : List ℕ) (more : Bool) → Sends s x true out s' → Sends s' y more out' s'' → Sends s (x ++ y) more out' s'') where
  -- one more call, after which there is more
  pub going_more : {s s' s'' : S} {w w' w'' : Option (List ℕ)} {piece out : List ℕ} (a : Going Sends s w s' w') → Sends s' piece true out s''
      → Appends w' w'' piece → Going Sends s w s'' w''
  going_more {s} {s'} {s''} {w} {w'} {w''} {piece} {out} a p q = record {
    given = a.given ++ piece;
    appends = Appends-trans w w' w'' a.given piece a.appends q;
    goes_on = λ z x out' more r. rw append_assoc (a.goes_on z (piece ++ x) out' more (both s' s'' z piece x out out' more p r));
  }

sent_left : {u : Unit {0}} (taken rest : List ℕ) (r : Option (List ℕ)) (result : Result (Unit {0}) Failure) → IfErr result (λ e. e ≡ Failure.Writing)
    → Left (Ok u) taken rest r → Left result taken rest r
sent_left taken rest r (Ok v) f a = a
sent_left taken rest r (Err e) f a = rw f tt

sent_over : (P : Bool → Type 0) {Q : Type 0} {more : Bool} (result : Result (Unit {0}) Failure) → (P false → Q) → OnOk result (more ≡ false)
    → P more → OnOk result Q
sent_over P (Ok v) ends over a = ends (rw over at a)
sent_over P (Err e) ends over a = tt

module _ {S : Type 0} {Threads : S → List ℕ → List ℕ → S → Type 0} (Ends Tries : S → List ℕ → Type 0) {s s' : S} {r r' w w' : Option (List ℕ)} where
  -- the input was not taken to its end
  pub not_taken : {e : Failure} → TakesInput Threads s r w (Err e) s' r' w' → Serves Threads Ends Tries s r w (Err e) s' r' w'
  not_taken {e} a = record {
    taken = a.taken;
    given = a.given;
    rest = a.rest;
    last = s';
    threads = a.threads;
    consumes = a.consumes;
    left = a.left;
    ending = [];
    ends = tt;
    took = Err e;
    tried = tt;
    at_end = tt;
    unended = (refl, refl, refl);
    adds = rw append-nil a.adds;
  }

  -- the input was taken to its end, and what is left was sent
  pub taken_sent : {T : Type 0} {Sends : T → List ℕ → Bool → List ℕ → T → Type 0} {t t' : T} {s'' : S} {w'' : Option (List ℕ)} {u : Unit {0}}
      {result : Result (Unit {0}) Failure} {out : List ℕ} → TakesInput Threads s r w (Ok u) s' r' w' → IfErr result (λ e. e ≡ Failure.Writing)
      → Sending Sends t w' result out t' w'' → ((y : List ℕ) → Sends t y false out t' → Ends s' y)
      → ((y : List ℕ) (m : Bool) → Sends t y m out t' → Tries s' y) → Serves Threads Ends Tries s r w result s'' r' w''
  taken_sent {Sends = Sends} {t = t} {t' = t'} {w'' = w''} {u = u} {result = result} {out = out} a f b ends tries = record {
    taken = a.taken;
    given = a.given;
    rest = a.rest;
    last = s';
    threads = a.threads;
    consumes = a.consumes;
    left = sent_left a.taken a.rest r' result f a.left;
    ending = b.given;
    ends = sent_over (λ m. Sends t b.given m out t') result (ends b.given) b.over b.sends;
    took = Ok u;
    tried = tries b.given b.more b.sends;
    at_end = a.left;
    unended = tt;
    adds = adds_both w w' w'' a.given b.given result a.adds b.adds;
  }
