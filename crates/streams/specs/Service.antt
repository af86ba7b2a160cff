-- How a program goes through its input, whatever it does with it. Threads s x y s' and Sends s y more out s' are the relations that the program gives
-- (src/service): calls that take the bytes x and give the bytes y lead from the state s to s'.
use Rattle.std.specs.Prelude.{◌≡◌, Bool, true, false, List, [], ◌++◌, ℕ, ◌+◌, ◌^◌, ◌≤◌, length, take, None, Some, Ok, Err, OnOk, IfErr}
use Rattle.std.specs.declared.option.Option.{Option}
use Rattle.std.specs.declared.result.Result.{Result}
use Rattle.std.specs.Io.KnownBytes.{Consumes, IsAtEnd}
use Rattle.streams.specs.declared.Failure.{Failure}
use Rattle.streams.specs.Reading.{Adds}

-- how the input was left: all was taken up to its end, and all of what was read but where a write failed; no input of fewer than 2^64 - 1 bytes is too long
abbrev pub Left : Result (Unit {0}) Failure → List ℕ → List ℕ → Option (List ℕ) → Type 0
Left (Ok _) taken rest r = (rest ≡ []) × IsAtEnd r
Left (Err Failure.Reading) taken rest r = rest ≡ []
Left (Err Failure.Writing) taken rest r = Unit {0}
Left (Err Failure.TooLong) taken rest r = (rest ≡ []) × (2 ^ 64 ≤ length taken + 1)

module _ {S : Type 0} (Threads : S → List ℕ → List ℕ → S → Type 0) where
  -- a part of the input is taken from its front on, all of it unless a write failed; what was given for it is written
  pub record Relays (s : S) (input : List ℕ) (w : Option (List ℕ)) (result : Result (Unit {0}) Failure) (s' : S) (w' : Option (List ℕ)) : Type 0 where
    pub taken : ℕ
    pub given : List ℕ
    pub most : taken ≤ length input
    pub all : OnOk result (taken ≡ length input)
    pub threads : Threads s (take taken input) given s'
    pub adds : Adds w w' given result

  -- after a read into the buffer its bytes are relayed, and there may be more; at the end of the input and after a failure nothing is fed or written
  abbrev pub Follows : Result (Option ℕ) Failure → S → List ℕ → Option (List ℕ) → Result Bool Failure → S → Option (List ℕ) → Type 0
  Follows (Ok (Some n)) s buffer w (Ok true) s' w' = Relays s (take n buffer) w (Ok tt) s' w'
  Follows (Ok (Some n)) s buffer w (Ok false) s' w' = ⊥
  Follows (Ok (Some n)) s buffer w (Err e) s' w' = (e ≡ Failure.Writing) × Relays s (take n buffer) w (Err e) s' w'
  Follows (Ok None) s buffer w (Ok true) s' w' = ⊥
  Follows (Ok None) s buffer w (Ok false) s' w' = (s' ≡ s) × (w' ≡ w)
  Follows (Ok None) s buffer w (Err e) s' w' = ⊥
  Follows (Err e) s buffer w (Ok more) s' w' = ⊥
  Follows (Err e) s buffer w (Err x) s' w' = (x ≡ e) × (s' ≡ s) × (w' ≡ w)

  -- an input is read and taken, byte after byte, and what was given for it is written
  pub record TakesInput (s : S) (r w : Option (List ℕ)) (result : Result (Unit {0}) Failure) (s' : S) (r' w' : Option (List ℕ)) : Type 0 where
    pub taken : List ℕ
    pub given : List ℕ
    pub rest : List ℕ
    pub threads : Threads s taken given s'
    pub consumes : Consumes r r' (taken ++ rest)
    pub left : Left result taken rest r'
    pub adds : Adds w w' given result

module _ {S : Type 0} (Sends : S → List ℕ → Bool → List ℕ → S → Type 0) where
  -- all that there is to give is given, unless a write failed, and written
  pub record Sending (s : S) (w : Option (List ℕ)) (result : Result (Unit {0}) Failure) (out : List ℕ) (s' : S) (w' : Option (List ℕ)) : Type 0 where
    pub given : List ℕ
    pub more : Bool
    pub sends : Sends s given more out s'
    pub over : OnOk result (more ≡ false)
    pub adds : Adds w w' given result

-- an input is taken, and at its end, and only there, what is left is given, as Ends has it of the last state, or where a write failed as far as it came, as
-- Tries has it; where it was not taken to its end nothing is done after that: nothing more is given, and the state is the last; what was given is written
pub record Serves {S : Type 0} (Threads : S → List ℕ → List ℕ → S → Type 0) (Ends Tries : S → List ℕ → Type 0) (s : S) (r w : Option (List ℕ))
    (result : Result (Unit {0}) Failure) (s' : S) (r' w' : Option (List ℕ)) : Type 0 where
  pub taken : List ℕ
  pub given : List ℕ
  pub rest : List ℕ
  pub last : S
  pub threads : Threads s taken given last
  pub consumes : Consumes r r' (taken ++ rest)
  pub left : Left result taken rest r'
  pub ending : List ℕ
  pub ends : OnOk result (Ends last ending)
  pub took : Result (Unit {0}) Failure
  pub tried : OnOk took (Tries last ending)
  pub at_end : OnOk took ((rest ≡ []) × IsAtEnd r')
  pub unended : IfErr took (λ e. (result ≡ Err e) × (ending ≡ []) × (s' ≡ last))
  pub adds : Adds w w' (given ++ ending) result
