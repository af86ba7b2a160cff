-- What a read gave, and what a program can rely on: of any reader how many bytes came, and of one whose bytes are known which.
use Rattle.std.specs.Prelude.{List, [], ℕ, ◌≤◌, ◌<◌, length, take, None, Some, Ok, Err}
use Rattle.std.specs.declared.option.Option.{Option}
use Rattle.std.specs.declared.result.Result.{Result}
use Rattle.std.specs.Io.KnownBytes.{Appends, Consumes, IsAtEnd}
use Rattle.streams.specs.declared.Failure.{Failure}

-- bytes that were read are some, and have room in a buffer of this length
abbrev pub Within : ℕ → Result (Option ℕ) Failure → Type 0
Within size (Ok (Some n)) = (0 < n) × (n ≤ size)
Within size (Ok None) = Unit {0}
Within size (Err e) = Unit {0}

-- what a read takes of the bytes that a reader has left, where they are known: those that it put into the buffer's front, and none at the end or where it
-- failed; the end is where none is left, unless the buffer has no room
abbrev pub Takes : Option (List ℕ) → Option (List ℕ) → Result (Option ℕ) Failure → List ℕ → Type 0
Takes old new (Ok (Some n)) buffer = Consumes old new (take n buffer)
Takes old new (Ok None) buffer = Consumes old new [] × (0 < length buffer → IsAtEnd new)
Takes old new (Err e) buffer = Consumes old new []

-- what a write that may fail adds to the bytes that a writer holds, where they are known: some of these from the front on
abbrev pub AddsSome : Option (List ℕ) → Option (List ℕ) → List ℕ → Type 0
AddsSome old new bytes = (n : ℕ) × (n ≤ length bytes) × Appends old new (take n bytes)

-- all of these, or where it failed some
abbrev pub Adds : Option (List ℕ) → Option (List ℕ) → List ℕ → Result (Unit {0}) Failure → Type 0
Adds old new bytes (Ok _) = Appends old new bytes
Adds old new bytes (Err e) = AddsSome old new bytes

-- what is told of why a program stopped
abbrev pub told : Result (Unit {0}) Failure → List ℕ → List ℕ → List ℕ
told (Ok _) reading writing = []
told (Err Failure.Reading) reading writing = reading
told (Err Failure.Writing) reading writing = writing
told (Err Failure.TooLong) reading writing = []
