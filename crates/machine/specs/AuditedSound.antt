-- "A store that the audit finds sound", demand 2's premise: `Promise.Decided` says it by the record `Sound`, and both are the same. Proved in
-- proofs/AuditedSound.
use Rattle.std.specs.Prelude.{◌≡◌, ◌↔◌, List, ℕ, ◌≤◌, length}
use Rattle.machine.specs.declared.Queue.{Queue}
use Rattle.machine.specs.Table.{capacity, scratch_words}
use Rattle.machine.specs.Calls.{audit, Reply, sound, Store, store}
use Rattle.machine.specs.Audit.{Sound}
use Rattle.machine.specs.Promise.{Promise}

-- Of any table, queue and scratch: an audit replies sound exactly where the store is sound and the scratch is enough.
abbrev pub AuditedSound : Type 0
AuditedSound = (t : List ℕ) (q : Queue) (s : List ℕ) (r : Reply) (after : Store) → Promise (store t q s) audit r after
    → (r ≡ sound) ↔ (Sound t q × (scratch_words (capacity t) ≤ length s))
