-- Demand 3 is not vacuous: the machine's own calls are joined links, and the theorem holds of K1's twelve.
use mathlib.Core.Path.{◌≡◌, refl, ap, ◌∙◌}
use mathlib.Core.List.{List, [], ◌∷◌}
use Rattle.machine.specs.Range.{matching}
use Rattle.machine.specs.Calls.{Call, Reply, Store}
use Rattle.machine.specs.Machine.{machine, run, replies}
use Rattle.machine.specs.Cases.{unmade, k1_calls, k1_replies, k1_table}
use Rattle.machine.proofs.Kept.{kept}
use Rattle.machine.proofs.Cases.{K}
use Rattle.soundness.specs.Demand3.{Link, Joined, Begun, table_after, queue_after, holds, gains, gives, moved, Answered, answers, holds_from, holds_after, Clauses}
use Rattle.soundness.specs.Reliable.{fields, puts, put, fields_from, fields_after}
use Rattle.soundness.specs.Links.{links_of}
use Rattle.soundness.proofs.Theorem.{demand3}

pub machine_joined : (s : Store) (calls : List Call) → Joined s.table s.queue (links_of machine s calls)
unfolding links_of
machine_joined s [] = tt
machine_joined s (call ∷ calls) = (kept s call, machine_joined (machine s call).after calls)

table_ran : (s : Store) (calls : List Call) → table_after s.table (links_of machine s calls) ≡ (run s calls).table
unfolding links_of run
table_ran s [] = refl
table_ran s (call ∷ calls) = table_ran (machine s call).after calls

-- calls with their replies
abbrev answered : List Call → List Reply → List Answered
answered [] rs = []
answered (c ∷ cs) [] = []
answered (c ∷ cs) (r ∷ rs) = record { call = c; reply = r } ∷ answered cs rs

answers_ran : (s : Store) (calls : List Call) → answers (links_of machine s calls) ≡ answered calls (replies s calls)
unfolding links_of replies
answers_ran s [] = refl
answers_ran s (call ∷ calls) = ap (λ (as' : List Answered). record { call = call; reply = (machine s call).reply } ∷ as') (answers_ran (machine s call).after calls)

pub k1_links : List Link
k1_links = links_of machine unmade k1_calls

k1_replied : replies unmade k1_calls ≡ k1_replies
k1_replied = K.replies.0

k1_begun : Begun k1_links
unfolding k1_links links_of replies
k1_begun = (3, 0, refl, heads _ _ _ _ k1_replied)
  where
    heads : (a b : Reply) (xs ys : List Reply) → a ∷ xs ≡ b ∷ ys → a ≡ b
    heads a b xs ys h = cc

-- the theorem, at K1's table
pub k1_clauses : Clauses k1_table (queue_after unmade.queue k1_links) (holds_after k1_links)
unfolding k1_links
k1_clauses = rw (table_ran unmade k1_calls, K.k1_ends) at (demand3 unmade.table unmade.queue k1_links k1_begun (machine_joined unmade k1_calls))

-- the holds that it speaks of: all that was gained has been given up
pub record K1-Holds : Type 0 where
  pub first : holds_after k1_links 1 ≡ holds 1 1
  pub second : holds_after k1_links 2 ≡ holds 2 2
  pub third : holds_after k1_links 3 ≡ holds 0 0

k1_answers : answers k1_links ≡ answered k1_calls k1_replies
unfolding k1_links
k1_answers = answers_ran unmade k1_calls ∙ ap (answered k1_calls) k1_replied

pub k1_holds : K1-Holds
unfolding holds_from moved gains gives matching
k1_holds = record { first = rw k1_answers; second = rw k1_answers; third = rw k1_answers }

-- the fields that `Reliable` speaks of: what the two conses and the replace put, told without the table, also now that both cells are free
pub record K1-Fields : Type 0 where
  pub first : fields_after k1_links 1 ≡ fields 0 32775
  pub second : fields_after k1_links 2 ≡ fields 1 2
  pub third : fields_after k1_links 3 ≡ fields 0 0

pub k1_fields : K1-Fields
unfolding fields_from put puts
k1_fields = record { first = rw k1_answers; second = rw k1_answers; third = rw k1_answers }
