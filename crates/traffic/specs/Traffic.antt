-- The rule of the traffic (document 02, A2): moves, draws, and the calls that a seed gives.
use Rattle.std.specs.Prelude.{ℕ, zero, suc, ◌+◌, ◌*◌, ◌/◌, ◌%◌, ◌^◌, cond, List, [], ◌∷◌, ◌==◌}
use Rattle.machine.specs.declared.RowCall.{RowCall}
use Rattle.machine.specs.Words.{first_atom}
use Rattle.line_text.specs.declared.Request.{Request}
use Rattle.traffic.specs.declared.Drawn.{Drawn}

-- "Its state has 32 bits and goes from s to 1,664,525 × s + 1,013,904,223, wrapped to 32 bits."
unfoldable pub moved : ℕ → ℕ
moved s = (1664525 * s + 1013904223) % 2 ^ 32

-- "Each draw is the upper 16 bits after a move."
unfoldable pub draw : ℕ → ℕ
draw s = moved s / 2 ^ 16

-- "An operand is a draw modulo C + 2, where C + 1 means atom 0."
unfoldable pub operand_drawn : ℕ → ℕ → ℕ
operand_drawn c d = let w = d % (c + 2) in cond (w == c + 1) first_atom w

-- "A number n is a draw modulo 4."
unfoldable pub number_drawn : ℕ → ℕ
number_drawn d = d % 4

-- a call, and the state after its draws
abbrev pub drawn : Request → ℕ → Drawn
drawn request state = record { request = request; state = state }

-- "Draw modulo 8 picks car, cdr, cons, setl, setr, up, down or step." "The call is drawn first, then its operands as written."
unfoldable pub call_drawn : ℕ → ℕ → Drawn
call_drawn c s =
    let kind = draw s % 8 in
    let s₁ = moved s in
    let x = operand_drawn c (draw s₁) in
    let s₂ = moved s₁ in
    let y = operand_drawn c (draw s₂) in
    let n = number_drawn (draw s₂) in
    let s₃ = moved s₂ in
    cond (kind == 0) (drawn (Request.Row (RowCall.Car x)) s₂)
    (cond (kind == 1) (drawn (Request.Row (RowCall.Cdr x)) s₂)
    (cond (kind == 2) (drawn (Request.Row (RowCall.Cons x y)) s₃)
    (cond (kind == 3) (drawn (Request.Row (RowCall.SetLeft x y)) s₃)
    (cond (kind == 4) (drawn (Request.Row (RowCall.SetRight x y)) s₃)
    (cond (kind == 5) (drawn (Request.Row (RowCall.Up x n)) s₃)
    (cond (kind == 6) (drawn (Request.Row (RowCall.Down x n)) s₃)
    (drawn Request.Step s₁)))))))

-- so many calls, each drawn from the state that the last one left
unfoldable pub calls_drawn : ℕ → ℕ → ℕ → List Request
calls_drawn c s zero = []
calls_drawn c s (suc n) = let d = call_drawn c s in d.request ∷ calls_drawn c d.state n

-- "It runs `fresh C` and then that many calls": by seed, C and number of calls
unfoldable pub traffic : ℕ → ℕ → ℕ → List Request
traffic seed c n = Request.Fresh c ∷ calls_drawn c seed n
