-- Whether a ticket names a live reference, in the form that the code computes over the arrays lent to it.
-- Assumes nothing.
use Rattle.std.specs.Prelude.{Bool, ◌&&◌, List, ℕ, eqb, ltb, get_or}
use Rattle.marks.specs.Circle.{position}
use Rattle.table.specs.declared.Table.{Table}
use Rattle.table.specs.declared.Ticket.{Ticket}

-- stage s is live and was issued under this number
abbrev pub named_by : ℕ → ℕ → ℕ → List ℕ → ℕ → ℕ → Bool
named_by oldest stages live numbers s number =
    ltb s stages && (ltb (position oldest stages s) live && eqb (get_or numbers s 0) number)

-- the ticket names a live reference of the table
abbrev pub names : Table → Ticket → Bool
names t τ = named_by t.oldest t.stages t.live t.numbers τ.stage τ.number
