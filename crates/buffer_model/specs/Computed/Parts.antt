-- What the parts of a call compute, as the code does it, over the arrays lent to them.
-- Assumes nothing.
use Rattle.std.specs.Prelude.{Bool, cond, not, List, [], ◌∷◌, ℕ, eqb, ltb, get_or, Option, Some, None}
use Rattle.marks.specs.Circle.{stage}
use Rattle.table.specs.declared.Table.{Table}
use Rattle.table.specs.declared.Ticket.{Ticket}
use Rattle.engine.specs.Conditions.{refusal, when}

-- an execution's conditions before its row is looked for, on a table that keeps its rules
abbrev pub execute_refusal : ℕ → ℕ → Bool → Bool → ℕ
execute_refusal words lent is_named is_executed =
    refusal (when (not (eqb lent words)) 3 ∷ when (not is_named) 7 ∷ when is_executed 8 ∷ [])

-- where references are squashed from when `left` of `live` stay
abbrev pub cut_from : ℕ → ℕ → ℕ → ℕ → List ℕ → Option Ticket
cut_from oldest stages live left numbers =
    cond (ltb left live)
    (Some (record { stage = stage oldest stages left; number = get_or numbers (stage oldest stages left) 0 }))
    None

-- the same of a table
abbrev pub cut_in : Table → ℕ → Option Ticket
cut_in t left = cut_from t.oldest t.stages t.live left t.numbers
