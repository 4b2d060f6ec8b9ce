-- Where each call of the buffer is turned down, in the order of 01's table, on a table that keeps its rules.
-- Assumes nothing.
use Rattle.std.specs.Prelude.{Bool, not, ◌&&◌, List, [], ◌∷◌, ℕ, eqb, ltb, length}
use Rattle.marks.specs.Circle.{position}
use Rattle.table.specs.declared.Ticket.{Ticket}
use Rattle.table.specs.Limits.{sizes_fit}
use Rattle.table.specs.Reference.{Fate, idle, number_of, fate_of, at, State}
use Rattle.lookup.specs.Outcome.{survivors}
use Rattle.engine.specs.Conditions.{Check, when, wrong_length, faults}

-- the position that a ticket's stage has in the window
abbrev pub place : State → Ticket → ℕ
place P τ = position P.oldest P.stages τ.stage

-- A ticket names its stage's live reference if this was issued under its number.
abbrev pub names : State → Ticket → Bool
names P τ =
    ltb τ.stage P.stages && (ltb (place P τ) (length P.refs) && eqb (number_of (at P.refs (place P τ))) τ.number)

abbrev pub open_checks : ℕ → ℕ → ℕ → ℕ → List ℕ → List Check
open_checks banks rows stages words memory =
    when (not (sizes_fit banks rows stages words)) 1 ∷ wrong_length words memory ∷ []

abbrev pub issue_checks : State → List Check
issue_checks P = when (eqb (length P.refs) P.stages) 5 ∷ []

abbrev pub execute_checks : State → List ℕ → Ticket → Fate → List Check
execute_checks P memory τ f =
    wrong_length P.words memory ∷ when (not (names P τ)) 7 ∷ when (not (idle (fate_of (at P.refs (place P τ))))) 8
    ∷ when (eqb (survivors P (place P τ) f) 0) 10
    ∷ []

abbrev pub squash_checks : State → Ticket → List Check
squash_checks P τ = when (not (names P τ)) 7 ∷ []

abbrev pub commit_checks : State → List ℕ → List Check
commit_checks P memory =
    wrong_length P.words memory ∷ when (eqb (length P.refs) 0) 11 ∷ when (idle (fate_of (at P.refs 0))) 12
    ∷ when (faults P.words (fate_of (at P.refs 0))) 13
    ∷ []
