-- What the calls answer, in 01's numbers and values. The buffer names references by their tickets.
-- Assumes nothing.
use Rattle.std.specs.Prelude.{⊤, Result}
use Rattle.table.specs.declared.Ticket.{Ticket}
use Rattle.engine.specs.declared.Refusal.{Refusal}
use Rattle.engine.specs.declared.Executed.{Executed}
use Rattle.engine.specs.Contract
use Rattle.engine.specs.Contract.{done, named}
use Rattle.engine.specs.Answers.{says, says_executed}

abbrev pub Answer : Type 0
Answer = Contract.Answer Ticket

-- of opening and of squash
abbrev pub done_says : Result ⊤ Refusal → Answer
done_says = says (λ (u : ⊤). done)

-- of issue and of commit
abbrev pub ticket_says : Result Ticket Refusal → Answer
ticket_says = says named

-- of the executes
abbrev pub execute_says : Result (Executed Ticket) Refusal → Answer
execute_says = says says_executed
