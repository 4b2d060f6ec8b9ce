-- What each call on an opened table comes to, over the plain state and the memory: answer, state and memory after it.
-- Assumes nothing.
use Rattle.std.specs.Prelude.{cond, List, [], ℕ, ltb, length}
use Rattle.std.proofs.Math.Option.{Option, none, some}
use Rattle.marks.specs.Circle.{stage}
use Rattle.table.specs.declared.Ticket.{Ticket}
use Rattle.table.specs.Reference.{Fate, number_of, fate_of, at, State}
use Rattle.table.specs.Moves.{issued, squash_to, retire}
use Rattle.lookup.specs.Forwarding.{forwarded, distance}
use Rattle.lookup.specs.Outcome.{survivors, executes}
use Rattle.engine.specs.declared.Action.{Action}
use Rattle.engine.specs.declared.Action.TheVariants.{Compute, LoadAt, StoreAt, PartAt}
use Rattle.engine.specs.declared.Part.{Part}
use Rattle.engine.specs.Conditions.{Check, refusal}
use Rattle.engine.specs.Contract
use Rattle.engine.specs.Contract.{done, named, executed, judged}
use Rattle.engine.specs.Execution.{fate_by, answer_of, written}
use Rattle.buffer_model.specs.Refusals.{place, issue_checks, execute_checks, squash_checks, commit_checks}

pub data Call : Type 0 where
  issue : Call
  execute : Ticket → Action → Call
  squash : Ticket → Call
  commit : Call

-- the executes by name: a load of an address, a store at an address of a word, a store at a byte number of a word's part, a
-- reference that touches no memory
abbrev pub execute_load : Ticket → ℕ → Call
execute_load τ a = execute τ (LoadAt a)

abbrev pub execute_store : Ticket → ℕ → ℕ → Call
execute_store τ a v = execute τ (StoreAt a v)

abbrev pub execute_part : Ticket → Part → ℕ → ℕ → Call
execute_part τ part b v = execute τ (PartAt part b v)

abbrev pub execute_other : Ticket → Call
execute_other τ = execute τ (Compute 0)

abbrev pub Result : Type 0
Result = Contract.Result State Ticket

-- the ticket of the reference at position p
abbrev pub ticket_at : State → ℕ → Ticket
ticket_at P p = record { stage = stage P.oldest P.stages p; number = number_of (at P.refs p) }

-- of the live references the first k stay
abbrev pub squash_from : State → ℕ → Option Ticket
squash_from P k = cond (ltb k (length P.refs)) (some (ticket_at P k)) none

-- the fate of the ticket's reference once it has executed this, on memory as the older references leave it
abbrev pub comes_to : State → List ℕ → Ticket → Action → Fate
comes_to P memory τ act = fate_by (forwarded P memory (place P τ)) act

-- what each call that is not refused comes to
abbrev pub accepted_result : Call → State → List ℕ → Result
accepted_result issue P memory =
    record {
      answer = named (record { stage = stage P.oldest P.stages (length P.refs); number = P.next });
      state = issued P;
      memory = memory;
      list = [];
    }
accepted_result (execute τ act) P memory =
    record {
      answer =
          executed (answer_of (forwarded P memory (place P τ)) act)
          (answer_of (distance P.refs (place P τ)) act)
          (squash_from P (survivors P (place P τ) (comes_to P memory τ act)));
      state = executes P (place P τ) (comes_to P memory τ act);
      memory = memory;
      list = [];
    }
accepted_result (squash τ) P memory = record { answer = done; state = squash_to P (place P τ); memory = memory; list = [] }
accepted_result commit P memory =
    record {
      answer = named (ticket_at P 0);
      state = retire P;
      memory = written memory (fate_of (at P.refs 0));
      list = [];
    }

-- the conditions of each call
abbrev pub checks_of : Call → State → List ℕ → List Check
checks_of issue P memory = issue_checks P
checks_of (execute τ act) P memory = execute_checks P memory τ (comes_to P memory τ act)
checks_of (squash τ) P memory = squash_checks P τ
checks_of commit P memory = commit_checks P memory

abbrev pub refusal_of : Call → State → List ℕ → ℕ
refusal_of c P memory = refusal (checks_of c P memory)

unfoldable pub respond : Call → State → List ℕ → Result
respond c P memory = judged (refusal_of c P memory) P memory [] (accepted_result c P memory)
