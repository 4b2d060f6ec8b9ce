-- An answer of the buffer as the numbers that cross to C, and what each exported call promises: the buffer's own contract, of an
-- answer that crossed as these numbers.
-- Assumes nothing.
use Rattle.std.specs.Prelude.{◌≡◌, cond, List, ℕ, eqb}
use Rattle.std.proofs.Math.Option.{none, some}
use Rattle.table.specs.declared.Table.{Table}
use Rattle.table.specs.declared.Ticket.{Ticket}
use Rattle.engine.specs.Contract.{refused, done, named, executed, committed, finished}
use Rattle.buffer_model.specs.Answers.{Answer}
use Rattle.buffer_model.specs.Calls.{Call, issue, execute, squash, commit}
use Rattle.buffer_model.specs.Contract.{Meets, Opens}
use Rattle.embed.specs.declared.Numbers.{Numbers}
use Rattle.embed.specs.declared.Done.{Done}
use Rattle.embed.specs.declared.Named.{Named}
use Rattle.embed.specs.declared.Executed.{Executed}

abbrev pub numbered : ℕ → ℕ → ℕ → ℕ → Ticket → Numbers
numbered refusal value distance squashed ticket =
    record { ticket = ticket; refusal = refusal; value = value; distance = distance; squashed = squashed }

abbrev pub no_ticket : Ticket
no_ticket = record { stage = 0; number = 0 }

-- A refusal crosses as its number, and any other answer as 0 and what it carries, with 0 for what it lacks. The buffer makes no
-- machine's commit and no finish.
abbrev pub numbers_of : Answer → Numbers
numbers_of (refused k) = numbered k 0 0 0 no_ticket
numbers_of done = numbered 0 0 0 0 no_ticket
numbers_of (named τ) = numbered 0 0 0 0 τ
numbers_of (executed v d none) = numbered 0 v d 0 no_ticket
numbers_of (executed v d (some τ)) = numbered 0 v d 1 τ
numbers_of (committed i c r v d) = numbered 0 0 0 0 no_ticket
numbers_of (finished n) = numbered 0 0 0 0 no_ticket

-- The answer to call c that these numbers tell (proofs/Told.antt: the one that was given).
abbrev pub acceptance : Call → Numbers → Answer
acceptance issue n = named n.ticket
acceptance (execute τ act) n = executed n.value n.distance (cond (eqb n.squashed 0) none (some n.ticket))
acceptance (squash τ) n = done
acceptance commit n = named n.ticket

abbrev pub told : Call → Numbers → Answer
told c n = cond (eqb n.refusal 0) (acceptance c n) (refused n.refusal)

-- Call c on table t and memory m met its contract with table u and memory v, and its answer is one that crossed as `Told` says.
pub record Crosses (t : Table) (c : Call) (m : List ℕ) (u : Table) (v : List ℕ) (Told : Answer → Type 0) : Type 0 where
  pub said : Answer
  pub meets : Meets t c m said u v
  pub numbers_are : Told said

-- how an answer crossed: all of its numbers, its number and ticket, its number alone
abbrev pub WithAll : Executed → Answer → Type 0
WithAll r said = r.numbers ≡ numbers_of said

abbrev pub WithTicket : Named → Answer → Type 0
WithTicket r said = (r.refusal ≡ (numbers_of said).refusal) × (r.ticket ≡ (numbers_of said).ticket)

abbrev pub WithNumber : Done → Answer → Type 0
WithNumber r said = r.refusal ≡ (numbers_of said).refusal

-- an execution, which leaves the memory; an issue or a commit; a squash; an opening
abbrev pub Runs : Table → Call → List ℕ → Executed → Type 0
Runs t c m r = Crosses t c m r.table m (WithAll r)

abbrev pub Names : Table → Call → List ℕ → Named → List ℕ → Type 0
Names t c m r v = Crosses t c m r.table v (WithTicket r)

abbrev pub Does : Table → Call → List ℕ → Done → Type 0
Does t c m r = Crosses t c m r.table m (WithNumber r)

pub record Starts (banks rows stages words : ℕ) (m : List ℕ) (r : Done) : Type 0 where
  pub said : Answer
  pub opens : Opens banks rows stages words m said r.table
  pub numbers_are : WithNumber r said
