-- The life of a table: calls one after the other, each on the table that the call before handed back, as their contracts say,
-- refused ones among them, with any memory lent to each; how many references they issued, and where they moved each.
-- Assumes nothing.
use Rattle.std.specs.Prelude.{Bool, true, false, cond, List, [], ◌∷◌, ℕ, zero, suc, ltb, length}
use Rattle.std.proofs.Math.Option.{Option, none, some}
use Rattle.table.specs.declared.Ticket.{Ticket}
use Rattle.table.specs.declared.Table.{Table}
use Rattle.table.specs.View.{view}
use Rattle.engine.specs.declared.Action.{Action}
use Rattle.engine.specs.Contract.{refused, done, named, executed, committed, finished}
use Rattle.buffer_model.specs.Answers.{Answer}
use Rattle.buffer_model.specs.Calls.{Call, issue, execute, squash, commit}
use Rattle.buffer_model.specs.Contract.{Meets}

-- a call, its answer, and how many references are live after it
pub data Event : Type 0 where
  event : Call → Answer → ℕ → Event

-- from table t these events, the latest first, led to table u
pub data TableLife (t : Table) : List Event → Table → Type 0 where
  born : TableLife t [] t
  lived : {es : List Event} {u w : Table} {c : Call} {said : Answer} {m v : List ℕ}
      → TableLife t es u → Meets u c m said w v → TableLife t (event c said (length (view w).refs) ∷ es) w

-- the answer is a ticket: an issue or a commit that was not refused
abbrev pub is_ticket : Answer → Bool
is_ticket (refused k) = false
is_ticket done = false
is_ticket (named τ) = true
is_ticket (executed v d s) = false
is_ticket (committed i c r v d) = false
is_ticket (finished k) = false

-- one more issue, where the call is one that was not refused
abbrev pub with_issue : Event → ℕ → ℕ
with_issue (event issue said left) n = cond (is_ticket said) (suc n) n
with_issue (event (execute τ act) said left) n = n
with_issue (event (squash τ) said left) n = n
with_issue (event commit said left) n = n

-- how many issues were not refused
unfoldable pub issues_in : List Event → ℕ
issues_in [] = 0
issues_in (e ∷ es) = with_issue e (issues_in es)

-- the first `left` references stay, the others are squashed
abbrev pub unless_squashed : ℕ → ℕ → Option ℕ
unless_squashed left p = cond (ltb p left) (some p) none

-- the oldest is committed, the others are one position older
abbrev pub unless_committed : ℕ → Option ℕ
unless_committed zero = none
unless_committed (suc p) = some p

-- the position after this event of the reference that was at position p; none where the call squashed or committed it
abbrev pub moved_to : Event → ℕ → Option ℕ
moved_to (event issue said left) p = unless_squashed left p
moved_to (event (execute τ act) said left) p = unless_squashed left p
moved_to (event (squash τ) said left) p = unless_squashed left p
moved_to (event commit said left) p = cond (is_ticket said) (unless_committed p) (unless_squashed left p)

abbrev pub onward : Event → Option ℕ → Option ℕ
onward e none = none
onward e (some p) = moved_to e p

-- the same after several events, the latest first
unfoldable pub followed : List Event → ℕ → Option ℕ
followed [] p = some p
followed (e ∷ es) p = onward e (followed es p)

-- the call is given this ticket
pub data Uses (τ : Ticket) : Call → Type 0 where
  to_execute : {act : Action} → Uses τ (execute τ act)
  to_squash : Uses τ (squash τ)
