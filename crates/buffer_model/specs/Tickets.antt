-- What the ticket theorem says of a ticket in the life of an opened table (TicketTruth), through the contracts of the calls
-- alone. It is proved in proofs/Tickets.antt; proofs/Stale.antt plays a late execution and a late squash of a dead load
-- through it, and proofs/Exact.antt shows that its bound is exact.
-- Assumes nothing.
use Rattle.std.specs.Prelude.{true, cond, List, ◌≡◌, ℕ, ◌^◌, ◌<◌, eqb, length}
use Rattle.std.proofs.Math.Option.{none, some}
use Rattle.table.specs.declared.Ticket.{Ticket}
use Rattle.table.specs.declared.Table.{Table}
use Rattle.table.specs.View.{view}
use Rattle.engine.specs.Contract.{refused}
use Rattle.buffer_model.specs.Answers.{Answer}
use Rattle.buffer_model.specs.Refusals.{place, names}
use Rattle.buffer_model.specs.Calls.{Call}
use Rattle.buffer_model.specs.Contract.{Meets}
use Rattle.buffer_model.specs.Life.{Event, issues_in, followed, Uses, to_execute, to_squash}

-- with which number a call that is given a dead ticket is refused: 7, or 3 where it is lent a memory that is not of W words
abbrev pub stale_number : {τ : Ticket} {c : Call} → Uses τ c → ℕ → List ℕ → ℕ
stale_number to_execute words m = cond (eqb (length m) words) 7 3
stale_number to_squash words m = 7

-- In the life of an opened table an issue answered τ; its reference was then the youngest, at position p. The events `later`
-- came after it, refused calls among them, and led to table w. If none of them squashed or committed the reference, the
-- ticket names it still, at the position q where they moved it. If one of them did, "no ticket of its squashed or committed
-- references touches a later one, as long as fewer than 4,294,967,296 issues came after it": every call that is given the
-- ticket is refused, and hands back table and memory as they were.
pub record TicketTruth (τ : Ticket) (p : ℕ) (later : List Event) (w : Table) : Type 0 where
  pub still_named : (q : ℕ) → followed later p ≡ some q → (names (view w) τ ≡ true) × (place (view w) τ ≡ q)
  pub stale : followed later p ≡ none → issues_in later < 2 ^ 32
      → {c : Call} {m m' : List ℕ} {x : Table} {said : Answer} → (uses : Uses τ c) → Meets w c m said x m'
      → (said ≡ refused (stale_number uses w.words m)) × (x ≡ w) × (m' ≡ m)
