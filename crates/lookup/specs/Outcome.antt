-- What an execution leaves: how many of the live references stay, the executing one among them, or 0 for a stall.
-- An execution to an address without a row takes a free row of its bank. With none free, rows whose marks are all younger than
-- the executing reference may be evicted: the one whose oldest mark is youngest is chosen, and that mark's reference and
-- everything younger is squashed. Without such a row it stalls. An address with a row takes none, and one without has no
-- younger mark to violate, so there is at most one squash.
-- Assumes nothing.
use Rattle.std.specs.Prelude.{cond, ℕ, ltb, length}
use Rattle.table.specs.Bank.{bank}
use Rattle.table.specs.Reference.{Side, lacks, holds, Fate, waiting, other, accessed, State}
use Rattle.table.specs.Moves.{squash_to, with_fate}
use Rattle.lookup.specs.Violation.{kept_after_store}
use Rattle.lookup.specs.Rows.{touched, rows_in_use, youngest_row}

-- taking a row for the reference at position p, whose address has none and is of bank h
abbrev pub allocate_row : State → ℕ → ℕ → ℕ
allocate_row P p h =
    cond (ltb (rows_in_use (bank P.banks) h P.refs) P.rows) (length P.refs)
    (cond (ltb p (youngest_row (bank P.banks) h P.refs)) (youngest_row (bank P.banks) h P.refs) 0)

-- the reference at position p executes to an address with a row: where it stores, the younger marks of the row decide
abbrev pub kept_in_row : State → ℕ → ℕ → Side → ℕ
kept_in_row P p a lacks = length P.refs
kept_in_row P p a (holds v) = kept_after_store P p a v

-- the reference at position p executes to this fate
abbrev pub survivors : State → ℕ → Fate → ℕ
survivors P p waiting = length P.refs
survivors P p other = length P.refs
survivors P p (accessed a l s) = cond (touched a P.refs) (kept_in_row P p a s) (allocate_row P p (bank P.banks a))

-- the state after it
abbrev pub executes : State → ℕ → Fate → State
executes P p f = with_fate (squash_to P (survivors P p f)) p f
