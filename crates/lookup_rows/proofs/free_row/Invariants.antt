-- `lookup_rows::free_row` meets its contract. The loop's invariant: the search below the bank's rows finds what the search below
-- `i` finds. Assumes nothing.
use Rattle.lookup.specs.Computed.Search.{free}
use Rattle.lookup.proofs.Loops.{Finding}
use Rattle.lookup_rows.proofs.free_row.Given as goal

abbrev pub invariant-loop-i : goal.invariant-loop-i
invariant-loop-i l = Finding (free l.t.loads l.t.stores l.b) l.t.rows l.i
