-- `lookup_rows::row_of` meets its contract. The loop's invariant: the search below the bank's rows finds what the search below
-- `i` finds. Assumes nothing.
use Rattle.lookup.specs.Computed.Search.{belongs}
use Rattle.lookup.proofs.Loops.{Finding}
use Rattle.lookup_rows.proofs.row_of.Given as goal

abbrev pub invariant-loop-i : goal.invariant-loop-i
invariant-loop-i l = Finding (belongs l.t.addresses l.t.loads l.t.stores l.b l.a) l.t.rows l.i
