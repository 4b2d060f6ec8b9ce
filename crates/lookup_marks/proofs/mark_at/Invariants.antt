-- `lookup_marks::mark_at` meets its contract. The loop's invariant: what the marks of the banks' rows say is what those of the
-- first `r` rows say. Assumes nothing.
use mathlib.Core.Path.{◌≡◌}
use Rattle.table.specs.Limits.{rows_in}
use Rattle.lookup.specs.Computed.Search.{mark_of}
use Rattle.lookup_marks.proofs.mark_at.Given as goal

abbrev pub invariant-loop-r : goal.invariant-loop-r
invariant-loop-r l =
    let said = mark_of l.t.addresses l.t.loads l.t.stores l.t.values l.s in
    said (rows_in l.t.banks) ≡ said l.r
