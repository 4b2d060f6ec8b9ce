-- `lookup_rows::evict_row` meets its contract. The loop's invariant: `unseen` has the marked positions below that to which the
-- walk has come, and the search over all positions finds what the search below that one finds (Walking). A turn looks at the
-- highest of them, and `unseen` falls by its bit.
-- Assumes nothing.
use Rattle.lookup.proofs.Tail.{Walking}
use Rattle.lookup_rows.proofs.evict_row.Given as goal

abbrev pub invariant-loop-unseen : goal.invariant-loop-unseen
invariant-loop-unseen l = let t = l.t in Walking t.oldest t.stages t.live t.rows t.loads t.stores l.b l.unseen

abbrev pub decreases-loop-unseen : goal.decreases-loop-unseen
decreases-loop-unseen l = l.unseen
