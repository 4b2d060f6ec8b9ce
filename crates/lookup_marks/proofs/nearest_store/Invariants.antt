-- `lookup_marks::nearest_store` meets its contract. The loop's invariant: the search below `p` finds what the search below
-- `q` finds. Assumes nothing.
use Rattle.lookup.specs.Computed.Search.{marked}
use Rattle.lookup.proofs.Loops.{Finding}
use Rattle.lookup_marks.proofs.nearest_store.Given as goal

abbrev pub invariant-loop-q : goal.invariant-loop-q
invariant-loop-q l = Finding (marked l.circle.oldest l.circle.stages l.stores) l.p l.q
