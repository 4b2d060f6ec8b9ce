-- `table_rules::rows_fit` meets its contract. The loop's invariant: `fit` is the test over the rows of the b banks passed,
-- and `before` the set of the stages that they mark, which the next bank's test asks for. The rows of a bank without
-- marks are free and pass the test, so `fit` stands. Assumes nothing.
use mathlib.Core.Path.{◌≡◌}
use Prim.Native.Nat.{◌*◌}
use Rattle.marks.specs.Counting.{every}
use Rattle.table.specs.Limits.{rows_most}
use Rattle.table.specs.Computed.Check.{marks_below, row_fits}
use Rattle.table_rules.proofs.rows_fit.Given as goal

abbrev pub invariant-loop-b : goal.invariant-loop-b
invariant-loop-b l =
    let t = l.t in
    (l.fit ≡ every (row_fits t.banks t.rows l.allowed t.addresses t.loads t.stores) (l.b * rows_most))
    × (l.before ≡ marks_below t.loads t.stores (l.b * rows_most))
