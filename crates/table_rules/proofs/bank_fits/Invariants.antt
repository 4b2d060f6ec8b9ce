-- `table_rules::bank_fits` meets its contract. The loop's invariant: `fit` is the test over the bank's first i rows, and `marked`
-- the set of the stages that they and the rows before the bank mark, which the next row's test asks for. Assumes nothing.
use mathlib.Core.Path.{◌≡◌}
use Prim.Native.Nat.{◌+◌, ◌*◌}
use Rattle.marks.specs.Counting.{every}
use Rattle.table.specs.Limits.{rows_most}
use Rattle.table.specs.Computed.Check.{marks_below, row_fits}
use Rattle.table_rules.proofs.bank_fits.Given as goal

abbrev pub invariant-loop-i : goal.invariant-loop-i
invariant-loop-i l =
    let t = l.t in
    (l.fit ≡ every (λ k. row_fits t.banks t.rows l.allowed t.addresses t.loads t.stores (l.b * rows_most + k)) l.i)
    × (l.marked ≡ marks_below t.loads t.stores (l.b * rows_most + l.i))
