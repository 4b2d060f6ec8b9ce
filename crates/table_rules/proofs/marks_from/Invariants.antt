-- `table_rules::marks_from` meets its contract. The loop's invariant: `all` is the set of the stages that the first i of the rows
-- mark, the arrays seen from row `first` on. Assumes nothing.
use mathlib.Core.Path.{◌≡◌}
use lib.ListN.{drop}
use Rattle.table.specs.Computed.Check.{marks_below}
use Rattle.table_rules.proofs.marks_from.Given as goal

abbrev pub invariant-loop-i : goal.invariant-loop-i
invariant-loop-i l = l.all ≡ marks_below (drop l.first l.t.loads) (drop l.first l.t.stores) l.i
