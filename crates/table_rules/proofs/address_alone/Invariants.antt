-- `table_rules::address_alone` meets its contract. The loop's invariant: `alone` is the test over the k rows passed.
-- Assumes nothing.
use mathlib.Core.Path.{◌≡◌}
use Rattle.marks.specs.Counting.{every}
use Rattle.table.specs.Computed.Check.{other_address}
use Rattle.table_rules.proofs.address_alone.Given as goal

abbrev pub invariant-loop-k : goal.invariant-loop-k
invariant-loop-k l = l.alone ≡ every (other_address l.t.addresses l.t.loads l.t.stores l.b l.a) l.k
