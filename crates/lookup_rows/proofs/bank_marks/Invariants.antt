-- `lookup_rows::bank_marks` meets its contract. The loop's invariant: `set` has the marks of the first `i` rows of the bank.
-- Assumes nothing.
use mathlib.Core.Path.{◌≡◌}
use Rattle.lookup.specs.Computed.Search.{bank_marks}
use Rattle.lookup_rows.proofs.bank_marks.Given as goal

abbrev pub invariant-loop-i : goal.invariant-loop-i
invariant-loop-i l = l.set ≡ bank_marks l.t.loads l.t.stores l.b l.i
