-- `engine_steps::keep` meets its contract. The loop's invariant: the words are those at the start, narrowed as far as row i. A
-- turn narrows one word more (within_more), and after the last the rows of all banks are reached. Assumes nothing.
use mathlib.Core.Path.{◌≡◌}
use Prim.Native.Nat.{◌≤◌, ◌-◌}
use Rattle.table.specs.Limits.{rows_in}
use Rattle.engine.specs.Computed.Steps.{within}
use Rattle.engine_steps.proofs.keep.Given as goal

abbrev pub invariant-loop-i : goal.invariant-loop-i
invariant-loop-i l = (l.i ≤ rows_in l.banks) × (l.words ≡ within l.i l.initial.words l.stay)

abbrev pub decreases-loop-i : goal.decreases-loop-i
decreases-loop-i l = rows_in l.banks - l.i
