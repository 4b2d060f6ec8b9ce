-- Assumes nothing.
use native.Mathlib.Omega.{arith}
use Rattle.lookup.proofs.Loops.{finding_miss, below_hit, below_none}
use Rattle.lookup_marks.proofs.nearest_store.Goals as goal

pub returns-then-contains : goal.returns-then-contains
returns-then-contains c = below_hit c.loop-q.invariant (omega arith) (cc)

pub loop-q-preserved : goal.loop-q-preserved
loop-q-preserved c = finding_miss c.loop-q.invariant (omega arith) (cc)

pub returns : goal.returns
returns c = below_none c.loop-q.invariant (omega arith)
