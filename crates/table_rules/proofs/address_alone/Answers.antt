-- Assumes nothing.
use mathlib.Core.Path.{refl, ap, ◌∙◌}
use native.Mathlib.Omega.{arith}
use Rattle.marks.specs.Counting.{every}
use Rattle.marks.proofs.Counts.{every_next}
use Rattle.table_rules.proofs.address_alone.Goals as goal

pub loop-k-init : goal.loop-k-init
unfolding every
loop-k-init c = refl

pub loop-k-preserved : goal.loop-k-preserved
loop-k-preserved c = every_next _ _ c.loop-k.invariant (rw c.marks_in.ensures)

pub returns : goal.returns
returns c = c.loop-k.invariant ∙ ap (every _) (omega arith)
