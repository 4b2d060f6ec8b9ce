-- Assumes nothing.
use mathlib.Core.Path.{refl, ap, ◌∙◌}
use native.Mathlib.Omega.{arith}
use Rattle.marks.specs.Counting.{every}
use Rattle.marks.proofs.Counts.{every_next}
use Rattle.table.specs.Computed.Check.{marks_below}
use Rattle.table.proofs.Banked.{marks_next}
use Rattle.table_rules.proofs.bank_fits.Goals as goal

pub loop-i-init : goal.loop-i-init
unfolding every
loop-i-init c = (refl, c.requires.2 ∙ ap (marks_below _ _) (omega arith))

pub loop-i-preserved : goal.loop-i-preserved
loop-i-preserved c =
    let inv = c.loop-i.invariant in (
      every_next _ _ inv.0 c.row_fits-fit.ensures,
      marks_next _ _ _ inv.1 c.marks_in-marked.ensures ∙ ap (marks_below _ _) (omega arith),
    )

pub returns : goal.returns
returns c = c.loop-i.invariant.0 ∙ ap (every _) (omega arith)
