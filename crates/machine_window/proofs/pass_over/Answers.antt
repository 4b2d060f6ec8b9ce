-- Assumes nothing.
use mathlib.Core.Path.{refl}
use Rattle.marks.specs.Counting.{every}
use Rattle.marks.proofs.Counts.{every_next}
use Rattle.machine_window.proofs.pass_over.Goals as goal

pub loop-p-init : goal.loop-p-init
unfolding every
loop-p-init c = (refl, refl)

pub loop-p-preserved : goal.loop-p-preserved
loop-p-preserved c =
    let inv = c.loop-p.invariant in
    let at = rw (c.circle-circle.ensures.0, c.circle-circle.ensures.1) at c.stage_at-s.ensures in (
      every_next _ _ inv.0 (rw (← at, ← c.marks_from-marked.ensures) c.stage_agrees-agrees.ensures),
      every_next _ _ inv.1 (rw (← at) c.entry_fits-fits.ensures),
    )
