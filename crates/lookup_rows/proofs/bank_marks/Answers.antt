-- Assumes nothing.
use mathlib.Core.Path.{sym}
use Rattle.lookup.proofs.Tail.{bank_none, bank_next}
use Rattle.lookup_rows.proofs.bank_marks.Goals as goal

pub loop-i-init : goal.loop-i-init
loop-i-init c = sym (bank_none _ _ _)

pub loop-i-preserved : goal.loop-i-preserved
loop-i-preserved c = rw c.marks_in-set.ensures (bank_next _ _ _ c.loop-i.i c.loop-i.invariant)
