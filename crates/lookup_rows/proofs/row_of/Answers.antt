-- Assumes nothing.
use native.Mathlib.Omega.{arith}
use Rattle.lookup.proofs.Loops.{finding_place, finding_miss, finding_none}
use Rattle.lookup_rows.proofs.row_of.Goals as goal

pub returns-then-marks_in-t : goal.returns-then-marks_in-t
returns-then-marks_in-t c =
    let place = finding_place c.loop-i.invariant (omega arith) (rw (← c.marks_in.ensures) c.if-marks_in-t.true) in
    record { within = place.0; found = place.1 }

pub loop-i-preserved : goal.loop-i-preserved
loop-i-preserved c = finding_miss c.loop-i.invariant (omega arith) (rw (← c.marks_in.ensures) c.if-marks_in-t.false)

pub returns : goal.returns
returns c = let none = finding_none c.loop-i.invariant (omega arith) in record { within = none.0; found = none.1 }
