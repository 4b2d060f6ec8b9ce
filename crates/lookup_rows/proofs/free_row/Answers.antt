-- Assumes nothing.
use native.Mathlib.Omega.{arith}
use borrow.Author.Tests.{eq-eqb, ne_eqb}
use Rattle.lookup.proofs.Loops.{finding_place, finding_miss, finding_none}
use Rattle.lookup_rows.proofs.free_row.Goals as goal

pub returns-then-marks_in-eq0 : goal.returns-then-marks_in-eq0
returns-then-marks_in-eq0 c =
    let place = finding_place c.loop-i.invariant (omega arith)
    (rw (← c.marks_in.ensures) (eq-eqb _ _ c.if-marks_in-eq0.true)) in
    record { within = place.0; found = place.1 }

pub loop-i-preserved : goal.loop-i-preserved
loop-i-preserved c =
    finding_miss c.loop-i.invariant (omega arith) (rw (← c.marks_in.ensures) (ne_eqb _ _ c.if-marks_in-eq0.false))

pub returns : goal.returns
returns c = let none = finding_none c.loop-i.invariant (omega arith) in record { within = none.0; found = none.1 }
