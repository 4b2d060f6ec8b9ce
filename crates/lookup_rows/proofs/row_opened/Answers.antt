-- Assumes nothing.
use native.Mathlib.Omega.{arith}
use Rattle.lookup.proofs.Loops.{finding_none}
use Rattle.lookup.proofs.Tail.{opening_hit, opening_miss}
use Rattle.lookup_rows.proofs.row_opened.Goals as goal

pub returns-then-contains-set : goal.returns-then-contains-set
returns-then-contains-set c =
    let place = opening_hit _ _ _ _ _ _ _ c.loop-i.invariant {at = c.contains.result} (omega arith)
    (rw (← c.marks_in-set.ensures) c.contains.ensures)
    (rw (← c.marks_in-set.ensures) c.if-contains-set.true) in
    record { within = place.0; found = place.1 }

pub loop-i-preserved : goal.loop-i-preserved
loop-i-preserved c =
    opening_miss _ _ _ _ _ _ _ c.loop-i.invariant {at = c.contains.result} (omega arith)
    (rw (← c.marks_in-set.ensures) c.contains.ensures)
    (rw (← c.marks_in-set.ensures) c.if-contains-set.false)

pub returns : goal.returns
returns c =
    let none = finding_none c.loop-i.invariant.finding (omega arith) in
    record { within = none.0; found = none.1 }
