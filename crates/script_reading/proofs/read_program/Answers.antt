-- Assumes nothing.
use mathlib.Core.Path.{sym}
use native.Mathlib.Omega.{arith}
use Rattle.player_model.proofs.Programs.{reading_all, reading_goes, reading_stops, reading_ends}
use Rattle.script_reading.proofs.read_program.Goals as goal

pub loop-used-init : goal.loop-used-init
loop-used-init c = let a = c.args in reading_all a.s.now a.program.now a.from c.requires

pub loop-used-preserved : goal.loop-used-preserved
loop-used-preserved c =
    let l = c.loop-used in
    reading_goes _ _ l.program _ _ _ _ _ _ _ _ _ _ l.invariant (omega (arith, c.loop-used-test.true)) (sym c.in-Some.ensures)
    c.put_numbers.ensures

pub returns-after-loop-used : goal.returns-after-loop-used
returns-after-loop-used c = reading_ends _ _ _ _ _ _ _ c.loop-used.invariant (omega (arith, c.loop-used-test.false))

pub returns-in_default : goal.returns-in_default
returns-in_default c = reading_stops _ _ _ _ _ _ _ c.loop-used.invariant (sym c.in_default.ensures)
