-- `script_reading::read_program` meets its contract. The loop's invariant is Reading of
-- player_model/proofs/Programs.antt; the measure is the number of places left. The loop ends at one of the reading's two stops.
-- Assumes nothing.
use Prim.Native.Nat.{◌-◌}
use Rattle.machine_model.specs.Program.{program_most}
use Rattle.player_model.proofs.Programs.{Reading}
use Rattle.script_reading.proofs.read_program.Given as goal

abbrev pub invariant-loop-used : goal.invariant-loop-used
invariant-loop-used l = Reading l.s l.from l.initial.program l.program l.cursor l.line l.used

abbrev pub decreases-loop-used : goal.decreases-loop-used
decreases-loop-used l = program_most - l.used
