-- `machine_isa::program_fits` meets its contract. The loop's invariant: `fit` is the test over the i instructions passed.
-- Assumes nothing.
use Rattle.std.proofs.Common.{◌≡◌}
use Rattle.marks.specs.Counting.{every}
use Rattle.machine_model.specs.Program.{well_formed_at}
use Rattle.machine_isa.proofs.program_fits.Given as goal

abbrev pub invariant-loop-i : goal.invariant-loop-i
invariant-loop-i l = l.fit ≡ every (well_formed_at l.program) l.i
