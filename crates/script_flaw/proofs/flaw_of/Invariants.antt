-- `script_flaw::flaw_of` meets its contract. The loop's invariant: the flaw of the lines that are left, counted from `line`, is
-- the text's. The measure is what is left. Assumes nothing.
use Rattle.std.proofs.Common.{◌≡◌, ◌+◌, ◌-◌, ◌≤◌, length}
use Rattle.flaw_model.specs.Flaw.{flaw_of}
use Rattle.script_model.specs.Output.{most}
use Rattle.flaw_model.specs.Computed.Looking.{flaw_on}
use Rattle.script_flaw.proofs.flaw_of.Given as goal

abbrev pub invariant-loop-next : goal.invariant-loop-next
invariant-loop-next l =
    (flaw_on l.s l.at l.line l.part ≡ flaw_of l.s) × (l.line ≤ l.at + 1) × (l.at ≤ length l.s) × (length l.s ≤ most)

abbrev pub decreases-loop-next : goal.decreases-loop-next
decreases-loop-next l = length l.s - l.at
