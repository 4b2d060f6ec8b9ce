-- `arb::play` ends: each turn plays a player that is not over with room for a step, which lowers its weight.
-- Assumes nothing.
use Rattle.std.proofs.Common.{◌≡◌, ◌≤◌, length}
use Rattle.player_model.specs.Playing.{longest}
use Rattle.player_model.proofs.Invariant.{weight}
use Rattle.arb.proofs.play.Given as goal

abbrev pub invariant-loop-outcome : goal.invariant-loop-outcome
invariant-loop-outcome g l =
    (longest ≤ length l.out) × (length l.memory ≡ length l.initial.memory) × (length l.out ≡ length l.initial.out)

abbrev pub decreases-loop-outcome : goal.decreases-loop-outcome
decreases-loop-outcome g l = weight l.s l.player l.memory
