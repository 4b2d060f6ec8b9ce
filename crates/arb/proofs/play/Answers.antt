-- Assumes nothing.
use Rattle.std.proofs.Common.{sym, ◌∙◌}
use Rattle.player_model.proofs.StepContract.{fills_falls}
use Rattle.arb.proofs.play.Goals as goal

pub loop-outcome-smaller : goal.loop-outcome-smaller
loop-outcome-smaller g c =
    fills_falls c.fill-piece.ensures (sym c.is_over.ensures ∙ c.loop-outcome-test.true) c.loop-outcome.invariant.0
