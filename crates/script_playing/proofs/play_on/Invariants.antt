-- `script_playing::play_on` meets its contract. The loop's invariant is `Filling` of player_model/proofs/StepContract.antt, of
-- the player made of the locals: the steps so far are one piece at the start of the buffer. The measure is that player's weight.
-- Each way through the loop is one step more (Ways), which keeps the invariant and lowers the measure. Assumes nothing.
use Rattle.player_model.specs.Playing.{player}
use Rattle.player_model.proofs.Invariant.{weight}
use Rattle.player_model.proofs.StepContract.{Filling}
use Rattle.script_playing.proofs.play_on.Given as goal

abbrev pub invariant-loop-at : goal.invariant-loop-at
invariant-loop-at l =
    let i = l.initial in
    Filling l.s l.program (player i.phase i.cursor i.line i.commits i.used i.machine) i.memory i.out
    (player l.phase l.cursor l.line l.commits l.used l.machine) l.memory l.out l.at

abbrev pub decreases-loop-at : goal.decreases-loop-at
decreases-loop-at l = weight l.s (player l.phase l.cursor l.line l.commits l.used l.machine) l.memory
