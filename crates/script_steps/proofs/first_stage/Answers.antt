-- `script_steps::first_stage` meets its contract. Assumes nothing.
use mathlib.Core.Path.{sym}
use Rattle.marks.proofs.Turns.{stage_zero}
use Rattle.script_model.proofs.Endings.{stage_past}
use Rattle.script_steps.proofs.first_stage.Goals as goal

pub returns-then-oldest-stages : goal.returns-then-oldest-stages
returns-then-oldest-stages c = let a = c.args in sym (stage_zero a.oldest a.stages c.if-oldest-stages.true)

pub returns : goal.returns
returns c = let a = c.args in sym (stage_past a.oldest a.stages c.if-oldest-stages.false)
