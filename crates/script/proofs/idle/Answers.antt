-- `script::idle` meets its contract: no size is 0, so the opening is refused and hands back a machine without stages.
-- Assumes nothing.
use mathlib.Core.Path.{refl, ap}
use native.Mathlib.Omega.{arith}
use Rattle.table.specs.Limits.{sizes_fit}
use Rattle.machine_model.specs.declared.Machine.{Machine}
use Rattle.player_model.specs.Playing.{player}
use Rattle.script.proofs.idle.Goals as goal

pub returns : goal.returns
unfolding sizes_fit
returns c =
    ap (λ (u : Machine). player c.args.phase 0 1 0 0 u)
    (c.open-closed.ensures.refuses 1 (λ z. omega (arith, z)) refl).1
