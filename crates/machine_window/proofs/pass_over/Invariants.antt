-- `machine_window::pass_over` meets its contract. The loop's invariant: `agrees` and `fits` are the two tests over the p
-- positions passed. Assumes nothing.
use mathlib.Core.Path.{◌≡◌}
use Rattle.machine_laws.specs.Computed.Parts.{agreeing_by, fitting_by}
use Rattle.machine_window.proofs.pass_over.Given as goal

abbrev pub invariant-loop-p : goal.invariant-loop-p
invariant-loop-p l =
    let t = l.t.table.now in
    (l.agrees ≡ agreeing_by t.banks t.oldest t.stages t.executed t.addresses t.loads t.stores l.window l.p)
    × (l.fits ≡ fitting_by l.program t.oldest t.stages l.window l.p)
