-- Assumes nothing.
use mathlib.Core.Path.{refl, ap, sym, ◌∙◌}
use native.Mathlib.Omega.{arith}
use Rattle.table.specs.Computed.Check.{marks_below}
use Rattle.table.proofs.Banked.{marks_next, marks_from_lem}
use Rattle.table_rules.proofs.marks_from.Goals as goal

pub loop-i-init : goal.loop-i-init
unfolding marks_below
loop-i-init c = refl

pub loop-i-preserved : goal.loop-i-preserved
loop-i-preserved c =
    let at = c.loop-i in
    let t = c.args.t.now in
    marks_next _ _ _ at.invariant (c.marks_in-all.ensures ∙ sym (marks_from_lem t.loads t.stores c.args.first at.i))

pub returns : goal.returns
returns c = c.loop-i.invariant ∙ ap (marks_below _ _) (omega arith)
