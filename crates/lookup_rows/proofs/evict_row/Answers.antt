-- Assumes nothing.
use mathlib.Core.Path.{◌≡◌, refl}
use Prim.Native.Nat.{◌+◌, ◌-◌}
use native.Mathlib.Omega.{arith}
use Rattle.marks.specs.Stages.{width}
use Rattle.lookup.proofs.Tail.{Looking, walk_none, look}
use Rattle.lookup_rows.proofs.evict_row.Goals as goal
use Rattle.lookup_rows.proofs.evict_row.Goals.{After-highest-q}

looked : (c : After-highest-q)
    → let t = c.args.t.now in
    Looking t.oldest t.stages t.live t.rows t.loads t.stores c.args.b c.loop-unseen.unseen c.highest-q.result
looked c =
    look _ _ _ _ _ _ _ _ c.loop-unseen.invariant width c.highest-q.result (omega arith) (omega arith)
    c.highest-q.ensures

pub returns-then-q-p : goal.returns-then-q-p
returns-then-q-p c = (looked c.before).ends c.args.p (omega arith)

pub row_opened-requires-clause-window : goal.row_opened-requires-clause-window
row_opened-requires-clause-window c =
    let window = c.requires.window in
    (window.0, window.1, window.2, (looked (goal.at.row_opened-requires-clause-window c).After-highest-q).within)

pub returns-in-Some : goal.returns-in-Some
returns-in-Some c =
    let i = c.in-Some.i in
    let place : i + 1 - 1 ≡ i = omega arith in
    rw (← place)
    ((looked (goal.at.returns-in-Some c).After-highest-q).found c.args.p (i + 1) c.in-Some.ensures.found (λ z. omega arith) (omega arith))

pub excluding-unseen-requires : goal.excluding-unseen-requires
excluding-unseen-requires c =
    let at = looked (goal.at.excluding-unseen-requires c).After-highest-q in
    (omega (arith, at.within, c.requires.window.2, c.requires.window.1), at.member)

pub loop-unseen-smaller : goal.loop-unseen-smaller
loop-unseen-smaller c = omega (arith, c.excluding-unseen.ensures, (looked (goal.at.loop-unseen-smaller c).After-highest-q).less)

pub loop-unseen-preserved : goal.loop-unseen-preserved
loop-unseen-preserved c =
    (looked (goal.at.loop-unseen-preserved c).After-highest-q).on 0 c.excluding-unseen.result c.in_default.ensures.found refl
    c.excluding-unseen.ensures

pub returns : goal.returns
returns c = walk_none _ _ _ _ _ _ _ _ c.loop-unseen.invariant (omega arith) _
