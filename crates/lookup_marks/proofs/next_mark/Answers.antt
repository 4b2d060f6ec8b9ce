-- Assumes nothing.
use mathlib.Core.Path.{◌≡◌, sym, ◌∙◌}
use native.Mathlib.Omega.{arith}
use Rattle.lookup.proofs.Loops.{seek_hit, seek_miss, seek_end}
use Rattle.lookup_marks.proofs.next_mark.Goals as goal

pub returns-then-contains : goal.returns-then-contains
returns-then-contains c =
    (omega arith, sym (c.loop-q.invariant ∙ seek_hit _ _ _ (omega arith) (cc)))

pub loop-q-preserved : goal.loop-q-preserved
loop-q-preserved c = c.loop-q.invariant ∙ seek_miss _ _ _ (omega arith) (cc)

pub returns : goal.returns
returns c =
    let end : c.loop-q.q ≡ c.args.live = omega arith in
    (omega arith, rw end at (sym (c.loop-q.invariant ∙ seek_end _ _ _ (omega arith))))
