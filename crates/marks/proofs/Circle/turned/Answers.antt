-- No position is in the empty set, and otherwise the code computes the set of proofs/Runs.antt, turned back in `stages` bits of a
-- word of the width. Assumes nothing.
use Rattle.std.proofs.Common.{ap, sym}
use Rattle.marks.specs.Circle.{turned}
use Rattle.marks.specs.Stages.{width}
use Rattle.marks.proofs.Runs.{turned_back}
use Rattle.marks.proofs.Circle.turned.Goals as goal

pub returns-then-count-eq0 : goal.returns-then-count-eq0
unfolding turned
returns-then-count-eq0 c = sym (ap (turned _ _ _) c.if-count-eq0.true)

pub returns : goal.returns
returns c =
    let circle = c.args.self in
    turned_back width circle.oldest circle.stages c.args.count circle.starts c.requires circle.narrow c.args.word
