-- No position is in the empty set, and otherwise the code computes the run of proofs/Runs.antt, turned in `stages` bits of a
-- word of the width. Assumes nothing.
use Rattle.std.proofs.Common.{ap, sym}
use Rattle.marks.specs.Circle.{firsts}
use Rattle.marks.specs.Stages.{width}
use Rattle.marks.proofs.Runs.{turned_firsts}
use Rattle.marks.proofs.Circle.first_stages.Goals as goal

pub returns-then-count-eq0 : goal.returns-then-count-eq0
unfolding firsts
returns-then-count-eq0 c = sym (ap (firsts _ _) c.if-count-eq0.true)

pub returns : goal.returns
returns c =
    let circle = c.args.self in
    turned_firsts width circle.oldest circle.stages c.args.count circle.starts c.requires circle.narrow
