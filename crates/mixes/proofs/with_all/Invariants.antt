-- `mixes::with_all` meets its contract: the numbers passed are summed. Assumes nothing.
use Rattle.std.proofs.Common.{◌≡◌, take}
use Rattle.mixes.specs.Sums.{with_all}
use Rattle.mixes.proofs.with_all.Given as goal

abbrev pub invariant-loop-x : goal.invariant-loop-x
invariant-loop-x l = l.all ≡ with_all l.sum (take l.x-index l.numbers)
