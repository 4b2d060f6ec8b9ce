-- `lookup_marks::next_mark` meets its contract. The loop's invariant: the search from `from` on finds what the search from
-- `q` on finds. Assumes nothing.
use mathlib.Core.Path.{◌≡◌}
use Prim.Native.Nat.{◌-◌}
use Rattle.lookup.specs.Computed.Search.{seek, marked}
use Rattle.lookup_marks.proofs.next_mark.Given as goal

abbrev pub invariant-loop-q : goal.invariant-loop-q
invariant-loop-q l =
    let found = marked l.circle.oldest l.circle.stages l.set in
    seek found (l.live - l.from) l.from ≡ seek found (l.live - l.q) l.q
