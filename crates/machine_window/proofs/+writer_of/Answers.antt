-- Assumes nothing.
use mathlib.Core.Bool.{Bool}
use mathlib.Core.List.{List}
use mathlib.Core.Path.{◌≡◌, sym, ◌∙◌}
use Prim.Native.Nat.{ℕ, ◌+◌}
use native.Mathlib.Omega.{arith}
use lib.Dec.{eqb}
use lib.ListN.{get_or}
use borrow.Author.Tests.{eq-eqb, ne_eqb}
use Rattle.lookup.proofs.Loops.{find_hit, find_miss, find_none}
use Rattle.machine_window.proofs.+writer_of.Goals as goal

-- the destination at position q is register k
abbrev written : List ℕ → ℕ → ℕ → Bool
written into k q = eqb (get_or into q 0) k

pub returns-in_err-q : goal.returns-in_err-q
returns-in_err-q t c =
    rw c.from_residual.ensures
    (omega arith, sym (find_none (written c.args.into.now c.args.k) c.args.p (omega (arith, c.in_err-q.ensures))))

pub returns-then-into-q : goal.returns-then-into-q
returns-then-into-q t c =
    let p = c.args.p in
    let q = c.in_ok-q.ensures in
    let e : c.in_ok-q.q + 1 ≡ p = omega (arith, q.0, q.1) in
    (omega (arith, e), e ∙ sym (find_hit (written c.args.into.now c.args.k) p q.0 (rw q.1 at (eq-eqb _ _ c.if-into-q.true))))

pub returns : goal.returns
returns t c =
    let p = c.args.p in
    let q = c.in_ok-q.ensures in
    let found = c.writer_of.ensures in
    let miss = find_miss (written c.args.into.now c.args.k) p q.0 (rw q.1 at (ne_eqb _ _ c.if-into-q.false)) in
    (omega (arith, found.0, q.0, q.1), rw q.1 at found.1 ∙ sym miss)
