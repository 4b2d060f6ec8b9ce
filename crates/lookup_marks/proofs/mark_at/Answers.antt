-- Assumes nothing.
use mathlib.Core.Bool.{Bool, cond}
use mathlib.Core.List.{List}
use mathlib.Core.Path.{◌≡◌, refl, sym, ◌∙◌}
use Prim.Native.Nat.{ℕ, suc, ◌-◌, ◌≤◌, ◌<◌}
use native.Mathlib.Omega.{arith}
use lib.ListN.{get_or}
use Rattle.marks.specs.Stages.{has}
use Rattle.lookup.specs.declared.Mark.TheVariants.{Absent, Load, Store}
use Rattle.lookup.specs.Computed.Search.{mark_of}
use Rattle.lookup_marks.proofs.mark_at.Goals as goal

module _ (addresses loads stores values : List ℕ) (s : ℕ) where
  clause : (k : ℕ) → mark_of addresses loads stores values s (suc k)
      ≡ cond (has (get_or stores k 0) s) (Store (get_or addresses k 0) (get_or values s 0))
      (cond (has (get_or loads k 0) s) (Load (get_or addresses k 0)) (mark_of addresses loads stores values s k))
  unfolding mark_of
  clause k = refl

  -- what the first i rows say, by the two tests of row i - 1
  turn : (i : ℕ) {store load : Bool} → 0 < i → store ≡ has (get_or stores (i - 1) 0) s → load ≡ has (get_or loads (i - 1) 0) s
      → mark_of addresses loads stores values s i
      ≡ cond store (Store (get_or addresses (i - 1) 0) (get_or values s 0))
      (cond load (Load (get_or addresses (i - 1) 0)) (mark_of addresses loads stores values s (i - 1)))
  turn i h e f = let k : suc (i - 1) ≡ i = omega arith in rw (e, f) (rw k at (clause (i - 1)))

  none_left : (i : ℕ) → i ≤ 0 → mark_of addresses loads stores values s i ≡ Absent
  unfolding mark_of
  none_left i h = let z : i ≡ 0 = omega arith in rw z

pub returns-then-contains : goal.returns-then-contains
returns-then-contains c =
    let test = c.before in
    sym
    (test.loop-r.invariant ∙ turn _ _ _ _ _ _ (omega arith) test.contains.ensures refl
    ∙ rw c.if-contains.true)

pub returns-then-contains-2 : goal.returns-then-contains-2
returns-then-contains-2 c =
    let tests = c.before in
    let first = tests.before in
    sym
    (first.loop-r.invariant
    ∙ turn _ _ _ _ _ _ (omega arith) first.contains.ensures tests.contains-in-loop-r.ensures
    ∙ rw (tests.if-contains.false, c.if-contains-2.true))

pub loop-r-preserved : goal.loop-r-preserved
loop-r-preserved c =
    let tests = c.before in
    let first = tests.before in
    first.loop-r.invariant
    ∙ turn _ _ _ _ _ _ (omega arith) first.contains.ensures tests.contains-in-loop-r.ensures
    ∙ rw (tests.if-contains.false, c.if-contains-2.false)

pub returns : goal.returns
returns c = sym (c.loop-r.invariant ∙ none_left _ _ _ _ _ _ (omega arith))
