-- "Checks go from the smallest number up": the order of the numbers has 1 to 14, each once (order_is), and rises, so the first
-- number of a condition that holds is the smallest. Of every answer that goes by conditions (GoesBy), a call's of any engine or
-- an opening's: it is refused with the smallest number that holds, and only with that (refused_smallest, smallest_refused).
-- Assumes nothing.
use mathlib.Core.Bool.{Bool, true, false, cond, ◌&&◌, and-eq-true_iff}
use mathlib.Core.List.{List, [], ◌∷◌}
use mathlib.Core.Path.{◌≡◌, refl, ap}
use Prim.Native.Nat.{ℕ, suc, ◌≤◌, ◌<◌}
use native.Mathlib.Nat.{not-suc-le-zero}
use native.Mathlib.Omega.{arith}
use lib.Dec.{eqb, ltb}
use borrow.Author.Tests.{eqb-true, ltb-true, ltb-false}
use Rattle.table.specs.View.{tabulate}
use Rattle.engine.specs.Conditions.{order, rank_from, rank}
use Rattle.engine.specs.Contract.{Answer, refused}
use Rattle.engine.proofs.Placing.{rank_stands}
use Rattle.engine.proofs.Deciding.{NoneBefore, GoesBy}

-- the numbers of 01's table of refusals, all of them and no other
pub order_is : order ≡ tabulate suc 14
unfolding tabulate
order_is = refl

-- these numbers rise from above `low` on
abbrev ascends : ℕ → List ℕ → Bool
ascends low [] = true
ascends low (j ∷ js) = ltb low j && ascends j js

order_ascends : ascends 0 order ≡ true
order_ascends = refl

-- a number that stands in such a list is above `low`,
stands_above : (low n : ℕ) (js : List ℕ) (k : ℕ) → ascends low js ≡ true → 0 < rank_from n js k → low < k
stands_above low n [] k up h = absurd (not-suc-le-zero h)
stands_above low n (i ∷ js) k up h =
    let both = (and-eq-true_iff (ltb low i) (ascends i js)).0 up in
    go (eqb i k) refl (ltb-true low i both.0) (stands_above i (suc n) js k both.1) h
  where
    go : (b : Bool) → eqb i k ≡ b → low < i → (0 < rank_from (suc n) js k → i < k) → 0 < cond b n (rank_from (suc n) js k)
        → low < k
    go true e above rest h = omega (arith, above, eqb-true i k e)
    go false e above rest h = omega (arith, above, rest h)

-- and of two that stand in it the one with the earlier place is no larger
earlier_le : (low n : ℕ) (js : List ℕ) (j k : ℕ) → ascends low js ≡ true → 0 < rank_from n js j
    → rank_from n js j ≤ rank_from n js k → j ≤ k
earlier_le low n [] j k up h l = absurd (not-suc-le-zero h)
earlier_le low n (i ∷ js) j k up h l =
    let later = ((and-eq-true_iff (ltb low i) (ascends i js)).0 up).1 in
    go (eqb i j) (eqb i k) refl refl (stands_above i (suc n) js k later) (earlier_le i (suc n) js j k later) h l
  where
    go : (b c : Bool) → eqb i j ≡ b → eqb i k ≡ c → (0 < rank_from (suc n) js k → i < k)
        → (0 < rank_from (suc n) js j → rank_from (suc n) js j ≤ rank_from (suc n) js k → j ≤ k)
        → 0 < cond b n (rank_from (suc n) js j)
        → cond b n (rank_from (suc n) js j) ≤ cond c n (rank_from (suc n) js k) → j ≤ k
    go true true e d above rest h l = omega (arith, eqb-true i j e, eqb-true i k d)
    go true false e d above rest h l = omega (arith, eqb-true i j e, above (omega (arith, h, l)))
    go false true e d above rest h l = absurd (omega (arith, l, (rank_stands (suc n) js j h).0))
    go false false e d above rest h l = rest h l

-- none with a smaller number holds; and k is the smallest that does
abbrev pub NoneBelow : (ℕ → Type 0) → ℕ → Type 0
NoneBelow Holding k = (j : ℕ) → Holding j → k ≤ j

abbrev pub Smallest : (ℕ → Type 0) → ℕ → Type 0
Smallest Holding k = Holding k × NoneBelow Holding k

module _ {N : Type 0} {Holding : ℕ → Type 0} {said : Answer N} (goes : GoesBy Holding said) where
  -- none that is looked at before k holds exactly where none with a smaller number does
  pub none_below : (k : ℕ) → 0 < rank k → NoneBefore Holding k → NoneBelow Holding k
  none_below k stands none j h = earlier_le 0 1 order k j order_ascends stands (none j h)

  pub none_before : (k : ℕ) → NoneBelow Holding k → NoneBefore Holding k
  none_before k none j h = go (ltb (rank j) (rank k)) refl
    where
      go : (b : Bool) → ltb (rank j) (rank k) ≡ b → rank k ≤ rank j
      go true e =
          let less = ltb-true (rank j) (rank k) e in
          let low = earlier_le 0 1 order j k order_ascends (goes.stands j h) (omega (arith, less)) in
          let same : j ≡ k = omega (arith, low, none j h) in
          omega (arith, less, ap rank same)
      go false e = ltb-false (rank j) (rank k) e

  -- it is a refusal with k exactly if k is the smallest number of a condition that holds, and where one holds it is a refusal
  -- with no larger number
  pub refused_smallest : (k : ℕ) → said ≡ refused k → Smallest Holding k
  refused_smallest k e =
      let first = goes.refused_first k e in
      (first.0, none_below k (goes.stands k first.0) first.1)

  pub smallest_refused : (k : ℕ) → Smallest Holding k → said ≡ refused k
  smallest_refused k s = goes.first_refused k (s.0, none_before k s.1)

  pub refused_below : (j : ℕ) → Holding j → (k : ℕ) × (k ≤ j) × (said ≡ refused k)
  refused_below j h =
      let w = goes.refused_where j h in
      (w.0, (refused_smallest w.0 w.2).1 j h, w.2)
