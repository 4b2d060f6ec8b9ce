-- The places of numbers in an order (rank of specs/Conditions.antt): what has a place stands there (rank_stands), so two numbers
-- with one place are one (rank_one). Assumes nothing.
use mathlib.Core.Bool.{Bool, true, false, cond}
use mathlib.Core.List.{List, [], ◌∷◌}
use mathlib.Core.Path.{◌≡◌, refl, sym, ap, ◌∙◌}
use Prim.Native.Nat.{ℕ, suc, ◌-◌, ◌≤◌, ◌<◌}
use native.Mathlib.Nat.{not-suc-le-zero, le_refl}
use native.Mathlib.Omega.{arith}
use lib.Dec.{eqb}
use lib.ListN.{get_or}
use borrow.Author.Tests.{eqb-true}
use Rattle.engine.specs.Conditions.{order, rank_from, rank}

-- a number with a place stands there
pub rank_stands : (n : ℕ) (js : List ℕ) (k : ℕ) → 0 < rank_from n js k
    → (n ≤ rank_from n js k) × (get_or js (rank_from n js k - n) 0 ≡ k)
rank_stands n [] k h = absurd (not-suc-le-zero h)
rank_stands n (j ∷ js) k h = go (eqb j k) refl (rank_stands (suc n) js k) h
  where
    go : (b : Bool) → eqb j k ≡ b
        → (0 < rank_from (suc n) js k → (suc n ≤ rank_from (suc n) js k) × (get_or js (rank_from (suc n) js k - suc n) 0 ≡ k))
        → 0 < cond b n (rank_from (suc n) js k)
        → (n ≤ cond b n (rank_from (suc n) js k)) × (get_or (j ∷ js) (cond b n (rank_from (suc n) js k) - n) 0 ≡ k)
    go true e rest h =
        let z : n - n ≡ 0 = omega arith in
        (le_refl n, rw z (eqb-true j k e))
    go false e rest h =
        let later = rest h in
        let one : rank_from (suc n) js k - n ≡ suc (rank_from (suc n) js k - suc n) = omega (arith, later.0) in
        (omega (arith, later.0), rw one later.1)

-- two numbers with one place are one
pub rank_one : (j k : ℕ) → 0 < rank j → rank j ≡ rank k → j ≡ k
rank_one j k h e =
    sym (rank_stands 1 order j h).1 ∙ ap (λ (p : ℕ). get_or order (p - 1) 0) e
    ∙ (rank_stands 1 order k (rw (sym e) h)).1
