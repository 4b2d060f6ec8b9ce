-- The equations of a decimal: one digit below ten, otherwise the decimal of the tenth part and one digit more.
-- The count that bounds the digits does not matter as long as it is larger than the number, so the tenth part may
-- take its own.
-- Assumes nothing.
use mathlib.Core.Bool.{Bool, true, false}
use mathlib.Core.Path.{◌≡◌, refl, ap}
use mathlib.Core.List.{List, [], ◌∷◌, ◌++◌}
use Prim.Native.Nat.{ℕ, zero, suc, ◌+◌, ◌/◌, ◌%◌, ◌<◌, ◌≤◌}
use native.Mathlib.Omega.{arith}
use lib.Dec.{ltb}
use borrow.Author.Tests.{ltb-false, lt-ltb, le-ltb}
use Rattle.text.specs.Decimal.{digits, decimal}

-- one count more on each side
more : (k j n : ℕ) → (10 ≤ n → digits k (n / 10) ≡ digits j (n / 10)) → digits (suc k) n ≡ digits (suc j) n
unfolding digits
more k j n f = go (ltb n 10) refl
  where
    go : (t : Bool) → ltb n 10 ≡ t → digits (suc k) n ≡ digits (suc j) n
    go true e = rw e
    go false e = rw (e, f (ltb-false n 10 e))

pub digits_same : (k j n : ℕ) → n < k → n < j → digits k n ≡ digits j n
digits_same zero j n h i = absurd (omega arith)
digits_same (suc k) zero n h i = absurd (omega arith)
digits_same (suc k) (suc j) n h i = more k j n (λ t. digits_same k j (n / 10) (omega arith) (omega arith))

pub decimal_small : (n : ℕ) → n < 10 → decimal n ≡ (48 + n) ∷ []
unfolding digits
decimal_small n h = rw (lt-ltb n 10 h)

pub decimal_more : (n : ℕ) → 10 ≤ n → decimal n ≡ decimal (n / 10) ++ ((48 + n % 10) ∷ [])
unfolding digits
decimal_more n h =
    rw (le-ltb n 10 h)
    (ap (λ (l : List ℕ). l ++ ((48 + n % 10) ∷ [])) (digits_same n (suc (n / 10)) (n / 10) (omega arith) (omega arith)))
