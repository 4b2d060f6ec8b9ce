-- Tests over the numbers below a bound: all of them pass, how many pass, the last that passes.
-- Assumes nothing.
use Rattle.std.specs.Prelude.{Bool, true, cond, ◌&&◌, ℕ, zero, suc}

-- f holds of every number below n
unfoldable pub every : (ℕ → Bool) → ℕ → Bool
every f zero = true
every f (suc n) = every f n && f n

-- how many numbers below n have f
unfoldable pub count : (ℕ → Bool) → ℕ → ℕ
count f zero = 0
count f (suc n) = cond (f n) (suc (count f n)) (count f n)

-- the largest number below n that has f; 0 where none has
unfoldable pub last : (ℕ → Bool) → ℕ → ℕ
last f zero = 0
last f (suc n) = cond (f n) n (last f n)
