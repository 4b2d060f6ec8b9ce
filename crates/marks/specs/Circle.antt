-- The circle of n stages. Position p counts from the oldest live reference, whose stage is o.
-- Assumes nothing.
use Rattle.std.specs.Prelude.{cond, ℕ, zero, suc, ◌+◌, ◌-◌, ◌^◌, leb, ltb}
use Rattle.std.specs.Int.Bits.{bit_or}
use Rattle.marks.specs.Stages.{has}

-- the stage at position p: consecutive stages around the circle
abbrev pub stage : ℕ → ℕ → ℕ → ℕ
stage o n p = cond (ltb (o + p) n) (o + p) (o + p - n)

-- the position of stage s
abbrev pub position : ℕ → ℕ → ℕ → ℕ
position o n s = cond (leb o s) (s - o) (s + n - o)

-- the set of the stages at the first k positions
unfoldable pub firsts : ℕ → ℕ → ℕ → ℕ
firsts o n zero = 0
firsts o n (suc k) = bit_or (firsts o n k) (2 ^ stage o n k)

-- the set w of stages as a set of positions: of the first k positions, those whose stage is in w
unfoldable pub turned : ℕ → ℕ → ℕ → ℕ → ℕ
turned o n w zero = 0
turned o n w (suc k) = bit_or (turned o n w k) (cond (has w (stage o n k)) (2 ^ k) 0)
