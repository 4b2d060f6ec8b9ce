-- A mark word (a word of load or store bits) is a set of stages: stage k is in it where bit k is 1.
-- Assumes nothing.
use Rattle.std.specs.Prelude.{Bool, ℕ, ◌/◌, ◌%◌, ◌^◌, eqb}

-- the bits of a mark word
abbrev pub width : ℕ
width = 32

-- stage k is in the set w
abbrev pub has : ℕ → ℕ → Bool
has w k = eqb (w / 2 ^ k % 2) 1
