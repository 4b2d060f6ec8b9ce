-- Where a call is turned down. Checks go in one order of the numbers, from the smallest up: a call is refused when a condition
-- in its rows holds, and only then, with the first such number.
-- Assumes nothing.
use Rattle.std.specs.Prelude.{Bool, true, false, cond, not, ◌&&◌, ◌||◌, List, [], ◌∷◌, ℕ, suc, eqb, leb, ltb, length}
use Rattle.table.specs.Reference.{Fate, waiting, other, accessed}

-- a condition of the table with its number
pub data Check : Type 0 where
  when : Bool → ℕ → Check

-- the number of the first condition that holds; 0 where none does
abbrev pub refusal : List Check → ℕ
refusal [] = 0
refusal (when c k ∷ checks) = cond c k (refusal checks)

-- a condition with number k holds
abbrev pub holds : ℕ → List Check → Bool
holds k [] = false
holds k (when c j ∷ checks) = (c && eqb j k) || holds k checks

-- the order in which the conditions are looked at, by their numbers
abbrev pub order : List ℕ
order = 1 ∷ 2 ∷ 3 ∷ 4 ∷ 5 ∷ 6 ∷ 7 ∷ 8 ∷ 9 ∷ 10 ∷ 11 ∷ 12 ∷ 13 ∷ 14 ∷ []

-- the place of k among these numbers, the first of which has place n; 0 where it is none of them
abbrev pub rank_from : ℕ → List ℕ → ℕ → ℕ
rank_from n [] k = 0
rank_from n (j ∷ js) k = cond (eqb j k) n (rank_from (suc n) js k)

-- the place of k in the order, from 1 on; 0 where it does not stand there, as 0 does not, which is no refusal
abbrev pub rank : ℕ → ℕ
rank k = rank_from 1 order k

-- these conditions are in that order, and behind number `low`
abbrev pub rising_from : ℕ → List Check → Bool
rising_from low [] = true
rising_from low (when c k ∷ checks) = ltb (rank low) (rank k) && rising_from k checks

-- Checks go in the order, and each number stands in it. Then the number of a refusal is the first of those whose condition
-- holds (proofs/Refusing.antt), and the smallest, as the order rises (proofs/Smallest.antt).
abbrev pub rising : List Check → Bool
rising checks = rising_from 0 checks

-- memory length is not W
abbrev pub wrong_length : ℕ → List ℕ → Check
wrong_length words memory = when (not (eqb (length memory) words)) 3

-- it executed at an address of W or more
abbrev pub faults : ℕ → Fate → Bool
faults words waiting = false
faults words other = false
faults words (accessed a l s) = leb words a
