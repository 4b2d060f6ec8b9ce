-- The checksum with more numbers, and the numbers of an answer.
-- Assumes nothing.
use Rattle.std.specs.Prelude.{List, [], ◌∷◌, ℕ, ◌+◌, ◌%◌, ◌^◌, Option, Some, None, Result, Ok, Err}
use Rattle.std.specs.Int.{rotate_left, w64}
use Rattle.std.specs.List.{fold}
use Rattle.engine.specs.declared.Refusal.{Refusal}
use Rattle.engine.specs.declared.Executed.{Executed}
use Rattle.engine.specs.Answers.{number}

-- with one more number: turned left by one, plus the number
abbrev pub with : ℕ → ℕ → ℕ
with sum x = (rotate_left w64 sum 1 + x) % 2 ^ 64

-- with several, in their order
abbrev pub with_all : ℕ → List ℕ → ℕ
with_all = fold with

-- a refusal's number, or 100 and the numbers of what the answer carries
abbrev pub answer_numbers : {A : Type 0} → (A → List ℕ) → Result A Refusal → List ℕ
answer_numbers carried (Ok a) = 100 ∷ carried a
answer_numbers carried (Err r) = number r ∷ []

abbrev pub from_numbers : {N : Type 0} → (N → List ℕ) → Option N → List ℕ
from_numbers named None = []
from_numbers named (Some n) = named n

-- value and distance, and from which reference on references were squashed, if any were
abbrev pub executed_numbers : {N : Type 0} → (N → List ℕ) → Executed N → List ℕ
executed_numbers named e = e.value ∷ e.distance ∷ from_numbers named e.squashed
