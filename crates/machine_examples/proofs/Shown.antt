-- Every row of the table of examples comes out. What is seen of each row is computed, for all rows in one equation of lists, and
-- this is taken apart row by row. That each instruction of the longest program is well formed is a law: looking up 1,024 numbers
-- one by one takes longer than all other rows.
-- Assumes nothing.
use mathlib.Core.Path.{◌≡◌, refl}
use mathlib.Core.Bool.{true}
use mathlib.Core.List.{List, [], ◌∷◌, map}
use Prim.Native.Nat.{ℕ, zero, suc, ◌+◌, ◌*◌, ◌≤◌}
use native.Mathlib.Omega.{arith}
use lib.ListN.{replicate, get_or-replicate}
use Rattle.marks.specs.Counting.{every, count, last}
use Rattle.table.specs.Bank.{home, bank}
use Rattle.table.specs.Limits.{sizes_fit}
use Rattle.lookup.specs.Forwarding.{seen, distance}
use Rattle.lookup.specs.Violation.{kept_younger}
use Rattle.lookup.specs.Rows.{touched}
use Rattle.machine_model.specs.Program.{per_instruction, well_formed_at, program_fits}
use Rattle.machine_model.specs.Window.{register_seen}
use Rattle.machine_model.specs.Over
use Rattle.machine_examples.specs.Examples.{Example, told_by, seen_of, AllShown, told, played, shorter, examples}
use Rattle.machine_examples.specs.Examples.{openings, refusals, unlikes, runs, parts, distances, same_words, numberings}
use Rattle.machine_examples.specs.Examples.{longest, damaged}

-- an equation of lists is one of each row
each : (rows : List Example) → map seen_of rows ≡ map told_by rows → AllShown rows
each [] h = tt
each (e ∷ rows) h = (cc, each rows cc)

-- instructions of the numbers 1, 1, 1, 1, of which the code alone leaves the last free
ones : (n k : ℕ) → k * per_instruction ≤ n → every (well_formed_at (replicate n 1)) k ≡ true
unfolding every
ones n zero h = refl
ones n (suc k) h =
    rw (
      ones n k (omega arith),
      get_or-replicate {A = ℕ} n (k * per_instruction) 1 0 (omega arith),
      get_or-replicate {A = ℕ} n (k * per_instruction + 1) 1 0 (omega arith),
      get_or-replicate {A = ℕ} n (k * per_instruction + 2) 1 0 (omega arith),
    ) refl

longest_shown : seen_of longest ≡ told_by longest
unfolding longest program_fits told played sizes_fit
longest_shown = rw (ones 1024 256 (omega arith)) refl

pub shown : AllShown examples
unfolding openings refusals unlikes runs parts distances same_words numberings damaged told played Over.respond Over.finishes seen distance
    kept_younger touched every count last home bank sizes_fit program_fits register_seen
shown = (longest_shown, each shorter refl)
