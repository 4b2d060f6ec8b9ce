-- Every row of the tables of examples comes out. What they come to is computed, for all rows in one equation of lists, and this
-- is taken apart row by row.
-- Assumes nothing.
use mathlib.Core.Path.{◌≡◌, refl}
use mathlib.Core.List.{List, [], ◌∷◌, map}
use Rattle.marks.specs.Counting.{count, last, every}
use Rattle.table.specs.Bank.{home, bank}
use Rattle.lookup.specs.Forwarding.{seen, distance}
use Rattle.lookup.specs.Violation.{kept_younger}
use Rattle.lookup.specs.Rows.{touched}
use Rattle.machine_model.specs.Program.{program_fits}
use Rattle.machine_model.specs.Window.{register_seen}
use Rattle.machine_model.specs.Over
use Rattle.sequential.specs.Sequential.{run_after}
use Rattle.sequential.specs.Play.{without, play, none_refused, answers_of}
use Rattle.sequential.specs.Examples.{AllCome, RunExample, ran_to, run_table, RecordExample, left_of, record_table}

-- all that calls and the run compute with: to unfold this is to unfold them
unfoldable pub computing : Unit {0}
unfolding run_after play none_refused answers_of Over.respond Over.finishes every program_fits seen distance kept_younger touched
    count last home bank register_seen
computing = tt

-- an equation of lists is one of each row
pub each : {E O : Type 0} (comes says : E → O) (rows : List E) → map comes rows ≡ map says rows → AllCome comes says rows
each comes says [] h = tt
each comes says (e ∷ rows) h = (cc, each comes says rows cc)

pub runs_shown : AllCome ran_to (λ (e : RunExample). e.outcome) run_table
unfolding run_table computing
runs_shown = each ran_to (λ (e : RunExample). e.outcome) run_table refl

pub records_shown : AllCome left_of (λ (e : RecordExample). e.outcome) record_table
unfolding record_table without
records_shown = each left_of (λ (e : RecordExample). e.outcome) record_table refl
