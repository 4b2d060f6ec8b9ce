-- The calls of the machine over the buffer: Over.antt's definitions at the engine that the buffer is.
-- Assumes nothing.
use Rattle.std.specs.Prelude.{Bool, List, ℕ, eqb, length}
use Rattle.std.proofs.Math.Option.{Option}
use Rattle.table.specs.Limits.{sizes_fit}
use Rattle.table.specs.Reference
use Rattle.table.specs.Reference.{State, fate_of, at}
use Rattle.table.specs.Moves
use Rattle.lookup.specs.Forwarding.{forwarded, distance}
use Rattle.lookup.specs.Outcome.{survivors, executes}
use Rattle.engine.specs.Conditions.{Check}
use Rattle.engine.specs.Opening.{opening}
use Rattle.machine_model.specs.declared.Fate.{Fate}
use Rattle.machine_model.specs.Over
use Rattle.machine_model.specs.Over.{Engine}
pub use Rattle.machine_model.specs.Over.{Call, issue, execute, squash, commit, finish, lent_to, Answer}
pub use Rattle.machine_model.specs.Over.{matches_program, fits_program, program_check, known, unknown, new_entry, value_by}
pub use Rattle.machine_model.specs.Over.{answer_by, load_value, refetch, refetch_index, writing, registers_after, or_address}
pub use Rattle.machine_model.specs.Over.{target, committed_says, per_commit, program_done, after_commit, continue_on}
pub use Rattle.machine_model.specs.Over.{drain_stopped, drained}
pub use Rattle.machine_model.specs.Window.{pending}

-- What a machine is opened on: B banks of R rows, n stages and W words.
pub data Opening : Type 0 where
  banked : ℕ → ℕ → ℕ → ℕ → Opening

abbrev sized : Opening → Bool
sized (banked banks rows stages words) = sizes_fit banks rows stages words

abbrev opened_on : Opening → State
opened_on (banked banks rows stages words) = opening banks rows stages words

-- The buffer as an engine. Forwarding, violation, eviction and stall are its own (`forwarded`, `survivors`, `executes`).
abbrev pub buffered : Engine Opening State
buffered =
    record {
      fits = sized;
      opening = opened_on;
      words = λ P. P.words;
      full = λ P es. eqb (length es) P.stages;
      sees = λ P es. forwarded P;
      far = λ P es. distance P.refs;
      leaves = λ P es. survivors P;
      first = λ P es. fate_of (at P.refs 0);
      issued = Moves.issued;
      executed = executes;
      squashed = Moves.squash_to;
      retired = Moves.retire;
    }

abbrev pub Plain : Type 0
Plain = Over.Plain State

abbrev pub Drain : Type 0
Drain = Over.Drain State

abbrev pub Result : Type 0
Result = Over.Result State

abbrev pub issue_checks : List ℕ → Plain → List Check
issue_checks = Over.issue_checks buffered

abbrev pub evaluated : Plain → List ℕ → ℕ → Option Fate
evaluated = Over.evaluated buffered

abbrev pub reference_at : Plain → List ℕ → ℕ → Fate → Reference.Fate
reference_at = Over.reference_at buffered

abbrev pub survivors_of : Plain → List ℕ → ℕ → Fate → ℕ
survivors_of = Over.survivors_of buffered

abbrev pub execute_checks : List ℕ → Plain → List ℕ → ℕ → List Check
execute_checks = Over.execute_checks buffered

abbrev pub squash_checks : List ℕ → Plain → ℕ → List Check
squash_checks = Over.squash_checks buffered

abbrev pub commit_checks : List ℕ → Plain → List ℕ → List Check
commit_checks = Over.commit_checks buffered

abbrev pub finish_checks : List ℕ → Plain → List ℕ → List Check
finish_checks = Over.finish_checks buffered

abbrev pub checks_of : List ℕ → Call → Plain → List ℕ → List Check
checks_of = Over.checks_of buffered

abbrev pub unless_refused : List ℕ → Call → Plain → List ℕ → Result → Result
unless_refused = Over.unless_refused buffered

abbrev pub issuing : List ℕ → Plain → List ℕ → Result
issuing = Over.issuing buffered

abbrev pub issue_result : List ℕ → Plain → List ℕ → Result
issue_result = Over.issue_result buffered

abbrev pub load_distance : Plain → ℕ → Fate → ℕ
load_distance = Over.load_distance buffered

abbrev pub executing : Plain → List ℕ → ℕ → Fate → ℕ → Result
executing = Over.executing buffered

abbrev pub executions : List ℕ → Plain → List ℕ → ℕ → Result
executions = Over.executions buffered

abbrev pub squashing : Plain → List ℕ → ℕ → Result
squashing = Over.squashing buffered

abbrev pub squashes : List ℕ → Plain → List ℕ → ℕ → Result
squashes = Over.squashes buffered

abbrev pub committing : Plain → List ℕ → Result
committing = Over.committing buffered

abbrev pub commits : List ℕ → Plain → List ℕ → Result
commits = Over.commits buffered

abbrev pub begun : List ℕ → Plain → List ℕ → Plain
begun = Over.begun buffered

abbrev pub ready : List ℕ → Plain → List ℕ → Plain
ready = Over.ready buffered

abbrev pub finishes : List ℕ → ℕ → ℕ → Plain → List ℕ → Drain
finishes = Over.finishes buffered

abbrev pub finishing : List ℕ → Plain → List ℕ → ℕ → List ℕ → Result
finishing = Over.finishing buffered

abbrev pub respond : List ℕ → Call → Plain → List ℕ → Result
respond = Over.respond buffered

abbrev pub open_checks : Opening → List ℕ → List ℕ → List Check
open_checks = Over.open_checks buffered

abbrev pub opened : Opening → List ℕ → Plain
opened = Over.opened buffered
