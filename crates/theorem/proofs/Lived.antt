-- The record theorem of the calls is about something: a life on machines, each call as its contract says. The first commit is
-- refused; the three calls that the opened machine needs commit an instruction; a finish commits the other three. What each
-- call comes to is computed, and so is that the machines are sound. The theorem is used where the run goes on and at its end.
-- Assumes nothing.
use mathlib.Core.Path.{◌≡◌, refl}
use mathlib.Core.List.{List, [], ◌∷◌, ◌++◌}
use mathlib.Core.Option.{none}
use Prim.Native.Nat.{ℕ, ◌≤◌}
use native.Mathlib.Omega.{arith}
use lib.ListN.{length, replicate, set, take, drop}
use Rattle.marks.specs.Circle.{firsts}
use Rattle.table.specs.Limits.{sizes_fit, stages_most, slots}
use Rattle.table.specs.View.{mark_fate, tabulate}
use Rattle.table.specs.Computed.Check.{marks_below, row_fits, lawful_by}
use Rattle.engine.specs.Contract.{refused, done, named, executed, committed, finished}
use Rattle.engine.proofs.Meeting.{Accepts}
use Rattle.machine_model.specs.declared.Instruction.TheVariants.{Add}
use Rattle.machine_model.specs.declared.Fate.{Fate}
use Rattle.machine_model.specs.declared.Fate.TheVariants.{Waiting, Executed}
use Rattle.machine_model.specs.declared.Machine.{Machine}
use Rattle.machine_model.specs.Program.{registers_most}
use Rattle.machine_model.specs.Window.{blank_entry}
use Rattle.machine_model.specs.Calls.{Opening, banked, Call, issue, execute, commit, finish, Answer, respond}
use Rattle.machine_model.specs.Contract.{fresh_machine, tabled, plain, Sound, Meets, Opens}
use Rattle.machine_model.proofs.Opened.{fresh_sound, opens_done}
use Rattle.machine_model.proofs.Answering.{refused_meets, accepted_meets, validate_passes}
use Rattle.sequential.specs.Play.{without, needed}
use Rattle.theorem.specs.Life.{Life, born, lived}
use Rattle.theorem.specs.Truth.{CallsTruth}
use Rattle.theorem.specs.Answered.{told, told_after, oldest}
use Rattle.sequential.proofs.Cases.{computing}
use Rattle.sequential.proofs.Sentences.{Unrefused}
use Rattle.theorem.proofs.Buffered.{buffer_owes}
use Rattle.theorem.proofs.Closing.{life_join, calls_theorem, calls_next}
use Rattle.theorem.proofs.Outcome.{finish_over}
use Rattle.theorem.proofs.Answered.{calls_passed_up}
use Rattle.theorem.proofs.Witness.{program, memory, numbers}

-- a machine whose table has no marks, with this fate at stage 0 of the program's first instruction
abbrev machine : ℕ → ℕ → ℕ → ℕ → Fate → List ℕ → ℕ → Machine
machine oldest live number ran fate registers next =
    record {
      table = record {
        banks = 1;
        rows = 1;
        stages = 3;
        words = 8;
        oldest = oldest;
        live = live;
        next = number;
        executed = ran;
        numbers = replicate stages_most 0;
        addresses = replicate slots 0;
        loads = replicate slots 0;
        stores = replicate slots 0;
        values = replicate stages_most 0;
        taken = replicate stages_most 0;
      };
      window = set (replicate stages_most blank_entry) 0 (record { instruction = Add 1 0 9; index = 0; fate = fate; distance = 0 });
      registers = registers;
      count = 4;
      next = next;
    }

-- one bank of one row, three stages and eight words
abbrev pub opening : Opening
opening = banked 1 1 3 8

-- opened; its first instruction issued, executed and committed; the program finished
abbrev pub m₀ : Machine
m₀ = fresh_machine opening 4

abbrev pub m₁ : Machine
m₁ = machine 0 1 1 0 Waiting (replicate registers_most 0) 1

abbrev pub m₂ : Machine
m₂ = machine 0 1 1 1 (Executed 9 0) (replicate registers_most 0) 1

abbrev pub m₃ : Machine
m₃ = machine 1 0 1 1 (Executed 9 0) (0 ∷ 9 ∷ 0 ∷ 0 ∷ 0 ∷ 0 ∷ 0 ∷ 0 ∷ []) 1

abbrev pub m₄ : Machine
m₄ = machine 1 0 4 0 Waiting (0 ∷ 9 ∷ 9 ∷ 6 ∷ 0 ∷ 0 ∷ 0 ∷ 0 ∷ []) 4

abbrev pub final : List ℕ
final = 0 ∷ 0 ∷ 0 ∷ 9 ∷ 6 ∷ 0 ∷ 0 ∷ 0 ∷ []

pub opens : Opens opening program memory done m₀
unfolding computing sizes_fit
opens = opens_done opening program memory refl refl

sound₀ : Sound m₀
unfolding sizes_fit
sound₀ = fresh_sound opening 4 refl

pub sound : Sound m₁ × Sound m₂ × Sound m₃ × Sound m₄
unfolding computing sizes_fit firsts mark_fate tabulate marks_below row_fits lawful_by
sound = (
  (validate_passes m₁ program 8 refl).sound,
  (validate_passes m₂ program 8 refl).sound,
  (validate_passes m₃ program 8 refl).sound,
  (validate_passes m₄ program 8 refl).sound,
)

pub refuses : Meets program m₀ commit memory (refused 11) m₀ memory []
unfolding computing tabulate
refuses = refused_meets program m₀ commit memory 11 sound₀ refl

-- an accepted call between sound machines meets its contract where the second has the state that the definition gives
accepted : (m u : Machine) (c : Call) (w v kept : List ℕ) → Sound m → Sound u
    → let r = respond program c (plain m) w in
    Accepts r.answer → plain u ≡ r.state → v ≡ r.memory → kept ≡ r.list → Meets program m c w r.answer u v kept
accepted m u c w v kept before after taken state words list =
    let r = respond program c (plain m) w in
    accepted_meets program m c w u v kept r.answer r before refl taken refl state words list after

pub issues : Meets program m₀ issue memory (named 0) m₁ memory []
unfolding computing tabulate mark_fate
issues = accepted m₀ m₁ issue memory memory [] sound₀ sound.0 tt refl refl refl

pub executes : Meets program m₁ (execute 0) memory (executed 0 0 none) m₂ memory []
unfolding computing tabulate mark_fate
executes = accepted m₁ m₂ (execute 0) memory memory [] sound.0 sound.1 tt refl refl refl

pub commits : Meets program m₂ commit memory (committed 0 1 1 9 0) m₃ memory []
unfolding computing tabulate mark_fate
commits = accepted m₂ m₃ commit memory memory [] sound.1 sound.2 tt refl refl refl

-- a list with five places more than the three commits take
abbrev pub lent : List ℕ
lent = replicate 20 7

abbrev pub left : List ℕ
left = drop 5 numbers ++ replicate 5 7

pub finishes_all : Meets program m₃ (finish 5 lent) memory (finished 3) m₄ final left
unfolding computing tabulate mark_fate
finishes_all = accepted m₃ m₄ (finish 5 lent) memory final left sound.2 sound.3 tt refl refl refl

-- ---- the life, and what the theorem says of it

begins : Life tabled program m₀ memory (commit ∷ []) (refused 11 ∷ []) m₀ memory [] 0
begins = lived commit born refuses

needs : Life tabled program m₀ memory (needed program (plain m₀)) (named 0 ∷ executed 0 0 none ∷ committed 0 1 1 9 0 ∷ []) m₃ memory
    (take 5 numbers) 1
unfolding computing tabulate
needs = lived commit (lived (execute 0) (lived issue born issues) executes) commits

whole : Life tabled program m₀ memory (commit ∷ issue ∷ execute 0 ∷ commit ∷ finish 5 lent ∷ [])
    (refused 11 ∷ named 0 ∷ executed 0 0 none ∷ committed 0 1 1 9 0 ∷ finished 3 ∷ []) m₄ final numbers 4
unfolding computing tabulate
whole = lived (finish 5 lent) (life_join begins needs) finishes_all

pub true_of_it : CallsTruth tabled program memory m₄ final numbers 4
true_of_it = calls_theorem buffer_owes opens whole

-- the calls that the opened machine needs commit the run's first instruction
pub goes_on_there : (length (needed program (plain m₀)) ≤ 3) × Unrefused (named 0 ∷ executed 0 0 none ∷ committed 0 1 1 9 0 ∷ [])
    × CallsTruth tabled program memory m₃ memory (take 5 numbers) 1
unfolding computing
goes_on_there = calls_next buffer_owes opens begins refl needs

-- and the record is then the run's: without its distances it is concluded, not computed
pub records_there : without (take 5 numbers) ≡ 0 ∷ 1 ∷ 1 ∷ 9 ∷ []
unfolding computing
records_there = ((calls_theorem buffer_owes opens begins).goes_on refl needs).3

-- the commit's numbers were passed up by the execution before it: nothing of what is told is computed
pub passed_there : oldest (told_after [] (issue ∷ execute 0 ∷ []) (named 0 ∷ executed 0 0 none ∷ [])) ≡ told 0 0
unfolding computing tabulate
passed_there =
    calls_passed_up opens (lived (execute 0) (lived issue born issues) executes) (tt, (tt, tt)) 0 1 1 9 0 commits

-- the finish said 3 of 5 with five places left, so no further calls tell of a commit
pub stops_there : {cs : List Call} {answers : List Answer} {x : Machine} {y more : List ℕ} {j : ℕ}
    → Life tabled program m₄ final cs answers x y more j
    → j ≡ 0
unfolding computing tabulate
stops_there more = finish_over buffer_owes opens (life_join begins needs) 5 3 lent finishes_all (omega arith) (omega arith) more
