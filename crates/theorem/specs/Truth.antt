-- What the record theorem says of a machine over any engine: of a list of calls over the plain state (Truth), and of the calls
-- of an opened machine (CallsTruth), the same through their contracts alone. The theorem is proved in proofs/Record.antt and
-- proofs/Closing.antt of every engine that owes what proofs/Owing.antt asks.
-- Assumes nothing.
use Rattle.std.specs.Prelude.{◌≡◌, true, false, List, ◌++◌, ℕ, suc, ◌*◌, ◌≤◌, length}
use Rattle.machine_model.specs.Over.{Engine, Realization, Call, Answer, per_commit}
use Rattle.sequential.specs.Sequential.{Run, run_after, ends, step}
use Rattle.sequential.specs.Play.{without, Played, play, needed, none_refused, all_accepted}
use Rattle.theorem.specs.Life.{Life}

-- the sequential run of the program from the memory as lent at opening, after as many steps as x has commits
abbrev pub run : {S : Type 0} → List ℕ → List ℕ → Played S → Run
run program memory x = run_after program memory x.commits

abbrev pub next : {S : Type 0} → List ℕ → Played S → List Call
next program x = needed program x.state

-- Any list of calls on an opened program, refused ones among them, came to x. The record of x, per_commit (five) numbers a
-- commit, is without its distances the record of the run, and the committed registers and the memory are the run's. As long as
-- the run has not ended, `next`, at most three calls that 01 names, are all accepted after x and commit its next instruction:
-- they commit one more, and the record without its distances is then that of the run after its next step. Once it has ended, no
-- further calls commit anything.
pub record Truth {O S : Type 0} (E : Engine O S) (program memory : List ℕ) (x : Played S) : Type 0 where
  pub record_is : without x.record' ≡ (run program memory x).record'
  pub record_grows : length x.record' ≡ x.commits * per_commit
  pub registers_are : x.state.registers ≡ (run program memory x).registers
  pub memory_is : x.memory ≡ (run program memory x).memory
  pub goes_on : ends program (run program memory x) ≡ false
      → (all_accepted E program x (next program x) ≡ true) × (length (next program x) ≤ 3)
      × ((play E program x (next program x)).commits ≡ suc x.commits)
      × (without (play E program x (next program x)).record' ≡ (step program (run program memory x)).record')
  pub stops : ends program (run program memory x) ≡ true → (more : List Call) → (play E program x more).commits ≡ x.commits

-- The same of the calls. Any calls from an opening with memory w, refused ones among them, each as its contract says, led to
-- machine u and memory v, with a record and k commits read off the answers. These are k steps of the run, the record taken
-- without its distances. As long as it has not ended, the calls that u needs, at most three, are answered without a refusal and
-- tell of one commit, and the record with the numbers that they add is then, again without distances, that of the run after
-- its next step. Once it has ended, any further calls tell of none.
pub record CallsTruth {O S : Type 0} {E : Engine O S} (R : Realization E) (program w : List ℕ) (u : R.Machine)
    (v record' : List ℕ) (k : ℕ) : Type 0 where
  pub record_is : without record' ≡ (run_after program w k).record'
  pub record_grows : length record' ≡ k * per_commit
  pub registers_are : (R.plain u).registers ≡ (run_after program w k).registers
  pub memory_is : v ≡ (run_after program w k).memory
  pub goes_on : ends program (run_after program w k) ≡ false → {answers : List Answer} {x : R.Machine} {y more : List ℕ} {j : ℕ}
      → Life R program u v (needed program (R.plain u)) answers x y more j
      → (none_refused answers ≡ true) × (length (needed program (R.plain u)) ≤ 3) × (j ≡ 1)
      × (without (record' ++ more) ≡ (step program (run_after program w k)).record')
  pub stops : ends program (run_after program w k) ≡ true → {cs : List Call} {answers : List Answer} {x : R.Machine}
      {y more : List ℕ} {j : ℕ}
      → Life R program u v cs answers x y more j
      → j ≡ 0
