-- The record theorem is about something: one program and one list of calls, refused ones and a finish among them, whose history
-- has a violation, a stage wrap and an eviction, on a buffer of one bank with one row and three stages. Computed are what each
-- call answers, where the window stood after the wrap, and the record, which the sequential run gives too. What the theorem
-- says is used in the middle, where the run goes on, at its end, beside the same program finished in order, and of a finish:
-- there only the run and what the theorem asks for are computed, and what the calls do is concluded. In the history of a second
-- program a load takes a word that is not in memory yet, which its commit by a finish passes up, and the run ends at a fault, an
-- H at an odd byte number.
-- Assumes nothing.
use mathlib.Core.Path.{◌≡◌, refl, ap, ◌∙◌}
use mathlib.Core.Bool.{true, false}
use mathlib.Core.List.{List, [], ◌∷◌, ◌++◌}
use mathlib.Core.Option.{none, some}
use Prim.Native.Nat.{ℕ, suc, ◌+◌, ◌≤◌}
use native.Mathlib.Omega.{arith}
use lib.ListN.{length, take, drop, replicate}
use Rattle.marks.specs.Circle.{stage}
use Rattle.table.specs.Limits.{sizes_fit}
use Rattle.table.specs.Reference.{State}
use Rattle.engine.specs.Contract.{refused, done, named, executed, committed, finished}
use Rattle.machine_model.specs.Calls.{banked, buffered, Call, issue, execute, squash, commit, finish, Answer, respond, opened}
use Rattle.sequential.specs.Sequential.{run_after, ends, step}
use Rattle.sequential.specs.Play.{without, Played, play, start, answers_of, all_accepted}
use Rattle.theorem.specs.Truth.{run, next, Truth}
use Rattle.theorem.specs.Finish.{steps_left, FinishTruth}
use Rattle.theorem.specs.Unrolled.{repeated, unrolled}
use Rattle.theorem.specs.Answered.{told, told_after, oldest}
use Rattle.sequential.proofs.Cases.{computing}
use Rattle.theorem.proofs.Buffered.{buffer_owes}
use Rattle.theorem.proofs.Record.{record_theorem}
use Rattle.theorem.proofs.Finished.{finish_theorem}
use Rattle.theorem.proofs.Outcome.{one_outcome}
use Rattle.theorem.proofs.Answered.{commit_passes}

-- r1 becomes 9; it is stored at 3; r2 loads 3; r3 loads 4
abbrev pub program : List ℕ
program = 1 ∷ 1 ∷ 0 ∷ 9 ∷ 4 ∷ 1 ∷ 0 ∷ 3 ∷ 3 ∷ 2 ∷ 0 ∷ 3 ∷ 3 ∷ 3 ∷ 0 ∷ 4 ∷ []

abbrev pub memory : List ℕ
memory = 0 ∷ 0 ∷ 0 ∷ 5 ∷ 6 ∷ 0 ∷ 0 ∷ 0 ∷ []

abbrev opening : Played State
opening = start (opened (banked 1 1 3 8) program) memory

abbrev pub calls : List Call
calls =
    commit ∷ issue ∷ issue ∷ issue ∷ execute 2 ∷ execute 0 ∷ execute 1 ∷ commit ∷ commit ∷ issue ∷ issue ∷ execute 1 ∷ execute 0
    ∷ finish 5 (replicate 11 0)
    ∷ []

abbrev pub x : Played State
x = play buffered program opening calls

-- Nothing is live at first. The load takes 5, too early: the older store to 3 executes later and squashes from position 2, a
-- violation. After two commits the window stands at stages 2 and 0. The load of 4 takes the one row; the older load of 3
-- evicts it and squashes from position 1. The finish commits that load, and then the other, issued and executed once more.
pub answered : answers_of buffered program opening calls
    ≡ refused 11 ∷ named 0 ∷ named 1 ∷ named 2 ∷ executed 5 0 none ∷ executed 0 0 none ∷ executed 0 0 (some 2)
    ∷ committed 0 1 1 9 0
    ∷ committed 1 4 3 9 0
    ∷ named 0
    ∷ named 1
    ∷ executed 6 0 none
    ∷ executed 9 0 (some 1)
    ∷ finished 2
    ∷ []
unfolding computing
answered = refl

abbrev wrap : Played State
wrap = play buffered program opening (take 11 calls)

-- the two live entries stand at stages 2 and 0
pub wrapped : (wrap.state.buffer.oldest ≡ 2) × (length wrap.state.entries ≡ 2) × (stage 2 3 1 ≡ 0)
unfolding computing
wrapped = (refl, refl, refl)

abbrev pub numbers : List ℕ
numbers = 0 ∷ 1 ∷ 1 ∷ 9 ∷ 0 ∷ 1 ∷ 4 ∷ 3 ∷ 9 ∷ 0 ∷ 2 ∷ 3 ∷ 2 ∷ 9 ∷ 0 ∷ 3 ∷ 3 ∷ 3 ∷ 6 ∷ 0 ∷ []

-- four commits, and what they recorded, as the sequential run does but for the distances
pub recorded : (x.record' ≡ numbers) × (x.commits ≡ 4) × ((run_after program memory 4).record' ≡ without numbers)
unfolding computing without
recorded = (refl, refl, refl)

-- one of the calls is refused, the first; without it none is
pub told_apart : (all_accepted buffered program opening calls ≡ false) × (all_accepted buffered program opening (drop 1 calls) ≡ true)
unfolding computing
told_apart = (refl, refl)

-- and the theorem is about it: the opening passes its checks
pub true_of_it : (cs : List Call) → Truth buffered program memory (play buffered program opening cs)
unfolding computing sizes_fit
true_of_it cs = record_theorem buffer_owes (banked 1 1 3 8) program memory refl cs

-- After the wrap two instructions are committed and two are left. Two calls are needed to commit the next one, the load of 3.
pub next_there : (next program wrap ≡ execute 0 ∷ commit ∷ []) × (wrap.commits ≡ 2) × (ends program (run program memory wrap) ≡ false)
    × ((step program (run program memory wrap)).record' ≡ without (take 15 numbers))
unfolding computing without
next_there = (refl, refl, refl, refl)

-- both are accepted, and the record then has its numbers too: concluded, not computed
pub goes_on_there : (all_accepted buffered program wrap (next program wrap) ≡ true) × (length (next program wrap) ≤ 3)
    × ((play buffered program wrap (next program wrap)).commits ≡ 3)
    × (without (play buffered program wrap (next program wrap)).record' ≡ without (take 15 numbers))
goes_on_there =
    let g = (true_of_it (take 11 calls)).goes_on next_there.2 in
    (g.0, g.1, g.2 ∙ ap suc next_there.1, g.3 ∙ next_there.3)

-- at the end no further calls commit anything
pub stops_there : (more : List Call) → (play buffered program x more).commits ≡ 4
unfolding computing
stops_there more = (true_of_it calls).stops refl more

-- the same program finished in order, on two banks and a longer window: as many commits, so one outcome
abbrev y : Played State
y = play buffered program (start (opened (banked 2 1 5 8) program) memory) (finish 9 (replicate 20 0) ∷ [])

as_many : x.commits ≡ y.commits
unfolding computing
as_many = refl

true_in_order : Truth buffered program memory y
unfolding computing sizes_fit
true_in_order = record_theorem buffer_owes (banked 2 1 5 8) program memory refl (finish 9 (replicate 20 0) ∷ [])

pub outcome_there : (without x.record' ≡ without y.record') × (x.state.registers ≡ y.state.registers)
    × (x.memory ≡ y.memory)
outcome_there = one_outcome (true_of_it calls) true_in_order as_many

-- ---- a finish

-- two instructions are committed, then a finish is made with limit 5 and room for four commits
abbrev two : Played State
two = play buffered program opening (take 13 calls)

abbrev said : Answer
said = (respond program (finish 5 (replicate 20 0)) two.state two.memory).answer

two_committed : two.commits ≡ 2
unfolding computing
two_committed = refl

finish_true : FinishTruth program memory two.commits 5 (replicate 20 0) said
unfolding computing sizes_fit
finish_true = finish_theorem buffer_owes (banked 1 1 3 8) program memory refl (take 13 calls) 5 (replicate 20 0)

-- it says 2, as many as the run has left: of the finish nothing is computed
pub finish_says_lem : said ≡ finished 2
unfolding steps_left run_after
finish_says_lem =
    finish_true.commits_left ∙ ap (λ (c : ℕ). finished (steps_left program (run_after program memory c) 4)) two_committed

-- that is fewer than its limit and than its list has room for, so the run has ended
pub finish_ends : ends program (run_after program memory (two.commits + 2)) ≡ true
finish_ends = finish_true.ended 2 finish_says_lem (omega arith) (omega arith)

-- ---- a run that ends at a fault

-- r1 becomes 511; its low byte is stored at byte 13, its low 16 bits at bytes 14 and 15; r2 loads that word; then r1's low 16
-- bits are stored at byte 13, an odd one
abbrev parts : List ℕ
parts = 1 ∷ 1 ∷ 0 ∷ 511 ∷ 5 ∷ 1 ∷ 0 ∷ 13 ∷ 6 ∷ 1 ∷ 0 ∷ 14 ∷ 3 ∷ 2 ∷ 0 ∷ 3 ∷ 6 ∷ 1 ∷ 0 ∷ 13 ∷ []

abbrev part_opening : Played State
part_opening = start (opened (banked 1 1 3 8) parts) memory

abbrev part_calls : List Call
part_calls =
    issue ∷ issue ∷ issue ∷ execute 0 ∷ execute 2 ∷ execute 1 ∷ commit ∷ issue ∷ issue ∷ execute 1 ∷ execute 2
    ∷ finish 5 (replicate 21 0)
    ∷ commit
    ∷ squash 0
    ∷ []

-- The half word goes first and is squashed by the byte, a store to its word. It goes again, and the load takes its word from
-- one position older. The finish commits three and leaves the odd one executed, whose commit is refused.
pub part_answered : answers_of buffered parts part_opening part_calls
    ≡ named 0 ∷ named 1 ∷ named 2 ∷ executed 0 0 none ∷ executed 0 0 none ∷ executed 0 0 (some 2)
    ∷ committed 0 1 1 511 0
    ∷ named 1
    ∷ named 2
    ∷ executed 0 0 none
    ∷ executed 33554181 1 none
    ∷ finished 3
    ∷ refused 14
    ∷ done
    ∷ []
unfolding computing
part_answered = refl

-- The record has the byte numbers and the whole words, and the load's distance though the half word committed before it. It is
-- the run's but for the distances, and the run has ended.
abbrev part_numbers : List ℕ
part_numbers =
    0 ∷ 1 ∷ 1 ∷ 511 ∷ 0 ∷ 1 ∷ 5 ∷ 13 ∷ 65285 ∷ 0 ∷ 2 ∷ 6 ∷ 14 ∷ 33554181 ∷ 0 ∷ 3 ∷ 3 ∷ 2 ∷ 33554181 ∷ 1 ∷ []

pub part_recorded : ((play buffered parts part_opening part_calls).record' ≡ part_numbers)
    × ((run_after parts memory 4).record' ≡ without part_numbers)
    × (ends parts (run_after parts memory 4) ≡ true)
unfolding computing without
part_recorded = (refl, refl, refl)

-- though an instruction is left and its place in the window is free again, no further calls commit anything
pub part_stops : (more : List Call) → (play buffered parts (play buffered parts part_opening part_calls) more).commits ≡ 4
unfolding computing sizes_fit
part_stops more = (record_theorem buffer_owes (banked 1 1 3 8) parts memory refl part_calls).stops refl more

-- ---- what an execution answered

-- of the three entries that are live before the finish: the byte and the half word have no distance, the load has one
pub part_told : told_after [] (take 11 part_calls) (answers_of buffered parts part_opening (take 11 part_calls))
    ≡ told 0 0 ∷ told 0 0 ∷ told 33554181 1 ∷ []
unfolding computing told_after
part_told = refl

-- the finish repeats three commits, and then issue, execute and a commit, which is refused
abbrev until_load : List Call
until_load = take 11 part_calls ++ (commit ∷ commit ∷ [])

pub part_unrolled : unrolled buffered parts part_opening (take 12 part_calls) ≡ until_load ++ (commit ∷ issue ∷ execute 0 ∷ commit ∷ [])
unfolding computing unrolled repeated
part_unrolled = refl

-- the third commits the load, two commits after its execution: what that one answered is concluded from the commit
load_committed : (respond parts commit (play buffered parts part_opening until_load).state (play buffered parts part_opening until_load).memory
    ).answer
    ≡ committed 3 3 2 33554181 1
unfolding computing
load_committed = refl

pub part_passed : oldest (told_after [] until_load (answers_of buffered parts part_opening until_load)) ≡ told 33554181 1
part_passed =
    commit_passes buffered parts part_opening refl (take 12 part_calls) until_load (issue ∷ execute 0 ∷ commit ∷ []) part_unrolled 3 3 2
    33554181 1 load_committed
