-- 01's sample script through the theorem of a script's output: what it prints is what the sequential run of its program gives,
-- and the same program by one finish leaves the same memory.
-- Assumes nothing.
use mathlib.Core.Path.{◌≡◌, refl, sym, ◌∙◌}
use mathlib.Core.List.{List, [], ◌∷◌, ◌++◌}
use Prim.Native.Nat.{ℕ, ◌/◌}
use native.Mathlib.Omega.{arith}
use lib.ListN.{length}
use Rattle.text.specs.Ascii.{ascii}
use Rattle.text.specs.Decimal.{digits}
use Rattle.text.specs.Fields.{bytes}
use Rattle.text.specs.Lines.{lines_from, lines_of}
use Rattle.table.specs.Limits.{sizes_fit}
use Rattle.machine_model.specs.Calls.{per_commit}
use Rattle.sequential.proofs.Cases.{computing}
use Rattle.script_model.specs.Language.{code_from, steps, body, Script, words_asked, script}
use Rattle.script_model.specs.Output.{commit_lines, word_lines, ending, end_line, printed}
use Rattle.script_model.proofs.Examples.{sample, expected}
use Rattle.player_model.specs.Truth.{script_played, script_run, distances_of, woven, script_record, ScriptTruth}
use Rattle.player_model.proofs.Truth.{script_truth}
use Rattle.player_model.proofs.Outputs.{record_counted, prints_all, scripts_outcome}

-- The same from the sequential run. The statement is of this script, and by it what is printed is the run's record with the
-- distances, the run's word and a number on the end line that the record gives: fifteen numbers of it are three commits.
abbrev sampled : Script
sampled = script (lines_of sample)

pub sample_true : ScriptTruth sample sampled
unfolding lines_from code_from body steps bytes sizes_fit
sample_true = script_truth sample (omega arith) refl

run_numbers : length (script_record sampled) ≡ 15
unfolding computing lines_from code_from body steps bytes sizes_fit woven distances_of
run_numbers = refl

pub sample_commits : (script_played sampled).commits ≡ 3
sample_commits = omega (arith, record_counted sample_true, run_numbers)

run_printed :
    let numbers = script_record sampled in
    commit_lines numbers
    ++ (word_lines 0 (script_run sampled).memory ++ end_line (ending (script_played sampled).state) (length numbers / per_commit))
    ≡ expected
unfolding computing lines_from code_from body steps bytes digits commit_lines word_lines sizes_fit woven distances_of
run_printed = refl

pub sample_by_run : printed sample ≡ expected
unfolding lines_from code_from body steps bytes sizes_fit
sample_by_run = prints_all sample_true refl ∙ run_printed

-- The same program by one finish, on eight banks and a window of one stage: as many commits, and so the same memory.
abbrev other : List ℕ
other = ascii "N,8,1,1,8\nA,1,0,5\nS,1,0,3\nL,2,0,3\nx,3\n"

abbrev finished : Script
finished = script (lines_of other)

-- a script of this program, on eight words, that commits it all
abbrev Commits : Script → Type 0
Commits s =
    (s.body.program ≡ 1 ∷ 1 ∷ 0 ∷ 5 ∷ 4 ∷ 1 ∷ 0 ∷ 3 ∷ 3 ∷ 2 ∷ 0 ∷ 3 ∷ []) × (words_asked s.opening ≡ 8) × ((script_played s).commits ≡ 3)

sample_reads : Commits sampled
unfolding lines_from code_from body steps bytes sizes_fit
sample_reads = (refl, refl, sample_commits)

finished_reads : Commits finished
unfolding computing ascii lines_from code_from body steps bytes sizes_fit
finished_reads = (refl, refl, refl)

finished_true : ScriptTruth other finished
unfolding ascii lines_from code_from body steps bytes sizes_fit
finished_true = script_truth other (omega arith) refl

pub sample_alike : (script_played sampled).memory ≡ (script_played finished).memory
sample_alike =
    let p = sample_reads in
    let q = finished_reads in
    (scripts_outcome sample_true finished_true (p.0 ∙ sym q.0) (p.1 ∙ sym q.1) (p.2 ∙ sym q.2)).2
