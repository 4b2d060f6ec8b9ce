-- What ScriptTruth gives by itself: all that is printed of a script without a bad line, the number on its end line, an opening
-- that is accepted, from which any calls are true of the run, and one outcome of as many commits. And what PiecesTruth gives
-- before the end: the first bytes of what the script prints.
-- Assumes nothing.
use mathlib.Core.Path.{◌≡◌, sym, ap, subst, ◌∙◌}
use mathlib.Core.List.{List, ◌++◌}
use mathlib.Core.Option.{Option, none}
use Prim.Native.Nat.{ℕ, ◌*◌, ◌/◌}
use native.Mathlib.Omega.{arith}
use lib.ListN.{length, take, replicate}
use lib.Seq.{take-append_seam}
use Rattle.engine.specs.Contract.{done}
use Rattle.machine_model.specs.declared.Machine.{Machine}
use Rattle.machine_model.specs.Calls.{Call, Answer, per_commit, buffered}
use Rattle.machine_model.specs.Contract.{tabled, Opens}
use Rattle.sequential.specs.Play.{without}
use Rattle.theorem.specs.Life.{Life}
use Rattle.theorem.specs.Truth.{Truth, CallsTruth}
use Rattle.theorem.proofs.Buffered.{buffer_owes}
use Rattle.theorem.proofs.Closing.{calls_theorem}
use Rattle.theorem.proofs.Outcome.{one_outcome}
use Rattle.player_model.specs.declared.Player.{Player}
use Rattle.script_model.specs.Language.{Script, words_asked}
use Rattle.script_model.specs.Output.{commit_lines, word_lines, ending, end_line, closing, printed}
use Rattle.player_model.specs.Truth.{zeros, script_played, script_run, distances_of, script_record, ScriptTruth}
use Rattle.player_model.specs.Truth.{joined, PiecesTruth}
use Rattle.player_model.proofs.Weaving.{woven_length}

module _ {text : List ℕ} {s : Script} (t : ScriptTruth text s) where
  -- five numbers of the record printed for each commit counted
  pub record_counted : length (script_record s) ≡ (script_played s).commits * per_commit
  record_counted =
      woven_length (script_run s).record' (distances_of (script_played s).record') (script_played s).commits t.counts
      t.distances

  -- No line is bad: the commits of the run with their distances, the words of its memory, and the end line, whose number is that
  -- of the commits in the record.
  pub prints_all : s.body.steps.flaw ≡ none
      → printed text
      ≡ commit_lines (script_record s)
      ++ (word_lines 0 (script_run s).memory ++ end_line (ending (script_played s).state) (length (script_record s) / per_commit))
  prints_all fine =
      t.prints
      ∙ ap (λ (flaw : Option ℕ). commit_lines (script_record s) ++ closing (script_played s) flaw) fine
      ∙ ap (λ (lines : List ℕ). commit_lines (script_record s) ++ lines) t.closes
      ∙ ap
      (λ (n : ℕ).
      commit_lines (script_record s) ++ (word_lines 0 (script_run s).memory ++ end_line (ending (script_played s).state) n))
      (let n : (script_played s).commits ≡ length (script_record s) / per_commit = omega (arith, record_counted) in n)

  -- The machine opened as the first line asks, with the script's program and zeros, says `done`, and any calls from there on, not
  -- only the script's, are true of the run.
  pub opening_done : {said : Answer} {u : Machine} → Opens s.opening s.body.program (zeros s) said u → said ≡ done
  opening_done opened = (opened.opens t.opens).0

  pub calls_true : {said : Answer} {u : Machine}
      → Opens s.opening s.body.program (zeros s) said u
      → {calls : List Call} {answers : List Answer} {x : Machine} {v numbers : List ℕ} {k : ℕ}
      → Life tabled s.body.program u (zeros s) calls answers x v numbers k
      → CallsTruth tabled s.body.program (zeros s) x v numbers k
  calls_true {u = u} opened life =
      calls_theorem buffer_owes
      (subst (λ (a : Answer). Opens s.opening s.body.program (zeros s) a u) (opening_done opened) opened)
      life

-- Two scripts with one program and as many words, whose plays have as many commits, have one outcome, whatever their steps and
-- their other sizes: the record but for the distances, the registers and the words of memory, whose lines are printed.
pub scripts_outcome : {text other : List ℕ} {s z : Script} → ScriptTruth text s → ScriptTruth other z
    → s.body.program ≡ z.body.program → words_asked s.opening ≡ words_asked z.opening
    → (script_played s).commits ≡ (script_played z).commits
    → (without (script_played s).record' ≡ without (script_played z).record')
    × ((script_played s).state.registers ≡ (script_played z).state.registers)
    × ((script_played s).memory ≡ (script_played z).memory)
scripts_outcome {s = s} {z} t u program words commits =
    one_outcome t.truth
    (subst (λ (l : List ℕ). Truth buffered l (zeros s) (script_played z)) (sym program)
    (subst (λ (w : ℕ). Truth buffered z.body.program (replicate w 0) (script_played z)) (sym words) u.truth))
    commits

-- what was written so far are the first bytes of what the script prints
pub written_first : {text : List ℕ} {pieces : List (List ℕ)} {r : Player} → PiecesTruth text pieces r
    → take (length (joined pieces)) (printed text) ≡ joined pieces
written_first {pieces = pieces} t =
    ap (take (length (joined pieces))) t.so_far ∙ take-append_seam (joined pieces) t.rest
