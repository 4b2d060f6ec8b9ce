-- What the record theorem says of a script (ScriptTruth), and the theorem of the pieces of what the calls of `fill` hand out
-- (PiecesTruth). They are proved in proofs/Truth.antt and proofs/Pieces.antt.
-- Assumes nothing.
use Rattle.std.specs.Prelude.{◌≡◌, true, List, [], ◌∷◌, ◌++◌, ℕ, ◌*◌, length, take, replicate}
use Rattle.std.proofs.Math.Option.{none}
use Rattle.table.specs.Reference.{State}
use Rattle.engine.specs.Conditions.{refusal}
use Rattle.machine_model.specs.Calls.{buffered, open_checks}
use Rattle.sequential.specs.Sequential.{Run, run_after}
use Rattle.sequential.specs.Play.{Played, play}
use Rattle.theorem.specs.Truth.{Truth}
use Rattle.player_model.specs.declared.Player.{Player}
use Rattle.script_model.specs.Language.{Script, words_asked}
use Rattle.script_model.specs.Output.{commit_lines, word_lines, ending, end_line, closing, script_opening, printed}
use Rattle.player_model.specs.Playing.{is_over, Fills}

-- the opening of a good first line
abbrev pub Sized : Script → Type 0
Sized s = buffered.fits s.opening ≡ true

-- the memory that a script opens with
abbrev pub zeros : Script → List ℕ
zeros s = replicate (words_asked s.opening) 0

-- what the calls of a script's steps come to
abbrev pub script_played : Script → Played State
script_played s = play buffered s.body.program (script_opening s) s.body.steps.calls

-- the sequential run, after as many steps
abbrev pub script_run : Script → Run
script_run s = run_after s.body.program (zeros s) (script_played s).commits

-- the distances of a record: each fifth number
unfoldable pub distances_of : List ℕ → List ℕ
distances_of (i ∷ code ∷ r ∷ v ∷ d ∷ ns) = d ∷ distances_of ns
distances_of (i ∷ code ∷ r ∷ v ∷ []) = []
distances_of (i ∷ code ∷ r ∷ []) = []
distances_of (i ∷ code ∷ []) = []
distances_of (i ∷ []) = []
distances_of [] = []

-- a record of four numbers a commit with these distances, each behind its four
unfoldable pub woven : List ℕ → List ℕ → List ℕ
woven (i ∷ code ∷ r ∷ v ∷ ns) (d ∷ ds) = i ∷ code ∷ r ∷ v ∷ d ∷ woven ns ds
woven (i ∷ code ∷ r ∷ v ∷ ns) [] = []
woven (i ∷ code ∷ r ∷ []) ds = []
woven (i ∷ code ∷ []) ds = []
woven (i ∷ []) ds = []
woven [] ds = []

-- the sequential run's record with the distances of the play
abbrev pub script_record : Script → List ℕ
script_record s = woven (script_run s).record' (distances_of (script_played s).record')

-- Of a text of at most 65,536 bytes that is script s, with sizes within their limits. The opening is accepted, and what is
-- printed is the commit lines of the sequential run's record with the distances of the play and then the closing lines: the
-- non-zero words of the run's memory and the end line with the number of commits, or the bad line in their place.
pub record ScriptTruth (text : List ℕ) (s : Script) : Type 0 where
  -- no condition that refuses an opening holds
  pub opens : refusal (open_checks s.opening s.body.program (zeros s)) ≡ 0
  -- the record theorem of the machine, of these calls
  pub truth : Truth buffered s.body.program (zeros s) (script_played s)
  pub prints : printed text ≡ commit_lines (script_record s) ++ closing (script_played s) s.body.steps.flaw
  -- the closing lines where no line is bad
  pub closes : closing (script_played s) none
      ≡ word_lines 0 (script_run s).memory ++ end_line (ending (script_played s).state) (script_played s).commits
  -- four numbers of the run and a distance for each commit that the end line counts
  pub counts : length (script_run s).record' ≡ (script_played s).commits * 4
  pub distances : length (distances_of (script_played s).record') ≡ (script_played s).commits

-- Calls of `fill` from player p and this memory on, one after the other, each on any buffer: the pieces written, and the player
-- and the memory then.
pub data Fillings (text program : List ℕ) (p : Player) (memory : List ℕ) : List (List ℕ) → Player → List ℕ → Type 0 where
  ready : Fillings text program p memory [] p memory
  filled : {pieces : List (List ℕ)} {q r : Player} {v w out into : List ℕ} {n : ℕ}
      → Fillings text program p memory pieces q v → Fills text program q v out r w into n
      → Fillings text program p memory (pieces ++ (take n into ∷ [])) r w

-- all pieces, one after the other
unfoldable pub joined : List (List ℕ) → List ℕ
joined [] = []
joined (piece ∷ pieces) = piece ++ joined pieces

-- Calls of `fill` from a `begin` that was lent rightly wrote these pieces and led to player r: what was written is the beginning
-- of what the script prints, and all of it once the player is over.
pub record PiecesTruth (text : List ℕ) (pieces : List (List ℕ)) (r : Player) : Type 0 where
  pub rest : List ℕ
  pub so_far : printed text ≡ joined pieces ++ rest
  pub all : is_over r.phase ≡ true → joined pieces ≡ printed text
