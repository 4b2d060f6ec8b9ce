-- What a script prints: text in, bytes out.
-- Assumes nothing.
use Rattle.std.specs.Prelude.{Bool, cond, ◌||◌, List, [], ◌∷◌, ◌++◌, ℕ, suc, eqb, ltb, length, replicate}
use Rattle.std.proofs.Math.Option.{Option, none, some}
use Rattle.text.specs.Decimal.{decimal}
use Rattle.text.specs.Lines.{lines_of}
use Rattle.table.specs.Reference.{State}
use Rattle.engine.specs.Conditions.{faults}
use Rattle.machine_model.specs.declared.Entry.{Entry}
use Rattle.machine_model.specs.Window.{entry_at, reference, misaligned}
use Rattle.machine_model.specs.Calls.{Plain, program_done, buffered, opened}
use Rattle.sequential.specs.Play.{Played, play, start}
use Rattle.script_model.specs.declared.Ending.{Ending}
use Rattle.script_model.specs.declared.Ending.TheVariants.{Open, Done, Fault}
use Rattle.script_model.specs.Language.{letter, Steps, Script, words_asked, script}

-- a number and the byte after it: a comma (44) or the line feed (10)
abbrev pub number_field : ℕ → ℕ → List ℕ
number_field n b = decimal n ++ (b ∷ [])

-- index, letter, register (for S the address, for B and H the byte number) and value (for B and H the whole word stored)
abbrev pub commit_line : ℕ → ℕ → ℕ → ℕ → List ℕ
commit_line i code r v = number_field i 44 ++ (letter code ∷ 44 ∷ []) ++ number_field r 44 ++ number_field v 10

-- a letter and two numbers
abbrev pub pair_line : ℕ → ℕ → ℕ → List ℕ
pair_line b m n = (b ∷ 44 ∷ []) ++ number_field m 44 ++ number_field n 10

-- `f,index,distance`
abbrev pub distance_line : ℕ → ℕ → List ℕ
distance_line i d = pair_line 102 i d

-- a commit's line, and of an L (code 3) its distance just before
abbrev pub committed_lines : ℕ → ℕ → ℕ → ℕ → ℕ → List ℕ
committed_lines i code r v d = cond (eqb code 3) (distance_line i d) [] ++ commit_line i code r v

-- the lines of each commit of a record
unfoldable pub commit_lines : List ℕ → List ℕ
commit_lines (i ∷ code ∷ r ∷ v ∷ d ∷ ns) = committed_lines i code r v d ++ commit_lines ns
commit_lines (i ∷ code ∷ r ∷ v ∷ []) = []
commit_lines (i ∷ code ∷ r ∷ []) = []
commit_lines (i ∷ code ∷ []) = []
commit_lines (i ∷ []) = []
commit_lines [] = []

-- `m,address,value`
abbrev pub word_line : ℕ → ℕ → List ℕ
word_line a v = pair_line 109 a v

-- a line for each non-zero word, in rising address from a on
unfoldable pub word_lines : ℕ → List ℕ → List ℕ
word_lines a [] = []
word_lines a (v ∷ vs) = cond (eqb v 0) [] (word_line a v) ++ word_lines (suc a) vs

-- it has executed at an address of W or more, or as an H at an odd byte number
abbrev pub faulted : ℕ → Entry → Bool
faulted words e = faults words (reference e) || misaligned e

-- `done` when all is committed, `fault` when the oldest has executed where the run faults, else `open`
abbrev pub ending : Plain → Ending
ending X = cond (program_done X) Done (cond (faulted (buffered.words X.buffer) (entry_at X.entries 0)) Fault Open)

abbrev pub fate : Ending → List ℕ
fate Open = 111 ∷ 112 ∷ 101 ∷ 110 ∷ []
fate Done = 100 ∷ 111 ∷ 110 ∷ 101 ∷ []
fate Fault = 102 ∷ 97 ∷ 117 ∷ 108 ∷ 116 ∷ []

-- `end,fate,commits`
abbrev pub end_line : Ending → ℕ → List ℕ
end_line e commits = (101 ∷ 110 ∷ 100 ∷ 44 ∷ []) ++ fate e ++ (44 ∷ []) ++ number_field commits 10

-- `bad,line`
abbrev pub bad_line : ℕ → List ℕ
bad_line n = (98 ∷ 97 ∷ 100 ∷ 44 ∷ []) ++ number_field n 10

-- the closing lines, or the bad line in their place
abbrev pub closing : Played State → Option ℕ → List ℕ
closing x none = word_lines 0 x.memory ++ end_line (ending x.state) x.commits
closing x (some n) = bad_line n

-- the commits of the steps played from x on, then the closing lines
abbrev pub transcript : List ℕ → Played State → Steps → List ℕ
transcript program x s =
    let y = play buffered program x s.calls in
    commit_lines y.record' ++ closing y s.flaw

-- the opening: memory starts as zeros
abbrev pub script_opening : Script → Played State
script_opening s = start (opened s.opening s.body.program) (replicate (words_asked s.opening) 0)

abbrev pub output : Script → List ℕ
output s = transcript s.body.program (script_opening s) s.body.steps

-- the largest input
abbrev pub most : ℕ
most = 65536

unfoldable pub printed : List ℕ → List ℕ
printed text = cond (ltb most (length text)) (bad_line 0) (output (script (lines_of text)))
