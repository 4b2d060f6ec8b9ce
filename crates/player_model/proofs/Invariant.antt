-- What is left to print, what holds of a player from its beginning on, and a number that falls with every step. `begin` shows the
-- invariant (Beginnings), every step keeps it (StepContract), and the theorem of the pieces uses both.
-- Assumes nothing.
use mathlib.Core.Path.{◌≡◌}
use mathlib.Core.Bool.{Bool, true, false}
use mathlib.Core.List.{List, [], ◌++◌}
use Prim.Native.Nat.{ℕ, suc, ◌+◌, ◌-◌, ◌*◌, ◌≤◌}
use lib.ListN.{length, replicate, drop}
use Rattle.text.specs.Fields.{largest}
use Rattle.table.specs.Reference.{State}
use Rattle.machine_model.specs.declared.Machine.{Machine}
use Rattle.machine_model.specs.Calls.{finish, per_commit}
use Rattle.machine_model.specs.Contract.{plain, Sound}
use Rattle.sequential.specs.Play.{Played}
use Rattle.sequential.proofs.Owing.{Linked}
use Rattle.theorem.proofs.Buffered.{buffer_owes}
use Rattle.player_model.specs.declared.Phase.{Phase}
use Rattle.player_model.specs.declared.Phase.TheVariants.{Over, Bad, Stepping, Finishing, Words}
use Rattle.player_model.specs.declared.Player.{Player}
use Rattle.script_model.specs.Language.{Steps, before}
use Rattle.script_model.specs.Output.{word_lines, ending, end_line, bad_line, transcript, most}
use Rattle.player_model.specs.Computed.Parts.{steps_at}

-- a machine, its memory and the number of commits so far, with nothing recorded from here on
abbrev pub standing : Machine → List ℕ → ℕ → Played State
standing m memory commits = record { state = plain m; memory = memory; record' = []; commits = commits }

-- what is left to print in a phase, where these steps are still to be read
abbrev pub left_in : List ℕ → Phase → Steps → Played State → List ℕ
left_in program Over more x = []
left_in program (Bad n) more x = bad_line n
left_in program Stepping more x = transcript program x more
left_in program (Finishing k) more x = transcript program x (before (finish k (replicate (k * per_commit) 0)) more)
left_in program (Words a) more x = word_lines a (drop a x.memory) ++ end_line (ending x.state) x.commits

abbrev pub left : List ℕ → List ℕ → Player → List ℕ → List ℕ
left text program p memory =
    left_in program p.phase (steps_at text p.cursor p.line) (standing p.machine memory p.commits)

-- commits that a finish may still make
abbrev pub due : Phase → ℕ
due Over = 0
due (Bad n) = 0
due Stepping = 0
due (Finishing k) = k
due (Words a) = 0

-- a machine in use is sound, and stands where calls of this program lead
pub record Usable (program : List ℕ) (m : Machine) (memory : List ℕ) : Type 0 where
  pub sound : Sound m
  pub linked : Linked buffer_owes program (plain m) memory

abbrev pub InUse : Phase → List ℕ → Machine → List ℕ → Type 0
InUse Over program m memory = Unit {0}
InUse (Bad n) program m memory = Unit {0}
InUse Stepping program m memory = Usable program m memory
InUse (Finishing k) program m memory = Usable program m memory
InUse (Words a) program m memory = Usable program m memory

-- the phases that go on with the script
abbrev pub is_playing : Phase → Bool
is_playing Over = false
is_playing (Bad n) = false
is_playing Stepping = true
is_playing (Finishing k) = true
is_playing (Words a) = true

-- more commits than a line asks for, whose number is at most the largest
abbrev pub line_share : ℕ
line_share = suc largest

-- What holds of a player from its beginning on. Each line takes a byte at least and asks for fewer commits than its share, so
-- neither number outgrows 64 bits.
pub record Playing (text program : List ℕ) (p : Player) (memory : List ℕ) : Type 0 where
  pub fits : is_playing p.phase ≡ true → length text ≤ most
  pub within : p.cursor ≤ length text
  pub used : InUse p.phase program p.machine memory
  pub counted : p.commits + due p.phase ≤ p.cursor * line_share
  pub numbered : p.line ≤ suc p.cursor

-- A number that falls with every step: the program's loop ends by it. Behind a line the rank rises by less than a line weighs.
abbrev pub line_weight : ℕ
line_weight = 2 * line_share

abbrev pub rank : ℕ → Phase → ℕ
rank words Over = 0
rank words (Bad n) = 1
rank words (Words a) = 2 + (words - a)
rank words Stepping = 3 + words
rank words (Finishing k) = 4 + words + k

abbrev pub weight : List ℕ → Player → List ℕ → ℕ
weight text p memory = (length text - p.cursor) * line_weight + rank (length memory) p.phase
