-- The player: what one step of it does, and what its calls promise, for every player, text, program, memory and buffer.
-- Assumes nothing.
use Rattle.std.specs.Prelude.{◌≡◌, Bool, true, false, cond, not, ◌&&◌, ◌||◌, List, [], ◌++◌, ◌⊎◌, ℕ, zero, suc, ◌+◌, ◌-◌, ◌/◌, ◌≤◌, ◌<◌, eqb, leb, ltb, length, get_or, replicate, take, drop}
use Rattle.std.proofs.lemmas.List.Edits.{sets}
use Rattle.std.proofs.Math.Seq.{slice}
use Rattle.text.specs.declared.Line.{Line}
use Rattle.text.specs.declared.Line.TheVariants.{End, Unended, Whole}
use Rattle.text.specs.Lines.{feed, line_at, lines_of}
use Rattle.engine.specs.Contract.{refused, named, executed, done, committed, finished}
use Rattle.machine_model.specs.declared.Machine.{Machine}
use Rattle.machine_model.specs.Program.{per_instruction, program_most}
use Rattle.machine_model.specs.Calls.{Call, issue, execute, squash, commit, finish, Answer, per_commit, buffered}
use Rattle.machine_model.specs.Contract.{plain, Meets, fresh_machine, tabled}
use Rattle.sequential.specs.Play.{commits_in}
use Rattle.script_model.specs.declared.Item.{Item}
use Rattle.script_model.specs.declared.Item.TheVariants.{Malformed, Sizes, Operation, Issue, Execute, Squash, Commit}
use Rattle.script_model.specs.declared.Item.TheVariants.{Finish}
use Rattle.player_model.specs.declared.Phase.{Phase}
use Rattle.player_model.specs.declared.Phase.TheVariants.{Over, Bad, Stepping, Finishing, Words}
use Rattle.player_model.specs.declared.Ask.{Ask}
use Rattle.player_model.specs.declared.Ask.TheVariants as ask
use Rattle.player_model.specs.declared.Order.{Order}
use Rattle.player_model.specs.declared.Player.{Player}
use Rattle.script_model.specs.Language.{parsed_line, Script, words_asked, unread, script}
use Rattle.script_model.specs.Output.{committed_lines, word_line, ending, end_line, bad_line, most}

-- ---- lines

-- lines and commits are counted in 64 bits: the largest count
abbrev pub count_most : ℕ
count_most = 18446744073709551615

-- one more; the largest count stays
abbrev pub one_more : ℕ → ℕ
one_more n = cond (ltb n count_most) (suc n) n

-- what this item of line n asks for; any item that is no step makes a bad line
abbrev pub ask_in : Item → ℕ → Ask
ask_in Malformed n = ask.Turn (Bad n)
ask_in (Sizes banks rows stages words) n = ask.Turn (Bad n)
ask_in (Operation code d s imm) n = ask.Turn (Bad n)
ask_in Issue n = ask.Issue
ask_in (Execute k) n = ask.Execute k
ask_in (Squash k) n = ask.Squash k
ask_in Commit n = ask.Commit
ask_in (Finish k) n = ask.Turn (Finishing k)

-- What the line at `cursor`, of number n, asks for, and the place and the number of the line after it. At the end of the text
-- the closing lines come; an unended line is bad.
abbrev pub order_by : List ℕ → ℕ → ℕ → Line → Order
order_by text cursor n End = record { ask = ask.Turn (Words 0); cursor = cursor; line = n }
order_by text cursor n (Unended from) = record { ask = ask.Turn (Bad n); cursor = cursor; line = n }
order_by text cursor n (Whole from to) =
    record { ask = ask_in (parsed_line (slice from to text)) n; cursor = to + 1; line = one_more n }

abbrev pub order_at : List ℕ → ℕ → ℕ → Order
order_at text cursor n = order_by text cursor n (line_at text cursor)

-- ---- one step

-- a player by its parts
abbrev pub player : Phase → ℕ → ℕ → ℕ → ℕ → Machine → Player
player phase cursor line commits used machine =
    record { phase = phase; cursor = cursor; line = line; commits = commits; used = used; machine = machine }

-- the player in another phase
abbrev pub in_phase : Player → Phase → Player
in_phase p phase = player phase p.cursor p.line p.commits p.used p.machine

-- the player past the line that it was at
abbrev pub past : Player → Order → Player
past p order = player p.phase order.cursor order.line p.commits p.used p.machine

-- nothing is called: the step prints these bytes, and player and memory are these
pub record QuietStep (bytes : List ℕ) (there : Player) (memory piece : List ℕ) (q : Player) (after : List ℕ) : Type 0 where
  pub prints : piece ≡ bytes
  pub leads : q ≡ there
  pub keeps : after ≡ memory

-- the lines of the commit at the start of a finish's list
abbrev pub first_lines : List ℕ → List ℕ
first_lines list = committed_lines (get_or list 0 0) (get_or list 1 0) (get_or list 2 0) (get_or list 3 0) (get_or list 4 0)

-- The lines of the commit that an answer tells of, if it does, with the list as the call left it. The player lends a finish room
-- for one commit.
abbrev pub told_by : Answer → List ℕ → List ℕ
told_by (refused k) list = []
told_by (named p) list = []
told_by (executed v d s) list = []
told_by done list = []
told_by (committed i c r v d) list = committed_lines i c r v d
told_by (finished n) list = cond (eqb n 0) [] (first_lines list)

-- the commits counted after an answer
abbrev pub counted_by : Answer → ℕ → ℕ
counted_by said n = cond (eqb (commits_in said) 0) n (one_more n)

-- the phase after a call: a finish goes on with one commit less as long as its list was what stopped it
abbrev pub phase_after : Call → Answer → Phase
phase_after issue said = Stepping
phase_after (execute p) said = Stepping
phase_after (squash p) said = Stepping
phase_after commit said = Stepping
phase_after (finish k list) said = cond (eqb (commits_in said) 0) Stepping (Finishing (k - 1))

-- the player after a call with this answer, which left this machine
abbrev pub after_call : Call → Answer → Machine → Player → Player
after_call c said machine p =
    player (phase_after c said) p.cursor p.line (counted_by said p.commits) p.used machine

-- Call c was made on the player's machine, as the machine's contract says of every machine, program and memory: the commit that
-- the answer tells of is printed and counted.
pub record CallStep (program : List ℕ) (c : Call) (p : Player) (memory piece : List ℕ) (q : Player) (after : List ℕ)
    : Type 0 where
  pub said : Answer
  pub machine : Machine
  pub list : List ℕ
  pub meets : Meets program p.machine c memory said machine after list
  pub prints : piece ≡ told_by said list
  pub leads : q ≡ after_call c said machine p
  pub lent : length after ≡ length memory

-- a step that takes a line, by what it asks for
abbrev pub LineStep : List ℕ → Ask → Player → List ℕ → List ℕ → Player → List ℕ → Type 0
LineStep program (ask.Turn phase) p = QuietStep [] (in_phase p phase)
LineStep program ask.Issue p = CallStep program issue p
LineStep program (ask.Execute k) p = CallStep program (execute k) p
LineStep program (ask.Squash k) p = CallStep program (squash k) p
LineStep program ask.Commit p = CallStep program commit p

-- the line of the word at address a, if it is not 0
abbrev pub word_line_at : List ℕ → ℕ → List ℕ
word_line_at memory a = cond (eqb (get_or memory a 0) 0) [] (word_line a (get_or memory a 0))

-- One step of player p in this phase, with this text and program: it prints a piece and leads to player q and memory `after`.
-- A player that is over makes none.
abbrev pub StepIn : List ℕ → List ℕ → Phase → Player → List ℕ → List ℕ → Player → List ℕ → Type 0
StepIn text program Over p memory piece q after = ⊥
StepIn text program (Bad n) p memory piece q after = QuietStep (bad_line n) (in_phase p Over) memory piece q after
StepIn text program Stepping p memory piece q after =
    let order = order_at text p.cursor p.line in
    LineStep program order.ask (past p order) memory piece q after
StepIn text program (Finishing k) p memory piece q after =
    ((k ≡ 0) × QuietStep [] (in_phase p Stepping) memory piece q after)
    ⊎ ((k ≡ 0 → ⊥) × CallStep program (finish k (replicate per_commit 0)) p memory piece q after)
StepIn text program (Words a) p memory piece q after =
    ((a < length memory) × QuietStep (word_line_at memory a) (in_phase p (Words (a + 1))) memory piece q after)
    ⊎ ((length memory ≤ a) × QuietStep (end_line (ending (plain p.machine)) p.commits) (in_phase p Over) memory piece q after)

pub record PlayerStep (text program : List ℕ) (p : Player) (memory piece : List ℕ) (q : Player) (after : List ℕ) : Type 0 where
  pub made : StepIn text program p.phase p memory piece q after

-- ---- fill

-- one step is begun only where this many bytes have room: more than it prints
abbrev pub longest : ℕ
longest = 128

-- steps one after another that print into a buffer of this size: all their bytes, and the player and the memory then
pub data PlayerSteps (text program : List ℕ) (size : ℕ) (p : Player) (memory : List ℕ)
    : List ℕ → Player → List ℕ → Type 0 where
  still : PlayerSteps text program size p memory [] p memory
  onward : {bytes : List ℕ} {q r : Player} {v w : List ℕ} (piece : List ℕ) → PlayerSteps text program size p memory bytes q v
      → length bytes + longest ≤ size → PlayerStep text program q v piece r w
      → PlayerSteps text program size p memory (bytes ++ piece) r w

-- these bytes were written at `at` into `out`, which is now `into`; they end at `end`, and all else stays
pub record Writes (out : List ℕ) (at : ℕ) (bytes into : List ℕ) (end : ℕ) : Type 0 where
  pub ended : end ≡ at + length bytes
  pub written : into ≡ sets out at bytes

abbrev pub is_over : Phase → Bool
is_over Over = true
is_over (Bad n) = false
is_over Stepping = false
is_over (Finishing k) = false
is_over (Words a) = false

-- A call of `fill` on player p, with the program in the first places of the lent list: player q and memory `after` came of steps
-- whose bytes now stand at the start of the buffer, up to `end`. It stops where all is printed or no step more has room.
pub record Fills (text program : List ℕ) (p : Player) (memory out : List ℕ) (q : Player) (after into : List ℕ) (end : ℕ)
    : Type 0 where
  pub bytes : List ℕ
  pub steps : PlayerSteps text (take p.used program) (length out) p memory bytes q after
  pub writes : Writes out 0 bytes into end
  pub within : end ≤ length out
  pub stops : (is_over q.phase ≡ true) ⊎ (length out < end + longest)

-- ---- begin

-- the script of a text; of one that is too long none is read
abbrev pub script_of : List ℕ → Script
script_of text = cond (ltb most (length text)) unread (script (lines_of text))

-- the W of the first line; 0 where there is none
abbrev pub words_of : List ℕ → ℕ
words_of text = words_asked (script_of text).opening

-- The lent program has no room for the longest program, the lent memory is not of W words, or what was lent of the text may not
-- be all of it and could still be a script.
abbrev pub wrongly_lent : List ℕ → Bool → List ℕ → List ℕ → Bool
wrongly_lent text whole program memory =
    ltb (length program) program_most || not (eqb (length memory) (words_of text)) || (not whole && leb (length text) most)

-- where line k begins, the first of which is line 0: behind the line feed of the line before
unfoldable pub line_start : List ℕ → ℕ → ℕ
line_start text zero = 0
line_start text (suc k) = suc (feed text (line_start text k))

-- a player without a machine
abbrev pub idle : Phase → Player
idle phase = player phase 0 1 0 0 tabled.unopened

-- the player of script s, behind the first line and its k instructions
abbrev pub opened_player : List ℕ → Script → ℕ → Player
opened_player text s k =
    player Stepping (line_start text (suc k)) (suc (suc k)) 0 (length s.body.program)
    (fresh_machine s.opening k)

-- the player of a text: input that is too long is bad in line 0, and a bad first line in line 1
abbrev pub first_player : List ℕ → Player
first_player text =
    let s = script_of text in
    cond (ltb most (length text)) (idle (Bad 0))
    (cond (buffered.fits s.opening) (opened_player text s (length s.body.program / per_instruction)) (idle (Bad 1)))

-- A call of `begin`, where `whole` says that the text lent is all of the input. Lent wrongly, nothing is changed and the player
-- is over. Otherwise the script's program stands at the start of the lent one and memory is zeros.
pub record Begins (text : List ℕ) (whole : Bool) (program memory : List ℕ) (q : Player) (into after : List ℕ) : Type 0 where
  pub refuses : wrongly_lent text whole program memory ≡ true → (q ≡ idle Over) × (into ≡ program) × (after ≡ memory)
  pub begins : wrongly_lent text whole program memory ≡ false
      → (q ≡ first_player text)
      × (into ≡ (script_of text).body.program ++ drop (length (script_of text).body.program) program)
      × (after ≡ replicate (words_of text) 0)
