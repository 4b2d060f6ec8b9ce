-- The theorem of the pieces is about something: a script begun with a program and a memory lent rightly, and played by three
-- calls of `fill`. The first buffer has no room for a step; the second is full after the commit's line; the third takes the
-- rest. Among the steps are a refused call, a finish up to its limit, a word of memory and the end line. What the machine's
-- calls come to is computed, and so is that its machines are sound.
-- Assumes nothing.
use mathlib.Core.Path.{◌≡◌, refl, sym}
use mathlib.Core.Bool.{true, false≢true}
use mathlib.Core.List.{List, [], ◌∷◌, ◌++◌}
use mathlib.Core.Logic.{inl, inr}
use Prim.Native.Nat.{ℕ, ◌-◌, ◌<◌}
use native.Mathlib.Omega.{arith}
use lib.ListN.{length, take, replicate}
use lib.Seq.{sets}
use Rattle.text.specs.Decimal.{digits}
use Rattle.text.specs.Fields.{bytes}
use Rattle.text.specs.Lines.{feed_in, lines_from, lines_of}
use Rattle.marks.specs.Circle.{firsts}
use Rattle.table.specs.Limits.{stages_most, slots, sizes_fit}
use Rattle.table.specs.View.{mark_fate, tabulate}
use Rattle.table.specs.Computed.Check.{marks_below, row_fits, lawful_by}
use Rattle.engine.specs.Contract.{refused, finished}
use Rattle.machine_model.specs.declared.Machine.{Machine}
use Rattle.machine_model.specs.Program.{per_instruction, program_most}
use Rattle.machine_model.specs.Window.{blank_entry}
use Rattle.machine_model.specs.Calls.{commit, finish, per_commit, banked}
use Rattle.machine_model.specs.Contract.{fresh_machine, Sound, Meets}
use Rattle.machine_model.proofs.Opened.{fresh_sound}
use Rattle.machine_model.proofs.Answering.{refused_meets, accepted_meets, validate_passes}
use Rattle.sequential.proofs.Cases.{computing}
use Rattle.player_model.specs.declared.Phase.{Phase}
use Rattle.player_model.specs.declared.Phase.TheVariants.{Over, Stepping, Finishing, Words}
use Rattle.player_model.specs.declared.Player.{Player}
use Rattle.script_model.specs.Language.{code_from, steps, body, Script, script}
use Rattle.script_model.specs.Output.{commit_lines, closing, printed}
use Rattle.player_model.specs.Playing.{player, QuietStep, StepIn, PlayerStep, longest, still, onward, Fills, line_start}
use Rattle.player_model.specs.Playing.{Begins}
use Rattle.player_model.specs.Truth.{script_played, script_record, Fillings, ready, filled, joined}
use Rattle.text.specs.Ascii.{ascii}
use Rattle.player_model.proofs.Invariant.{weight}
use Rattle.player_model.proofs.StepContract.{filling_none, filling_ends, fills_falls}
use Rattle.player_model.proofs.Ways.{called}
use Rattle.player_model.proofs.Pieces.{pieces_are}
use Rattle.player_model.proofs.Truth.{pieces_tell}
use Rattle.player_model.proofs.Outputs.{written_first}

-- the steps begin at byte 18, in line 3
abbrev text : List ℕ
text = ascii "N,1,1,1,1\nA,1,0,9\nc\nx,1\n"

abbrev s : Script
s = script (lines_of text)

abbrev program : List ℕ
program = 1 ∷ 1 ∷ 0 ∷ 9 ∷ []

-- the machine opened, and after the finish
abbrev m₀ : Machine
m₀ = fresh_machine (banked 1 1 1 1) 1

abbrev m₁ : Machine
m₁ =
    record {
      table = record {
        banks = 1;
        rows = 1;
        stages = 1;
        words = 1;
        oldest = 0;
        live = 0;
        next = 1;
        executed = 0;
        numbers = replicate stages_most 0;
        addresses = replicate slots 0;
        loads = replicate slots 0;
        stores = replicate slots 0;
        values = replicate stages_most 0;
        taken = replicate stages_most 0;
      };
      window = replicate stages_most blank_entry;
      registers = 0 ∷ 9 ∷ 0 ∷ 0 ∷ 0 ∷ 0 ∷ 0 ∷ 0 ∷ [];
      count = 1;
      next = 1;
    }

sound₀ : Sound m₀
unfolding sizes_fit
sound₀ = fresh_sound (banked 1 1 1 1) 1 refl

sound₁ : Sound m₁
unfolding computing sizes_fit firsts mark_fate tabulate marks_below row_fits lawful_by
sound₁ = (validate_passes m₁ program 1 refl).sound

refuses : Meets program m₀ commit (0 ∷ []) (refused 11) m₀ (0 ∷ []) []
unfolding computing tabulate
refuses = refused_meets program m₀ commit (0 ∷ []) 11 sound₀ refl

finishes : Meets program m₀ (finish 1 (replicate per_commit 0)) (0 ∷ []) (finished 1) m₁ (0 ∷ []) (0 ∷ 1 ∷ 1 ∷ 9 ∷ 0 ∷ [])
unfolding computing tabulate mark_fate
finishes =
    accepted_meets program m₀ (finish 1 (replicate per_commit 0)) (0 ∷ []) m₁ (0 ∷ []) _ (finished 1) _ sound₀ refl tt refl refl
    refl refl sound₁

-- ---- the steps

-- the player, and a step of it; memory stays as it is
abbrev at : Phase → ℕ → ℕ → ℕ → Machine → Player
at phase cursor line commits machine = player phase cursor line commits 4 machine

abbrev Step : Player → List ℕ → Player → Type 0
Step p piece q = PlayerStep text program p (0 ∷ []) piece q (0 ∷ [])

step : {p q : Player} {piece : List ℕ} → StepIn text program p.phase p (0 ∷ []) piece q (0 ∷ []) → Step p piece q
step made = record { made = made }

quiet : {bytes memory : List ℕ} {p : Player} → QuietStep bytes p memory bytes p memory
quiet = record { prints = refl; leads = refl; keeps = refl }

-- `c` is refused, as nothing is live
refused_step : Step (at Stepping 18 3 0 m₀) [] (at Stepping 20 4 0 m₀)
unfolding ascii feed_in
refused_step = step (called refuses refl refl)

-- `x,1` is read, makes its commit, and is done
read_step : Step (at Stepping 20 4 0 m₀) [] (at (Finishing 1) 24 5 0 m₀)
unfolding ascii feed_in bytes code_from
read_step = step quiet

finish_step : Step (at (Finishing 1) 24 5 0 m₀) (ascii "0,A,1,9\n") (at (Finishing 0) 24 5 1 m₁)
unfolding ascii digits
finish_step = step (inr (λ z. omega (arith, z), called finishes refl refl))

limit_step : Step (at (Finishing 0) 24 5 1 m₁) [] (at Stepping 24 5 1 m₁)
limit_step = step (inl (refl, quiet))

-- the text ends; the one word is 0, and the end line is left
end_step : Step (at Stepping 24 5 1 m₁) [] (at (Words 0) 24 5 1 m₁)
unfolding ascii feed_in
end_step = step quiet

word_step : Step (at (Words 0) 24 5 1 m₁) [] (at (Words 1) 24 5 1 m₁)
word_step = step (inl (omega arith, quiet))

last_step : Step (at (Words 1) 24 5 1 m₁) (ascii "end,done,1\n") (at Over 24 5 1 m₁)
unfolding ascii digits tabulate
last_step = step (inr (omega arith, quiet))

-- ---- the calls of `fill`

-- the list that the program was read into
abbrev own : List ℕ
own = program ++ replicate (program_most - per_instruction) 0

-- on a buffer of so many bytes, which it leaves with these at its start
abbrev Filled : ℕ → Player → List ℕ → Player → Type 0
Filled size p bytes q =
    let out : List ℕ = replicate size 0 in
    Fills text own p (0 ∷ []) out q (0 ∷ []) (sets out 0 bytes) (length bytes)

none_filled : Filled (longest - 1) (at Stepping 18 3 0 m₀) [] (at Stepping 18 3 0 m₀)
none_filled = filling_ends (filling_none text program _ _ _) (inr (omega arith)) own refl

first_filled : Filled longest (at Stepping 18 3 0 m₀) (ascii "0,A,1,9\n") (at (Finishing 0) 24 5 1 m₁)
unfolding ascii
first_filled =
    let first : List ℕ = ascii "0,A,1,9\n" in
    filling_ends
    (record {
      bytes = first;
      steps =
          onward first (onward [] (onward [] still (omega arith) refused_step) (omega arith) read_step) (omega arith)
          finish_step;
      writes = record { ended = refl; written = refl };
      within = omega arith;
    })
    (inr (omega arith)) own refl

rest_filled : Filled 130 (at (Finishing 0) 24 5 1 m₁) (ascii "end,done,1\n") (at Over 24 5 1 m₁)
unfolding ascii
rest_filled =
    let rest : List ℕ = ascii "end,done,1\n" in
    filling_ends
    (record {
      bytes = rest;
      steps =
          onward rest
          (onward [] (onward [] (onward [] still (omega arith) limit_step) (omega arith) end_step) (omega arith) word_step)
          (omega arith) last_step;
      writes = record { ended = refl; written = refl };
      within = omega arith;
    })
    (inl refl) own refl

-- ---- the theorem

begun : Begins text true (replicate program_most 0) (7 ∷ []) (at Stepping 18 3 0 m₀) own (0 ∷ [])
unfolding ascii lines_from code_from body steps bytes sizes_fit feed_in line_start computing
begun = record { refuses = λ wrong. absurd (false≢true wrong); begins = λ _. (refl, refl, refl) }

two_fillings :
    Fillings text own (at Stepping 18 3 0 m₀) (0 ∷ []) ([] ∷ ascii "0,A,1,9\n" ∷ []) (at (Finishing 0) 24 5 1 m₁) (0 ∷ [])
unfolding ascii
two_fillings = filled (filled ready none_filled) first_filled

-- after two calls the first eight bytes are written
pub written_there : take 8 (printed text) ≡ ascii "0,A,1,9\n"
unfolding ascii lines_from code_from body steps bytes sizes_fit joined
written_there =
    written_first
    (pieces_are text true (replicate program_most 0) (7 ∷ []) (at Stepping 18 3 0 m₀) own (0 ∷ []) begun refl
    ([] ∷ ascii "0,A,1,9\n" ∷ []) (at (Finishing 0) 24 5 1 m₁) (0 ∷ []) two_fillings)

-- and after the third all that the sequential run tells
pub pieces_there : commit_lines (script_record s) ++ closing (script_played s) s.body.steps.flaw ≡ ascii "0,A,1,9\nend,done,1\n"
unfolding ascii lines_from code_from body steps bytes sizes_fit joined
pieces_there =
    sym
    (pieces_tell text true (replicate program_most 0) (7 ∷ []) (at Stepping 18 3 0 m₀) own (0 ∷ []) begun refl
    ([] ∷ ascii "0,A,1,9\n" ∷ ascii "end,done,1\n" ∷ []) (at Over 24 5 1 m₁) (0 ∷ []) (filled two_fillings rest_filled) refl
    (omega arith) refl)

-- the two calls with room came nearer to the end
pub nearer_there : (weight text (at (Finishing 0) 24 5 1 m₁) (0 ∷ []) < weight text (at Stepping 18 3 0 m₀) (0 ∷ []))
    × (weight text (at Over 24 5 1 m₁) (0 ∷ []) < weight text (at (Finishing 0) 24 5 1 m₁) (0 ∷ []))
nearer_there = (fills_falls first_filled refl (omega arith), fills_falls rest_filled refl (omega arith))
