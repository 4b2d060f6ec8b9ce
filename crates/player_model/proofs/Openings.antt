-- A script's program is within its limits, so a script with a good first line opens the machine on its own program and
-- a memory of zeros. The program is the numbers that its lines joined one by one (Fitting), and that of a bad first
-- line is empty. Assumes nothing.
use mathlib.Core.Path.{◌≡◌, refl}
use mathlib.Core.Bool.{Bool, true, false, cond}
use mathlib.Core.List.{List, [], ◌∷◌}
use mathlib.Core.Option.{Option, none, some}
use Prim.Native.Nat.{ℕ, ◌≤◌}
use native.Mathlib.Omega.{arith}
use lib.ListN.{length, length-replicate}
use borrow.Author.Tests.{le-leb, eq-eqb}
use Rattle.text.specs.Lines.{Lines}
use Rattle.marks.specs.Counting.{every}
use Rattle.engine.specs.Conditions.{refusal}
use Rattle.machine_model.specs.Program.{program_most, program_fits}
use Rattle.machine_model.specs.Calls.{Opening, buffered, open_checks}
use Rattle.script_model.specs.Language.{parsed_line, Body, body, Script, opening_of, words_asked, unread, headed, script_by}
use Rattle.script_model.specs.Language.{script}
use Rattle.player_model.specs.Truth.{Sized, zeros}
use Rattle.script_model.proofs.Fitting.{body_fits}

-- whole instructions, each well formed, and not too many
abbrev Within : List ℕ → Type 0
Within program = (program_fits program ≡ true) × (length program ≤ program_most)

none_within : Within []
unfolding program_fits every
none_within = (refl, omega arith)

chosen_within : (t : Bool) (s : Script) → Within s.body.program → Within (cond t s unread).body.program
chosen_within true s w = w
chosen_within false s w = none_within

headed_within : (given : Option Opening) (b : Body) → Within b.program → Within (headed given b).body.program
headed_within none b w = none_within
headed_within (some o) b w = chosen_within (buffered.fits o) (record { opening = o; body = b }) w

script_within : (lines : List (List ℕ)) (rest : List ℕ) → Within (script_by lines rest).body.program
script_within [] rest = none_within
script_within (line ∷ lines) rest =
    headed_within (opening_of (parsed_line line)) (body 2 [] lines rest)
    (body_fits 2 [] lines rest none_within.0 none_within.1)

pub script_opens : (ls : Lines)
    → let s = script ls in
    Sized s → refusal (open_checks s.opening s.body.program (zeros s)) ≡ 0
script_opens ls fit =
    let s = script ls in
    let w = script_within ls.whole ls.rest in
    rw (
      fit,
      le-leb (length s.body.program) program_most w.1,
      eq-eqb (length (zeros s)) (words_asked s.opening) (length-replicate (words_asked s.opening) 0),
      w.0,
    )
