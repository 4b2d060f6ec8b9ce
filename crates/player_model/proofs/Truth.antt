-- THE RECORD THEOREM OF A SCRIPT. Take any text of at most 65,536 bytes whose first line gives sizes within their
-- limits. Open the machine with those sizes, the script's program and a memory of zeros, and make the calls of the
-- script's steps, up to the first bad line if there is one. Then the opening is accepted, and what is printed are the
-- record of the sequential run, woven with the distances of the play, and the run's memory (ScriptTruth), whatever the
-- steps were and in whatever order they executed.
--
-- The program was joined of well-formed instructions, at most 256 of them, so the opening passes its checks
-- (Openings). The rest is the record theorem: the record without its distances and the memory that the calls come to are
-- the run's; with its distances (Weaving) it is the play's, whose lines are printed. Assumes nothing.
use mathlib.Core.Path.{◌≡◌, sym, ap, ◌∙◌}
use mathlib.Core.Bool.{Bool, true, false}
use mathlib.Core.List.{List, ◌++◌}
use Prim.Native.Nat.{ℕ, ◌≤◌}
use lib.ListN.{length}
use Rattle.text.specs.Lines.{lines_of}
use Rattle.theorem.proofs.Buffered.{buffer_owes}
use Rattle.theorem.proofs.Record.{record_theorem}
use Rattle.player_model.specs.declared.Player.{Player}
use Rattle.script_model.specs.Language.{script}
use Rattle.script_model.specs.Output.{commit_lines, word_lines, ending, end_line, closing, most, printed}
use Rattle.player_model.specs.Playing.{is_over, wrongly_lent, Begins}
use Rattle.player_model.specs.Truth.{Sized, zeros, script_played, distances_of, woven, script_record, ScriptTruth}
use Rattle.player_model.specs.Truth.{Fillings, joined}
use Rattle.player_model.proofs.Openings.{script_opens}
use Rattle.player_model.proofs.Weaving.{weaves}
use Rattle.script_model.proofs.Longest.{printed_short}
use Rattle.player_model.proofs.Pieces.{pieces_are}

pub script_truth : (text : List ℕ) → length text ≤ most → Sized (script (lines_of text))
    → ScriptTruth text (script (lines_of text))
script_truth text short sized =
    let s = script (lines_of text) in
    let opens = script_opens (lines_of text) sized in
    let t = record_theorem buffer_owes s.opening s.body.program (zeros s) opens
    s.body.steps.calls in
    let w = weaves (script_played s).record' (script_played s).commits t.record_grows in
    let same : (script_played s).record' ≡ script_record s =
    sym w.same ∙ ap (λ (numbers : List ℕ). woven numbers (distances_of (script_played s).record')) t.record_is in
    let told : printed text ≡ commit_lines (script_record s) ++ closing (script_played s) s.body.steps.flaw =
    printed_short text short
    ∙ ap (λ (numbers : List ℕ). commit_lines numbers ++ closing (script_played s) s.body.steps.flaw) same in
    let end : List ℕ = end_line (ending (script_played s).state) (script_played s).commits in
    record {
      opens = opens;
      truth = t;
      prints = told;
      closes = ap (λ (memory : List ℕ). word_lines 0 memory ++ end) t.memory_is;
      counts = sym (ap length t.record_is) ∙ w.four;
      distances = w.one;
    }

-- So what the calls of `fill` hand out, once the player is over, is that of the sequential run.
pub pieces_tell : (text : List ℕ) (whole : Bool) (program memory : List ℕ) (q : Player) (into after : List ℕ)
    → Begins text whole program memory q into after
    → wrongly_lent text whole program memory ≡ false
    → (pieces : List (List ℕ)) (r : Player) (w : List ℕ)
    → Fillings text into q after pieces r w
    → is_over r.phase ≡ true
    → length text ≤ most
    → let s = script (lines_of text) in
    Sized s → joined pieces ≡ commit_lines (script_record s) ++ closing (script_played s) s.body.steps.flaw
pieces_tell text whole program memory q into after begun lent pieces r w fills over short sized =
    (pieces_are text whole program memory q into after begun lent pieces r w fills).all over
    ∙ (script_truth text short sized).prints
