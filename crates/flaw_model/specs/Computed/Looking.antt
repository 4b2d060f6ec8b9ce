-- How the first bad line is found: one line after another.
-- Assumes nothing.
use Rattle.std.specs.Prelude.{◌≡◌, List, ℕ, suc, ◌≤◌, ◌<◌, length, drop}
use Rattle.std.specs.Prelude.{Option, None, Some, Result}
use Rattle.std.specs.declared.ops.ControlFlow.{ControlFlow}
use Rattle.std.specs.declared.ops.ControlFlow.TheVariants.{Continue, Break}
use Rattle.text.specs.Fields.{Open, empty, value}
use Rattle.text.specs.Lines.{lines_of}
use Rattle.flaw_model.specs.declared.Part.{Part}
use Rattle.flaw_model.specs.declared.Reason.{Reason}
use Rattle.flaw_model.specs.declared.Flaw.{Flaw}
use Rattle.flaw_model.specs.Flaw.{flaw_at, flaw_in}

-- an open field that is this number, if it has digits
abbrev pub open_of : Option ℕ → Open
open_of None = empty
open_of (Some x) = value x

-- the flaw of the lines from `at` on, the first of which has number n and stands in this part
abbrev pub flaw_on : List ℕ → ℕ → ℕ → Part → Result ℕ Flaw
flaw_on s at n part = flaw_in n part (lines_of (drop at s))

-- what the line at `at` leads to: the end, with a reason if it is bad, or the next line, its part and where it begins
abbrev pub Looks : List ℕ → ℕ → Part → ControlFlow (Option Reason) (Part × ℕ) → Type 0
Looks s at part (Break r) = (n : ℕ) → flaw_on s at n part ≡ flaw_at n r
Looks s at part (Continue (next, to)) =
    ((n : ℕ) → flaw_on s at n part ≡ flaw_on s to (suc n) next) × (at < to) × (to ≤ length s)
