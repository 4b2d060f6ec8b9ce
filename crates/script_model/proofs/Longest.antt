-- The longest input: of longer input only its bad line is printed, whatever follows.
-- Assumes nothing.
use mathlib.Core.List.{List, ◌++◌}
use mathlib.Core.Path.{◌≡◌}
use Prim.Native.Nat.{ℕ, ◌≤◌, ◌<◌}
use native.Mathlib.Omega.{arith}
use lib.ListN.{length, length-append}
use borrow.Author.Tests.{lt-ltb, le-ltb}
use Rattle.text.specs.Lines.{lines_of}
use Rattle.script_model.specs.Language.{script}
use Rattle.script_model.specs.Output.{most, bad_line, output, printed}

pub printed_long : (text : List ℕ) → most < length text → printed text ≡ bad_line 0
unfolding printed
printed_long text long = rw (lt-ltb most (length text) long)

pub printed_short : (text : List ℕ) → length text ≤ most → printed text ≡ output (script (lines_of text))
unfolding printed
printed_short text short = rw (le-ltb most (length text) short)

-- more input does not change that
pub long_anyway : (text rest : List ℕ) → most < length text → printed (text ++ rest) ≡ bad_line 0
long_anyway text rest long = printed_long (text ++ rest) (omega (arith, length-append text rest, long))
