-- Lines of a text: bytes ended by a line feed (10). Where the next line feed stands, which line begins at an index, where a
-- reader stands behind a line, the whole text as a list of lines, and what a reader hands out of it.
-- Assumes nothing.
use Rattle.std.specs.Prelude.{cond, List, [], ◌∷◌, ◌++◌, ℕ, zero, suc, ◌+◌, eqb, ltb, length, drop}
use Rattle.std.proofs.Math.Seq.{slice}
use Rattle.text.specs.declared.Line.{Line}
use Rattle.text.specs.declared.Line.TheVariants.{End, Unended, Whole}

-- how many bytes stand before the first line feed; all of them, where there is none
unfoldable pub feed_in : List ℕ → ℕ
feed_in [] = 0
feed_in (b ∷ bs) = cond (eqb b 10) 0 (suc (feed_in bs))

-- the index of the first line feed from `at` on; the length, where there is none and `at` is not past the end
abbrev pub feed : List ℕ → ℕ → ℕ
feed s at = at + feed_in (drop at s)

-- the line that begins at `at`
abbrev pub line_at : List ℕ → ℕ → Line
line_at s at =
    cond (ltb at (length s)) (cond (ltb (feed s at) (length s)) (Whole at (feed s at)) (Unended at)) End

-- where a reader stands that stood at `at` and handed out this line: behind its line feed; where it has none, the reader stays
abbrev pub after_line : Line → ℕ → ℕ
after_line End at = at
after_line (Unended from) at = at
after_line (Whole from to) at = to + 1

-- the bytes of each whole line, without its line feed, and the bytes after the last line feed
pub record Lines : Type 0 where
  pub whole : List (List ℕ)
  pub rest : List ℕ

-- a whole line in front
abbrev pub ended : List ℕ → Lines → Lines
ended line ls = record { whole = line ∷ ls.whole; rest = ls.rest }

-- with the line that is open so far: a line feed ends it, any other byte joins it
unfoldable pub lines_from : List ℕ → List ℕ → Lines
lines_from line [] = record { whole = []; rest = line }
lines_from line (b ∷ bs) = cond (eqb b 10) (ended line (lines_from [] bs)) (lines_from (line ++ (b ∷ [])) bs)

abbrev pub lines_of : List ℕ → Lines
lines_of s = lines_from [] s

-- a line that a reader hands out, in front of what it hands out after it
abbrev pub in_front : List ℕ → Line → Lines → Lines
in_front s End ls = record { whole = []; rest = [] }
in_front s (Unended from) ls = record { whole = []; rest = drop from s }
in_front s (Whole from to) ls = ended (slice from to s) ls

-- what a reader that stands at `at` hands out, one line after another, at most n of them
unfoldable pub handed : ℕ → List ℕ → ℕ → Lines
handed zero s at = record { whole = []; rest = [] }
handed (suc n) s at = in_front s (line_at s at) (handed n s (after_line (line_at s at) at))
