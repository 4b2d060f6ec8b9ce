-- The closing lines: the words of memory, one after the other, and the end line. At an address within memory the word
-- there is told first, unless it is 0 (words_first); past the last one only the end line is left (no_words). These are the
-- steps of a player that closes (word_goes, end_goes). Assumes nothing.
use mathlib.Core.Path.{◌≡◌, refl, sym, ap, ◌∙◌}
use mathlib.Core.List.{List, [], ◌++◌, append_assoc, append-nil}
use Prim.Native.Nat.{ℕ, suc, ◌+◌, ◌≤◌, ◌<◌}
use native.Mathlib.Omega.{arith}
use lib.ListN.{length, drop, drop_of_length-le}
use lib.Seq.{drop-cons}
use Rattle.machine_model.specs.declared.Machine.{Machine}
use Rattle.machine_model.specs.Contract.{plain}
use Rattle.player_model.specs.declared.Phase.TheVariants.{Over, Words}
use Rattle.script_model.specs.Output.{word_lines, ending, end_line}
use Rattle.player_model.specs.Playing.{word_line_at}
use Rattle.player_model.proofs.Phases.{Goes}

-- the lines of the word at a, and of those after it
words_first : (memory : List ℕ) (a : ℕ) → a < length memory
    → word_lines a (drop a memory) ≡ word_line_at memory a ++ word_lines (a + 1) (drop (a + 1) memory)
unfolding word_lines
words_first memory a h =
    ap (word_lines a) (drop-cons memory a 0 h)
    ∙ ap (λ (b : ℕ). word_line_at memory a ++ word_lines b (drop b memory)) (let q : suc a ≡ a + 1 = omega arith in q)

no_words : (memory : List ℕ) (a : ℕ) → length memory ≤ a → word_lines a (drop a memory) ≡ []
unfolding word_lines
no_words memory a h = ap (word_lines a) (drop_of_length-le memory h)

module _ (program : List ℕ) (m : Machine) (n a : ℕ) (memory : List ℕ) where
  -- the end line, by what is left to print before it
  abbrev closed : List ℕ → List ℕ
  closed words = words ++ end_line (ending (plain m)) n

  pub word_goes : a < length memory → Goes program (Words a) m memory n (word_line_at memory a) (Words (a + 1)) m memory n
  word_goes h =
      record {
        lent = refl;
        falls = omega arith;
        plays = λ on. on;
        goes = λ used few. (
          λ more.
              ap closed (words_first memory a h)
              ∙ append_assoc (word_line_at memory a) (word_lines (a + 1) (drop (a + 1) memory))
              (end_line (ending (plain m)) n),
          used,
          omega arith,
        );
      }

  -- past the last word
  pub end_goes : length memory ≤ a → Goes program (Words a) m memory n (end_line (ending (plain m)) n) Over m memory n
  end_goes h =
      record {
        lent = refl;
        falls = omega arith;
        plays = λ _. refl;
        goes = λ used few. (
          λ more. ap closed (no_words memory a h) ∙ sym (append-nil (end_line (ending (plain m)) n)),
          tt,
          omega arith,
        );
      }
