-- A step that reads no line, from one phase to the next.
-- Assumes nothing.
use mathlib.Core.Path.{◌≡◌}
use mathlib.Core.Bool.{true}
use mathlib.Core.List.{List, ◌++◌}
use Prim.Native.Nat.{ℕ, ◌+◌, ◌≤◌, ◌<◌}
use lib.ListN.{length}
use Rattle.machine_model.specs.declared.Machine.{Machine}
use Rattle.player_model.specs.declared.Phase.{Phase}
use Rattle.script_model.specs.Language.{Steps}
use Rattle.player_model.specs.Playing.{count_most}
use Rattle.player_model.proofs.Invariant.{standing, left_in, due, InUse, is_playing, rank}

-- From phase h, machine m and n commits the step leads to phase k, machine u and j commits, and prints a piece of what was left.
-- The rank falls, and no more commits are counted or due than before.
pub record Goes (program : List ℕ) (h : Phase) (m : Machine) (memory : List ℕ) (n : ℕ) (piece : List ℕ) (k : Phase) (u : Machine)
    (after : List ℕ) (j : ℕ) : Type 0 where
  pub lent : length after ≡ length memory
  pub falls : rank (length memory) k < rank (length memory) h
  pub plays : is_playing k ≡ true → is_playing h ≡ true
  pub goes : InUse h program m memory → (is_playing h ≡ true → n < count_most)
      → ((more : Steps) → left_in program h more (standing m memory n) ≡ piece ++ left_in program k more (standing u after j))
      × InUse k program u after
      × (j + due k ≤ n + due h)
