-- `machine_window::marks_at` meets its contract. The loop's invariant: `loads` and `stores` are the unions over the i rows passed;
-- a turn adds its row's marks where the row has the address. Assumes nothing.
use mathlib.Core.Path.{◌≡◌}
use mathlib.Core.List.{List}
use Prim.Native.Nat.{ℕ, ◌+◌, ◌≤◌}
use lib.Dec.{eqb}
use lib.ListN.{get_or}
use Rattle.table.specs.Limits.{rows_most, slots}
use Rattle.machine_laws.specs.Computed.Parts.{union}
use Rattle.machine_window.proofs.marks_at.Given as goal

-- the marks of one kind in the first i rows from `first` on that have address a
abbrev before : List ℕ → List ℕ → ℕ → ℕ → ℕ → ℕ
before addresses words a first i = union (λ j. eqb (get_or addresses (first + j) 0) a) (λ j. get_or words (first + j) 0) i

abbrev pub invariant-loop-i : goal.invariant-loop-i
invariant-loop-i l =
    let t = l.t.table.now in
    (l.first + rows_most ≤ slots) × (l.loads ≡ before t.addresses t.loads l.a l.first l.i)
    × (l.stores ≡ before t.addresses t.stores l.a l.first l.i)
