-- Every table of specs/Damaged.antt is as it says: the test of the rules, and the fates seen, are computed for all of them in one
-- equation of lists. The test says by its laws that the rules hold or do not; on a table that breaks them every call is refused
-- with 2, by its contract.
-- Assumes nothing.
use mathlib.Core.Bool.{Bool, true, false}
use mathlib.Core.List.{List, [], ◌∷◌, map}
use mathlib.Core.Path.{◌≡◌, refl}
use Prim.Native.Nat.{ℕ}
use Rattle.marks.specs.Circle.{firsts}
use Rattle.marks.specs.Counting.{every}
use Rattle.table.specs.declared.Table.{Table}
use Rattle.table.specs.Bank.{home, bank}
use Rattle.table.specs.Limits.{sizes_fit}
use Rattle.table.specs.Reference.{Fate}
use Rattle.table.specs.View.{tabulate, mark_fate}
use Rattle.table.specs.Rules.{Rules}
use Rattle.table.specs.Computed.Check.{marks_below, row_fits, lawful_by, lawful}
use Rattle.table.proofs.Lawful.{lawful_rules, lawful_broken}
use Rattle.engine.specs.Contract.{refused}
use Rattle.buffer_model.specs.Answers.{Answer}
use Rattle.buffer_model.specs.Calls.{Call}
use Rattle.buffer_model.specs.Contract.{Meets}
use Rattle.buffer_model.specs.Damaged.{Case, keeps, breaks, shows, fates, Told, AllTold, cases}

-- every call on a table that breaks its rules is refused with 2, and hands back table and memory as they were
pub broken_refused : (t : Table) → (Rules t → ⊥) → (c : Call) (m v : List ℕ) (said : Answer) (u : Table)
    → Meets t c m said u v → (said ≡ refused 2) × (u ≡ t) × (v ≡ m)
broken_refused t broken c m v said u meets = let same = meets.broken broken in (same.0, same.1, same.2)

-- what the test of the rules gives and the fates that a case is to show, and what they should be
data Seen : Type 0 where
  seen : Bool → List Fate → Seen

tested : Case → Seen
tested (keeps t) = seen (lawful t) []
tested (breaks t) = seen (lawful t) []
tested (shows t all) = seen (lawful t) (fates t)

wanted : Case → Seen
wanted (keeps t) = seen true []
wanted (breaks t) = seen false []
wanted (shows t all) = seen true all

told : (d : Case) → tested d ≡ wanted d → Told d
unfolding tested wanted
told (keeps t) e = lawful_rules t cc
told (breaks t) e = broken_refused t (lawful_broken t cc)
told (shows t all) e = (lawful_rules t cc, cc)

-- an equation of lists is one of each case
each : (all : List Case) → map tested all ≡ map wanted all → AllTold all
each [] h = tt
each (d ∷ all) h = (told d cc, each all cc)

pub damaged : AllTold cases
unfolding cases tested wanted lawful_by row_fits marks_below every firsts sizes_fit home bank tabulate mark_fate
damaged = each cases refl
