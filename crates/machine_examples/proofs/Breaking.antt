-- Each case of specs/Broken.antt is what it says. The tests of the rules and of the agreement are computed of all cases in one
-- equation of lists; a machine is sound exactly where they pass (Sounding), and a call on one that is not is refused with 2
-- by its contract.
-- Assumes nothing.
use mathlib.Core.Path.{◌≡◌, refl}
use mathlib.Core.Bool.{Bool, true, false, ◌&&◌}
use mathlib.Core.List.{List, [], ◌∷◌, map}
use Rattle.marks.specs.Circle.{firsts}
use Rattle.marks.specs.Counting.{every}
use Rattle.table.specs.Bank.{home, bank}
use Rattle.table.specs.Limits.{sizes_fit}
use Rattle.table.specs.View.{mark_fate}
use Rattle.table.specs.Computed.Check.{marks_below, row_fits, lawful_by, lawful}
use Rattle.machine_model.specs.declared.Machine.{Machine}
use Rattle.machine_model.specs.Contract.{Sound}
use Rattle.machine_examples.specs.Broken.{RefusesAll, Case, sound, broken, AllTold, cases}
use Rattle.machine_model.specs.Tests.{agreeing}
use Rattle.machine_model.proofs.Sounding.{tests_sound, broken_tests}

-- whatever call is made on a machine that breaks the rules is refused with 2
pub broken_refuses : (m : Machine) → (Sound m → ⊥) → RefusesAll m
broken_refuses m breaks program c w said u v kept meets = meets.broken breaks

-- the tests of a case, and what they are to say
abbrev passes : Machine → Bool
passes m = lawful m.table && agreeing m m.table.live

abbrev tested : Case → Bool
tested (sound m) = passes m
tested (broken m) = passes m

abbrev says : Case → Bool
says (sound m) = true
says (broken m) = false

each : (rows : List Case) → map tested rows ≡ map says rows → AllTold rows
each [] h = tt
each (sound m ∷ rows) h = (tests_sound m cc, each rows cc)
each (broken m ∷ rows) h = let breaks = broken_tests m cc in ((breaks, broken_refuses m breaks), each rows cc)

pub all_told : AllTold cases
unfolding cases lawful_by row_fits marks_below firsts every sizes_fit home bank mark_fate
all_told = each cases refl
