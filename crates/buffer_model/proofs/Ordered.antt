-- "A call is refused when a condition in its rows holds, and only then", with the first in the order of the numbers: of every
-- call through its contract, 2 among its conditions (decides), and of an opening (opening_goes). The conditions of each call are
-- in that order, behind 2 in all but the opening, so that the engine's law of such a call gives it. "Checks go from the smallest
-- number up": the first is the smallest, by the engine's law of what goes by conditions (its proofs/Smallest.antt).
-- Assumes nothing.
use mathlib.Core.Bool.{true}
use mathlib.Core.List.{List, []}
use mathlib.Core.Path.{◌≡◌, refl, sym, subst}
use Prim.Native.Nat.{ℕ}
use Rattle.table.specs.declared.Table.{Table}
use Rattle.table.specs.Reference.{State}
use Rattle.table.specs.View.{view}
use Rattle.table.specs.Rules.{Rules}
use Rattle.table.specs.Computed.Check.{lawful}
use Rattle.table.proofs.Lawful.{lawful_rules, lawful_broken}
use Rattle.engine.specs.Conditions.{holds, rising_from}
use Rattle.engine.proofs.Meeting.{Accepts}
use Rattle.engine.proofs.Deciding.{GoesBy, list_goes, tested, Decides, meets_decides}
use Rattle.buffer_model.specs.Answers.{Answer}
use Rattle.buffer_model.specs.Refusals.{open_checks}
use Rattle.buffer_model.specs.Calls.{Call, issue, execute, squash, commit, accepted_result, checks_of, respond}
use Rattle.buffer_model.specs.Contract.{Meets, Opens}
use Rattle.buffer_model.proofs.MeetingContract.{accepts}

-- the conditions of a call are in the order of the numbers, behind 2
call_rises : (c : Call) (P : State) (memory : List ℕ) → rising_from 2 (checks_of c P memory) ≡ true
call_rises issue P memory = refl
call_rises (execute τ act) P memory = refl
call_rises (squash τ) P memory = refl
call_rises commit P memory = refl

-- It is refused with k exactly if k is the first number of a condition that holds, 2 among them (that the table breaks its
-- rules); otherwise it comes to what its definition says.
pub decides : (t : Table) (c : Call) (m : List ℕ) {said : Answer} {u : Table} {v : List ℕ} → Meets t c m said u v
    → Decides Rules view t (checks_of c (view t) m) (accepted_result c (view t) m) said u v []
unfolding respond
decides t c m meets =
    meets_decides Rules view t m [] (checks_of c (view t) m) (accepted_result c (view t) m)
    (tested (lawful t) (lawful_rules t) (lawful_broken t)) (call_rises c (view t) m) (accepts c (view t) m) meets

-- an opening: its conditions are those of the list, in the order of the numbers
pub opening_goes : (banks rows stages words : ℕ) (m : List ℕ) {said : Answer} {u : Table} → Opens banks rows stages words m said u
    → GoesBy (λ (k : ℕ). holds k (open_checks banks rows stages words m) ≡ true) said
opening_goes banks rows stages words m {said} opens =
    list_goes (open_checks banks rows stages words m) refl said (λ some. (opens.refuses _ some refl).0)
    (λ z. subst Accepts (sym (opens.opens z).0) tt)
