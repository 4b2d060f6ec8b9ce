-- Where an execution answers 9 and 10, both ways and through the contract; and what one that is not refused is: none of its
-- conditions holds, each of which is told by its number alone (the engine's Deciding), so it came to a fate (comes_to_lem) and leaves
-- some reference (execution). What goes by the operands is of a machine over any engine, by their sentences (Sentences); what goes
-- by the rows is of the buffer, by the engine's laws (Outcomes) at that fate.
-- Assumes nothing.
use mathlib.Core.Bool.{true, false, true≢false}
use mathlib.Core.List.{List}
use mathlib.Core.Option.{Option, none, some}
use mathlib.Core.Path.{◌≡◌, refl, ap, subst}
use Prim.Native.Nat.{ℕ, ◌≤◌}
use native.Mathlib.Nat.{le_of_lt}
use native.Mathlib.Omega.{arith}
use lib.Dec.{eqb}
use lib.ListN.{length}
use borrow.Author.Tests.{leb-false}
use Rattle.table.proofs.Fates.{length_refs}
use Rattle.lookup.specs.Rows.{touches}
use Rattle.lookup.proofs.Eviction.{Stalled}
use Rattle.engine.specs.Conditions.{Check}
use Rattle.engine.specs.Contract.{refused}
use Rattle.engine.proofs.Meeting.{Accepts}
use Rattle.engine.proofs.Deciding.{Holds, NoneBefore, Decides, unmet_before, answered, answers}
use Rattle.engine.proofs.Outcomes
use Rattle.engine.proofs.Outcomes.{Executing}
use Rattle.machine_model.specs.declared.Instruction.{Instruction}
use Rattle.machine_model.specs.declared.Fate.{Fate}
use Rattle.machine_model.specs.declared.Entry.{Entry}
use Rattle.machine_model.specs.declared.Machine.{Machine}
use Rattle.machine_model.specs.Window.{entry_at}
use Rattle.machine_model.specs.Over
use Rattle.machine_model.specs.Over.{Engine, Realization}
use Rattle.machine_model.specs.Calls.{execute, Answer, Result, evaluated, known, unknown, execute_checks, reference_at}
use Rattle.machine_model.specs.Calls.{survivors_of, executing}
use Rattle.machine_model.specs.Contract.{tabled, plain, Sound, Meets}
use Rattle.machine_model.proofs.Sounding.{length_entries, sound_or}
use Rattle.machine_model.proofs.Sentences.{Needs, WriterWaits, nine_waits, waits_nine}
use Rattle.machine_model.proofs.Ordered.{Tested, accepted, decides_over}

-- a fate that is known
told_fate : (o : Option Fate) → unknown o ≡ false → (f : Fate) × (o ≡ some f)
told_fate none e = absurd (true≢false e)
told_fate (some f) e = (f, refl)

-- ---- over any engine

module _ {O S : Type 0} {E : Engine O S} (R : Realization E) (tests : Tested R) (program : List ℕ) (m : R.Machine) (p : ℕ)
    (w : List ℕ) where
  -- none of its conditions looked at before k holds, 2 among them
  abbrev pub Unrefused : ℕ → Type 0
  Unrefused = NoneBefore (Holds R.Sound m (Over.execute_checks E program (R.plain m) w p))

  -- the entries, and the instruction that executes
  abbrev entries : List Entry
  entries = (R.plain m).entries

  abbrev own : Instruction
  own = (entry_at entries p).instruction

  module _ {said : Answer} {u : R.Machine} {v kept : List ℕ} (meets : Over.Meets R program m (execute p) w said u v kept) where
    abbrev pub decided : Decides R.Sound R.plain m (Over.execute_checks E program (R.plain m) w p)
        (accepted E program (execute p) (R.plain m) w) said u v kept
    decided = decides_over R tests program m (execute p) w meets

    -- where 7 does not hold the position is live
    inside : Unrefused 9 → p ≤ length entries
    inside low = le_of_lt (leb-false (length entries) p (unmet_before decided 9 low 7 (omega arith)))

    -- "an operand's writer has not executed": it answers 9 exactly where no smaller condition holds and, for a register that the
    -- instruction needs, the nearest older live writer waits
    pub nine_answered : said ≡ refused 9 → Unrefused 9 × ((k : ℕ) × Needs own k × WriterWaits entries p k)
    nine_answered e =
        let met = answered decided 9 (omega arith) e in
        (met.0, nine_waits E (R.plain m) w p (inside met.0) met.1)

    pub answers_nine : Unrefused 9 → (k : ℕ) → Needs own k → WriterWaits entries p k → said ≡ refused 9
    answers_nine low k needs idle = answers decided 9 low (waits_nine E (R.plain m) w p (inside low) k needs idle)

    -- past 9 the operands are known, so that it comes to a fate
    pub comes_past : Unrefused 10 → (f : Fate) × (Over.evaluated E (R.plain m) w p ≡ some f)
    comes_past low = told_fate (Over.evaluated E (R.plain m) w p) (unmet_before decided 10 low 9 (omega arith))

    -- so it does where it is not refused
    pub comes_to_lem : Accepts said → (f : Fate) × (Over.evaluated E (R.plain m) w p ≡ some f)
    comes_to_lem is-accepted = told_fate (Over.evaluated E (R.plain m) w p) ((decided.accepted is-accepted).unmet 9)

-- ---- over the buffer

-- an execution of position p came to fate f
abbrev pub Execution : Machine → ℕ → List ℕ → Answer → Machine → Fate → Type 0
Execution m p w said u f =
    Outcomes.Execution w (plain m).buffer p (reference_at (plain m) w p f)
    (executing (plain m) w p f (survivors_of (plain m) w p f))
    said
    (plain u)

module _ (program : List ℕ) (m : Machine) (p : ℕ) (w : List ℕ) where
  abbrev checks : List Check
  checks = execute_checks program (plain m) w p

  -- it executes to the fate that it comes to
  does : (f : Fate) → evaluated (plain m) w p ≡ some f → Executing checks w (plain m).buffer p (reference_at (plain m) w p f)
  does f e =
      record {
        three = refl;
        seven = λ i.
            omega (arith, leb-false (length (plain m).entries) p i, length_entries m, length_refs m.table);
        ten = ap (λ (o : Option Fate). eqb (survivors_of (plain m) w p (known o)) 0) e;
      }

  module _ {said : Answer} {u : Machine} {v kept : List ℕ} (meets : Meets program m (execute p) w said u v kept) where
    -- what it comes to, by the fate
    abbrev result : Option Fate → Result
    result o = executing (plain m) w p (known o) (survivors_of (plain m) w p (known o))

    abbrev decides : Decides Sound plain m checks (result (evaluated (plain m) w p)) said u v kept
    decides = decided tabled sound_or program m p w meets

    -- "Without such a row the answer is refusal 10": it answers 10 exactly where no smaller condition holds and the list has no
    -- row for the address of what the instruction comes to
    pub ten_answered : said ≡ refused 10
        → Unrefused tabled sound_or program m p w 10 × ((f : Fate) × (a : ℕ) × (evaluated (plain m) w p ≡ some f)
        × (touches a (reference_at (plain m) w p f) ≡ true) × Stalled (plain m).buffer p a)
    ten_answered e =
        let low = (answered decides 10 (omega arith) e).0 in
        let told = comes_past tabled sound_or program m p w meets low in
        let stall = (Outcomes.ten_answered decides (does told.0 told.1) e).1 in
        (low, (told.0, stall.0, told.1, stall.1, stall.2))

    pub answers_ten : Unrefused tabled sound_or program m p w 10 → (f : Fate) (a : ℕ) → evaluated (plain m) w p ≡ some f
        → touches a (reference_at (plain m) w p f) ≡ true → Stalled (plain m).buffer p a → said ≡ refused 10
    answers_ten low f a comes = Outcomes.answers_ten decides (does f comes) low a

    pub execution : Accepts said → (f : Fate) → evaluated (plain m) w p ≡ some f → Execution m p w said u f
    execution is-accepted f e =
        Outcomes.execution
        (subst (λ (o : Option Fate). Decides Sound plain m checks (result o) said u v kept) e decides)
        (does f e)
        is-accepted
