-- What the window decides of a refusal is one number: 5 or 6 of an issue, 7, 8 or 9 of an execute, 11 to 14 of a commit. So it is
-- over any engine whose entries stand by stage in a window. Past the conditions 3 and 4 the number that the code finds is that of
-- the definition's list (issue_number_lem, asked_refuses, commit_number_lem), and where it is 0 the engine's own decides (asked_leaves).
-- The definition looks at the list of entries, the code at the window; both see the same entries (entry_by_lem), and an instruction
-- comes to nothing known exactly where it asks nothing known (asked_unknown). What 0 says: issue_free, asked_free, commit_free.
-- Every call that is lent a memory or not meets 3 and 4 first (length_turned, program_turned).
-- Assumes nothing.
use mathlib.Core.Bool.{Bool, true, false, cond, not}
use mathlib.Core.List.{List, [], ◌∷◌}
use mathlib.Core.Option.{Option, none, some}
use mathlib.Core.Path.{◌≡◌, refl, sym, ap, ap₂, ◌∙◌}
use Prim.Native.Nat.{ℕ, ◌<◌}
use native.Mathlib.Omega.{arith}
use lib.Dec.{eqb, leb}
use lib.ListN.{length, get_or, take}
use borrow.Author.Tests.{eq-eqb, eqb-false, leb-false, not-false}
use Rattle.marks.specs.Circle.{stage}
use Rattle.marks.proofs.Turns.{stage_zero}
use Rattle.table.proofs.Lists.{length_tabulate, at_tabulate, tabulate_take}
use Rattle.engine.specs.Conditions.{when, refusal, faults}
use Rattle.engine.specs.declared.Action.{Action}
use Rattle.engine.proofs.Meeting.{turned}
use Rattle.engine.proofs.Refusing.{passes, refusal_first}
use Rattle.machine_model.specs.declared.Entry.{Entry}
use Rattle.machine_model.specs.Window.{blank_entry, entry_at, pending, misaligned, register_seen, reference, evaluate}
use Rattle.machine_model.specs.Over.{Engine, Plain, fits_program, known, unknown, issue_checks, evaluated, survivors_of}
use Rattle.machine_model.specs.Over.{execute_checks, commit_checks, Call, issue, execute, squash, commit, finish, lent_to, respond}
use Rattle.machine_laws.specs.Computed.Parts.{entries_of, asked_of, issue_number, asked_number, commit_number}
use Rattle.machine_laws.proofs.Operands.{outcome_unready, outcome_ready}

-- ---- what a number of 0 says

pub issue_free : (full : Bool) (count next : ℕ) → issue_number full count next ≡ 0 → (full ≡ false) × (next < count)
issue_free full count next z =
    let five = passes full 4 _ z in
    (five.0, leb-false count next (passes (leb count next) 5 _ five.1).0)

pub asked_free : (window : List Entry) (registers : List ℕ) (oldest stages live p : ℕ)
    → asked_number window registers oldest stages live p ≡ 0
    → (p < live) × (pending (get_or window (stage oldest stages p) blank_entry).fate ≡ true)
asked_free window registers oldest stages live p z =
    let waits = pending (get_or window (stage oldest stages p) blank_entry).fate in
    let seven = passes (leb live p) 6 _ z in
    (leb-false live p seven.0, not-false waits (passes (not waits) 7 _ seven.1).0)

pub commit_free : (e : Entry) (live words : ℕ) → commit_number e live words ≡ 0
    → (0 < live) × (pending e.fate ≡ false) × (faults words (reference e) ≡ false) × (misaligned e ≡ false)
commit_free e live words z =
    let eleven = passes (eqb live 0) 10 _ z in
    let twelve = passes (pending e.fate) 11 _ eleven.1 in
    let thirteen = passes (faults words (reference e)) 12 _ twelve.1 in
    let fourteen = passes (misaligned e) 13 _ thirteen.1 in
    (omega (arith, eqb-false live 0 eleven.0), twelve.0, thirteen.0, fourteen.0)

-- ---- the numbers are the definition's

pub issue_number_lem : {O S : Type 0} (E : Engine O S) (program : List ℕ) (X : Plain S) → fits_program program X ≡ true
    → refusal (issue_checks E program X) ≡ issue_number (E.full X.buffer X.entries) X.count X.next
issue_number_lem E program X fits = rw fits

module _ {O S : Type 0} (E : Engine O S) (X : Plain S) (window : List Entry) (oldest stages live : ℕ)
    (stand : X.entries ≡ entries_of window oldest stages live) where
  -- the entry at position p, by stage
  abbrev entry_by : ℕ → Entry
  entry_by p = get_or window (stage oldest stages p) blank_entry

  count_by : length X.entries ≡ live
  count_by = ap length stand ∙ length_tabulate entry_by live

  entry_by_lem : (p : ℕ) → p < live → entry_at X.entries p ≡ entry_by p
  entry_by_lem p h = ap (λ (es : List Entry). entry_at es p) stand ∙ at_tabulate entry_by live p blank_entry h

  module _ (memory : List ℕ) (p : ℕ) where
    -- what the entry at position p asks
    abbrev asks : Option Action
    asks = asked_of window X.registers oldest stages p

    -- the registers after these entries, and the memory that position p sees
    abbrev registers_seen : List Entry → ℕ → Option ℕ
    registers_seen es k = register_seen es k (some (get_or X.registers k 0))

    abbrev memory_seen : ℕ → ℕ
    memory_seen = E.sees X.buffer X.entries memory p

    pub evaluated_by : p < live
        → evaluated E X memory p
        ≡ evaluate (entry_by p).instruction (registers_seen (entries_of window oldest stages p)) memory_seen
    evaluated_by h =
        ap₂ (λ (x : Entry) (es : List Entry). evaluate x.instruction (registers_seen es) memory_seen)
        (entry_by_lem p h)
        (ap (take p) stand ∙ tabulate_take entry_by live p (omega arith))

    asked_unknown : p < live → unknown (evaluated E X memory p) ≡ unknown asks
    asked_unknown h = ap unknown (evaluated_by h) ∙ go asks refl
      where
        go : (o : Option Action) → asks ≡ o
            → unknown (evaluate (entry_by p).instruction (registers_seen (entries_of window oldest stages p)) memory_seen)
            ≡ unknown o
        go none e = ap unknown (outcome_unready (entry_by p).instruction _ memory_seen e)
        go (some act) e = ap unknown (outcome_ready (entry_by p).instruction _ memory_seen act e)

    -- the definition's conditions 7 to 10
    abbrev absent : Bool
    absent = leb (length X.entries) p

    abbrev done : Bool
    done = not (pending (entry_at X.entries p).fate)

    abbrev unready : Bool
    unready = unknown (evaluated E X memory p)

    abbrev stalls : Bool
    stalls = eqb (survivors_of E X memory p (known (evaluated E X memory p))) 0

    asked_number_lem : refusal (when absent 7 ∷ when done 8 ∷ when unready 9 ∷ [])
        ≡ asked_number window X.registers oldest stages live p
    asked_number_lem = go (leb live p) refl
      where
        go : (b : Bool) → leb live p ≡ b
            → refusal (when absent 7 ∷ when done 8 ∷ when unready 9 ∷ [])
            ≡ refusal (when b 7 ∷ when (not (pending (entry_by p).fate)) 8 ∷ when (unknown asks) 9 ∷ [])
        go true e = rw (count_by, e)
        go false e =
            let h : p < live = leb-false live p e in
            rw (count_by, e, asked_unknown h, entry_by_lem p h)

  module _ (program : List ℕ) (fits : fits_program program X ≡ true) (memory : List ℕ)
      (lent : length memory ≡ E.words X.buffer) where
    -- past 3 and 4
    past : (k : ℕ) → cond (not (eqb (length memory) (E.words X.buffer))) 3 (cond (not (fits_program program X)) 4 k) ≡ k
    past k = rw (eq-eqb (length memory) (E.words X.buffer) lent, fits)

    module _ (p : ℕ) where
      pub asked_refuses : (k : ℕ) → k ≡ asked_number window X.registers oldest stages live p → (k ≡ 0 → ⊥)
          → refusal (execute_checks E program X memory p) ≡ k
      asked_refuses k found other =
          let is = asked_number_lem memory p ∙ sym found in
          past _
          ∙ refusal_first
          (when (absent memory p) 7 ∷ when (done memory p) 8 ∷ when (unready memory p) 9 ∷ [])
          (when (stalls memory p) 10 ∷ [])
          (λ z. other (sym is ∙ z))
          ∙ is

      pub asked_leaves : asked_number window X.registers oldest stages live p ≡ 0
          → refusal (execute_checks E program X memory p) ≡ cond (stalls memory p) 10 0
      asked_leaves z =
          let seven = passes (absent memory p) 6 _ (asked_number_lem memory p ∙ z) in
          let eight = passes (done memory p) 7 _ seven.1 in
          let nine = passes (unready memory p) 8 _ eight.1 in
          past _ ∙ rw (seven.0, eight.0, nine.0)

    pub commit_number_lem : oldest < stages
        → refusal (commit_checks E program X memory) ≡ commit_number (get_or window oldest blank_entry) live (E.words X.buffer)
    commit_number_lem start = past _ ∙ go (eqb live 0) refl
      where
        oldest_by : 0 < live → entry_at X.entries 0 ≡ get_or window oldest blank_entry
        oldest_by h = entry_by_lem 0 h ∙ ap (λ (s : ℕ). get_or window s blank_entry) (stage_zero oldest stages start)

        go : (b : Bool) → eqb live 0 ≡ b
            → commit_number (entry_at X.entries 0) (length X.entries) (E.words X.buffer)
            ≡ cond b 11 (commit_number (get_or window oldest blank_entry) 1 (E.words X.buffer))
        go true e = rw (count_by, e)
        go false e = rw (count_by, e, oldest_by (omega (arith, eqb-false live 0 e)))

-- ---- 3 and 4 come first

module _ {O S : Type 0} (E : Engine O S) (X : Plain S) where
  -- the length that a call's 3 is asked about: of one that is lent no memory, the right one
  abbrev pub length_for : Call → List ℕ → ℕ
  length_for issue w = E.words X.buffer
  length_for (execute p) w = length w
  length_for (squash p) w = E.words X.buffer
  length_for commit w = length w
  length_for (finish k list) w = length w

  module _ (program : List ℕ) where
    -- the memory lent has another length
    pub length_turned : (c : Call) (w : List ℕ) → eqb (length_for c w) (E.words X.buffer) ≡ false
        → respond E program c X w ≡ turned 3 X w (lent_to c)
    unfolding respond
    length_turned issue w e = absurd (eqb-false (E.words X.buffer) (E.words X.buffer) e refl)
    length_turned (execute p) w e = rw e
    length_turned (squash p) w e = absurd (eqb-false (E.words X.buffer) (E.words X.buffer) e refl)
    length_turned commit w e = rw e
    length_turned (finish k list) w e = rw e

    -- it has the right length, and the check of the program fails
    pub program_turned : (c : Call) (w : List ℕ) → eqb (length_for c w) (E.words X.buffer) ≡ true
        → fits_program program X ≡ false → respond E program c X w ≡ turned 4 X w (lent_to c)
    unfolding respond
    program_turned issue w e f = rw f
    program_turned (execute p) w e f = rw (e, f)
    program_turned (squash p) w e f = rw f
    program_turned commit w e f = rw (e, f)
    program_turned (finish k list) w e f = rw (e, f)
