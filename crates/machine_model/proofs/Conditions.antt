-- 01's words of the conditions 2 to 5 and 11 to 14, of a writer, of what an issue numbers and a commit writes, and 02's of B and H,
-- shown of the definitions: a wrong one is refused here, whatever the code computes. Assumes nothing.
use mathlib.Core.Bool.{true, false, cond, not, ◌&&◌, ◌||◌, true≢false, and-eq-true_iff}
use mathlib.Core.List.{List, [], ◌∷◌, ◌++◌}
use mathlib.Core.Option.{Option, none, some}
use mathlib.Core.Path.{◌≡◌, refl, sym, ap}
use Prim.Native.Nat.{ℕ, ◌+◌, ◌/◌, ◌%◌, ◌^◌, ◌≤◌, ◌<◌}
use lib.Dec.{eqb, leb, ltb}
use lib.ListN.{length}
use borrow.Author.Tests.{eqb-true, eq-eqb, ne_eqb, leb-true, ltb-true}
use Rattle.table.specs.Reference.{State, lacks, holds, waiting, accessed, ref, fate_of, at}
use Rattle.engine.specs.Conditions.{refusal, faults}
use Rattle.engine.specs.Execution.{written}
use Rattle.engine.specs.Part.{whole}
use Rattle.engine.specs.declared.Part.{Part}
use Rattle.machine_model.specs.declared.Instruction.{Instruction}
use Rattle.machine_model.specs.declared.Kind.TheVariants.{Merging}
use Rattle.machine_model.specs.declared.Fate.TheVariants.{Executed}
use Rattle.machine_model.specs.declared.Entry.{Entry}
use Rattle.machine_model.specs.Program.{code_of, d_of, s_of, imm_of, same, last_register, well_formed, instruction_at, destination}
use Rattle.machine_model.specs.Window.{entry_at, is_register, writes_to, pending, misaligned, access_by, reference, part_stored}
use Rattle.machine_model.specs.Over
use Rattle.machine_model.specs.Over.{Engine}
use Rattle.machine_model.specs.Calls.{buffered, Plain, matches_program, fits_program, issuing, committing}
use Rattle.machine_model.specs.Contract.{agree}

-- 2: "disagree on which stages are live and executed, at which address and with which mark": a load's, a store's and both differ
pub marks_differ : (a b w v x : ℕ)
    → (agree (accessed a (holds w) lacks) (accessed b lacks (holds v)) ≡ false)
    × (agree (accessed a (holds w) lacks) (accessed b (holds x) (holds v)) ≡ false)
    × (agree (accessed a lacks (holds w)) (accessed b (holds x) (holds v)) ≡ false)
marks_differ a b w v x = (refl, refl, refl)

-- 4: "a code outside 1 to 4", with B and H to 6
pub codes_told : (code d s imm : ℕ) → well_formed code d s imm ≡ true → (1 ≤ code) × (code ≤ 6)
codes_told code d s imm e =
    let codes : (leb 1 code && leb code 6) ≡ true =
    ((and-eq-true_iff (leb 1 code && leb code 6) (leb d last_register && leb s last_register)).0
    ((and-eq-true_iff ((leb 1 code && leb code 6) && (leb d last_register && leb s last_register))
    (not (eqb code 2) || leb imm last_register)).0 e).0).0 in
    let both = (and-eq-true_iff (leb 1 code) (leb code 6)).0 codes in
    (leb-true 1 code both.0, leb-true code 6 both.1)

-- "or a live entry unlike the program's instruction at its index": alike are those with the same four numbers
pub same_told : (i j : Instruction) → same i j ≡ true
    → (code_of i ≡ code_of j) × (d_of i ≡ d_of j) × (s_of i ≡ s_of j) × (imm_of i ≡ imm_of j)
same_told i j e =
    let imm = (and-eq-true_iff (eqb (code_of i) (code_of j) && eqb (d_of i) (d_of j) && eqb (s_of i) (s_of j)) (eqb (imm_of i) (imm_of j))).0 e in
    let s = (and-eq-true_iff (eqb (code_of i) (code_of j) && eqb (d_of i) (d_of j)) (eqb (s_of i) (s_of j))).0 imm.0 in
    let d = (and-eq-true_iff (eqb (code_of i) (code_of j)) (eqb (d_of i) (d_of j))).0 s.0 in (
      eqb-true (code_of i) (code_of j) d.0,
      eqb-true (d_of i) (d_of j) d.1,
      eqb-true (s_of i) (s_of j) s.1,
      eqb-true (imm_of i) (imm_of j) imm.1,
    )

pub matches_told : (program : List ℕ) (count : ℕ) (e : Entry) → matches_program program count e ≡ true
    → (e.index < count) × (same (instruction_at program e.index) e.instruction ≡ true)
matches_told program count e h =
    let both = (and-eq-true_iff (ltb e.index count) (same (instruction_at program e.index) e.instruction)).0 h in
    (ltb-true e.index count both.0, both.1)

-- 5: "n references are live"
pub full_told : (P : State) (es : List Entry)
    → (buffered.full P es ≡ true → length es ≡ P.stages) × (length es ≡ P.stages → buffered.full P es ≡ true)
full_told P es = (eqb-true (length es) P.stages, eq-eqb (length es) P.stages)

-- "each successful issue adds one, wrapping", and the new reference has the number before
pub issue_numbers_lem : (program : List ℕ) (X : Plain) (memory : List ℕ)
    → let Y = (issuing program X memory).state.buffer in
    (Y.next ≡ (X.buffer.next + 1) % 2 ^ 32) × (Y.refs ≡ X.buffer.refs ++ (ref X.buffer.next waiting ∷ []))
issue_numbers_lem program X memory = (refl, refl)

-- "a store writes its word to memory": the buffer's word, whatever the entry holds
pub commit_writes : (X : Plain) (memory : List ℕ)
    → (committing X memory).memory ≡ written memory (fate_of (at X.buffer.refs 0))
commit_writes X memory = refl

-- "instruction that writes that register"
pub writes_told : (i : Instruction) (k : ℕ) → writes_to i k ≡ true → destination i ≡ some k
writes_told i k e = go (destination i) e
  where
    go : (d : Option ℕ) → is_register d k ≡ true → d ≡ some k
    go none e = absurd (true≢false (sym e))
    go (some d) e = ap some (eqb-true d k e)

-- "such a store reads and then stores the whole word, so one stage may bear both marks, in one row", which is its word's, "a
-- quarter of it rounded down"; "the record prints the byte number and the whole word stored"
pub part_bears : (μ : ℕ → ℕ) (v b : ℕ) → access_by μ Merging v b ≡ accessed (b / 4) (holds (μ (b / 4))) (holds v)
part_bears μ v b = refl

pub part_keeps : (part : Part) (μ : ℕ → ℕ) (b y : ℕ) → part_stored part μ b y ≡ Executed (whole part b (μ (b / 4)) y) b
part_keeps part μ b y = refl

module _ {O S : Type 0} (E : Engine O S) (program : List ℕ) (X : Over.Plain S) (memory : List ℕ) where
  -- 3: "memory length is not W", before all that is looked at behind it
  pub length_refused : (length memory ≡ E.words X.buffer → ⊥) → (p : ℕ)
      → (refusal (Over.execute_checks E program X memory p) ≡ 3) × (refusal (Over.commit_checks E program X memory) ≡ 3)
      × (refusal (Over.finish_checks E program X memory) ≡ 3)
  length_refused other p =
      let e = ne_eqb (length memory) (E.words X.buffer) other in (rw e, rw e, rw e)

  module _ (lent : length memory ≡ E.words X.buffer) (fits : fits_program program X ≡ true) where
    -- "Finish meets 2, 3 and 4 only"
    pub finish_passes : refusal (Over.finish_checks E program X memory) ≡ 0
    finish_passes = rw (eq-eqb (length memory) (E.words X.buffer) lent, fits)

    -- what a commit meets behind 3 and 4: 11 "nothing is live", 12 "the oldest has not executed", 13 "its address is W or
    -- more", and 14 after 13
    abbrev number_of : List Entry → ℕ
    number_of es =
        cond (eqb (length es) 0) 11
        (cond (pending (entry_at es 0).fate) 12
        (cond (faults (E.words X.buffer) (reference (entry_at es 0))) 13 (cond (misaligned (entry_at es 0)) 14 0)))

    pub commit_told : refusal (Over.commit_checks E program X memory) ≡ number_of X.entries
    commit_told = rw (eq-eqb (length memory) (E.words X.buffer) lent, fits)
