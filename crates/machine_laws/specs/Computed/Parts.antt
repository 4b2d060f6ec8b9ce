-- What the parts of a call compute, as the code does it, over the arrays lent or passed to them.
-- Assumes nothing.
use Rattle.std.specs.Prelude.{Bool, cond, not, ◌&&◌, ◌||◌, List, [], ◌∷◌, ℕ, zero, suc, ◌+◌, ◌*◌, ◌<◌, eqb, leb, ltb, length, get_or}
use Rattle.std.proofs.Math.Option.{Option, none, some}
use Rattle.std.specs.Int.Bits.{bit_or}
use Rattle.marks.specs.Stages.{has}
use Rattle.marks.specs.Circle.{stage}
use Rattle.marks.specs.Counting.{every}
use Rattle.table.specs.Reference
use Rattle.table.specs.View.{tabulate}
use Rattle.table.specs.Limits.{rows_most, rows_in}
use Rattle.table.specs.Bank.{bank}
use Rattle.table.specs.Computed.Check.{marks_below}
use Rattle.lookup.specs.declared.Mark.{Mark}
use Rattle.lookup.specs.declared.Mark.TheVariants as mark
use Rattle.lookup.specs.declared.Mark.TheVariants.{Absent}
use Rattle.lookup.specs.Computed.Search.{find}
use Rattle.engine.specs.declared.Action.{Action}
use Rattle.engine.specs.declared.Action.TheVariants as action
use Rattle.engine.specs.declared.Part.TheVariants as part
use Rattle.engine.specs.declared.Effect.{Effect}
use Rattle.engine.specs.Conditions.{refusal, when, faults}
use Rattle.engine.specs.Contract as answer
use Rattle.engine.specs.Computed.Effect.{answered}
use Rattle.machine_model.specs.declared.Instruction.{Instruction}
use Rattle.machine_model.specs.declared.Instruction.TheVariants.{Add, Sum, Load, Store, Byte, Half}
use Rattle.machine_model.specs.declared.Entry.{Entry}
use Rattle.machine_model.specs.Program.{per_instruction, registers_most, code_of, d_of, s_of, imm_of, kind, destination, sum}
use Rattle.machine_model.specs.Window.{blank_entry, pending, address_by, misaligned, register_seen, reference, with₂}
use Rattle.machine_model.specs.Calls.{Answer, unknown, value_by, answer_by, target}
use Rattle.machine_model.specs.Contract.{kind_of, place_of}

-- the register that an instruction writes as a number; registers_most where it writes none
abbrev pub register_number : Option ℕ → ℕ
register_number none = registers_most
register_number (some d) = d

-- that number of the entry at position q of a window by stage
abbrev pub destination_at : List Entry → ℕ → ℕ → ℕ → ℕ
destination_at window oldest stages q =
    register_number (destination (get_or window (stage oldest stages q) blank_entry).instruction)

-- one more than the position of the nearest writer of register k older than position p, where `destinations` has those numbers
-- by position; 0 where there is none
abbrev pub writer : List ℕ → ℕ → ℕ → ℕ
writer destinations k p = find (λ (q : ℕ). eqb (get_or destinations q 0) k) p

-- what an instruction with these operands asks
abbrev pub action_of : Instruction → ℕ → ℕ → Action
action_of (Add d s imm) x y = action.Compute (sum x imm)
action_of (Sum d s r) x y = action.Compute (sum x y)
action_of (Load d s imm) x y = action.LoadAt (sum x imm)
action_of (Store d s imm) x y = action.StoreAt (sum x imm) y
action_of (Byte d s imm) x y = action.PartAt part.Byte (sum x imm) y
action_of (Half d s imm) x y = action.PartAt part.Half (sum x imm) y

-- the register of an instruction's second operand; of one that has none, the first again
abbrev pub second : Instruction → ℕ
second (Add d s imm) = s
second (Sum d s r) = r
second (Load d s imm) = s
second (Store d s imm) = d
second (Byte d s imm) = d
second (Half d s imm) = d

-- both operands' registers exist
abbrev pub OperandsExist : Instruction → Type 0
OperandsExist i = (s_of i < registers_most) × (second i < registers_most)

-- what an instruction asks with what the registers hold
abbrev pub action_by : List ℕ → Instruction → Action
action_by registers i = action_of i (get_or registers (s_of i) 0) (get_or registers (second i) 0)

-- the union of the sets f i, over the i below n that pass the test
unfoldable pub union : (ℕ → Bool) → (ℕ → ℕ) → ℕ → ℕ
union test f zero = 0
union test f (suc n) = cond (test n) (bit_or (union test f n) (f n)) (union test f n)

-- the stages that bear a mark of one kind in a row of bank b with address a
abbrev pub marks_at : List ℕ → List ℕ → ℕ → ℕ → ℕ
marks_at addresses marks b a =
    union (λ (i : ℕ). eqb (get_or addresses (b * rows_most + i) 0) a) (λ (i : ℕ). get_or marks (b * rows_most + i) 0) rows_most

-- the kind of an access with these marks; 0 with neither
abbrev pub mark_number : Bool → Bool → ℕ
mark_number load store = cond load (cond store 3 1) (cond store 2 0)

-- An entry with this kind and address agrees with the marks of stage s, where `marked` are the stages with a mark. A row
-- of the address lies in its bank, so no other is read.
abbrev pub agrees_by : ℕ → ℕ → ℕ → List ℕ → List ℕ → List ℕ → ℕ → ℕ → ℕ → Bool
agrees_by banks executed marked addresses loads stores kind place s =
    cond (eqb kind 4) (not (has executed s))
    (cond (eqb kind 0) (has executed s && not (has marked s))
    (eqb
    (mark_number (has (marks_at addresses loads (bank banks place) place) s)
    (has (marks_at addresses stores (bank banks place) place) s))
    kind))

-- the same of the entries at the first k positions
abbrev pub agreeing_by : ℕ → ℕ → ℕ → ℕ → List ℕ → List ℕ → List ℕ → List Entry → ℕ → Bool
agreeing_by banks oldest stages executed addresses loads stores window k =
    every
    (λ (p : ℕ).
    let f = reference (get_or window (stage oldest stages p) blank_entry) in
    agrees_by banks executed (marks_below loads stores (rows_in banks)) addresses loads stores (kind_of f) (place_of f)
    (stage oldest stages p))
    k

-- The entry's index is that of four numbers of the program, and they are its instruction's code, d, s and imm. Of a
-- well-formed program of the opened number of instructions that is `like`.
abbrev pub like_by : List ℕ → Entry → Bool
like_by program e =
    let i = e.instruction in
    let k = e.index * per_instruction in
    ltb (k + 3) (length program)
    && (eqb (get_or program k 0) (code_of i) && eqb (get_or program (k + 1) 0) (d_of i) && eqb (get_or program (k + 2) 0) (s_of i)
    && eqb (get_or program (k + 3) 0) (imm_of i))

-- the same of the entries at the first k positions
abbrev pub fitting_by : List ℕ → ℕ → ℕ → List Entry → ℕ → Bool
fitting_by program oldest stages window k =
    every (λ (p : ℕ). like_by program (get_or window (stage oldest stages p) blank_entry)) k

-- the entries at the first k positions of a window by stage
abbrev pub entries_of : List Entry → ℕ → ℕ → ℕ → List Entry
entries_of window oldest stages k = tabulate (λ (p : ℕ). get_or window (stage oldest stages p) blank_entry) k

-- what the entry at position p of a window by stage asks, if its operands are known
abbrev pub asked_of : List Entry → List ℕ → ℕ → ℕ → ℕ → Option Action
asked_of window registers oldest stages p =
    let i = (get_or window (stage oldest stages p) blank_entry).instruction in
    with₂ (register_seen (entries_of window oldest stages p) (s_of i) (some (get_or registers (s_of i) 0)))
    (register_seen (entries_of window oldest stages p) (second i) (some (get_or registers (second i) 0)))
    (action_of i)

-- the mark of the oldest stage, by what its entry is to the buffer; v is the word that the table has at that stage
abbrev pub mark_with : Reference.Fate → ℕ → Mark
mark_with f v =
    cond (eqb (kind_of f) 1) (mark.Load (place_of f))
    (cond (eqb (kind_of f) 2 || eqb (kind_of f) 3) (mark.Store (place_of f) v) Absent)

-- ---- conditions that the window decides, as one number (proofs/Refusals.antt)

-- 5 and 6 of an issue, where no stage is left or one is
abbrev pub issue_number : Bool → ℕ → ℕ → ℕ
issue_number full count next = refusal (when full 5 ∷ when (leb count next) 6 ∷ [])

-- 7, 8 and 9 of an execute at position p of `live` entries
abbrev pub asked_number : List Entry → List ℕ → ℕ → ℕ → ℕ → ℕ → ℕ
asked_number window registers oldest stages live p =
    refusal
    (when (leb live p) 7 ∷ when (not (pending (get_or window (stage oldest stages p) blank_entry).fate)) 8
    ∷ when (unknown (asked_of window registers oldest stages p)) 9
    ∷ [])

-- 11 to 14 of a commit of e, the oldest of `live` entries, over so many words
abbrev pub commit_number : Entry → ℕ → ℕ → ℕ
commit_number e live words =
    refusal
    (when (eqb live 0) 11 ∷ when (pending e.fate) 12 ∷ when (faults words (reference e)) 13 ∷ when (misaligned e) 14 ∷ [])

-- ---- answers

-- what an execution with this effect answers, of `live` entries
abbrev pub executed_says : Effect → ℕ → Answer
executed_says q live =
    answer.executed (answered q.load q.store q.value) q.distance (cond (ltb q.left live) (some q.left) none)

-- the numbers of a commit of e, as they stand in a list
abbrev pub commit_numbers : Entry → List ℕ
commit_numbers e =
    let i = e.instruction in
    e.index ∷ code_of i ∷ target i (address_by e.fate) ∷ value_by e.fate ∷ answer_by (kind i) e.distance ∷ []
