-- The window of the machine over plain lists: operands, what an instruction comes to, and what a commit of it changes.
-- Assumes nothing.
use Rattle.std.specs.Prelude.{Bool, true, false, cond, ◌&&◌, List, [], ◌∷◌, ℕ, suc, ◌%◌, eqb, get_or}
use Rattle.std.proofs.Math.Option.{Option, none, some}
use Rattle.table.specs.Reference
use Rattle.table.specs.Reference.{waiting, other, loaded, stored, merged}
use Rattle.engine.specs.declared.Part.{Part}
use Rattle.engine.specs.declared.Part.TheVariants as part
use Rattle.engine.specs.Part.{word_of, whole}
use Rattle.machine_model.specs.declared.Instruction.{Instruction}
use Rattle.machine_model.specs.declared.Instruction.TheVariants.{Add, Sum, Load, Store, Byte, Half}
use Rattle.machine_model.specs.declared.Kind.{Kind}
use Rattle.machine_model.specs.declared.Kind.TheVariants.{Computing, Loading, Storing, Merging}
use Rattle.machine_model.specs.declared.Fate.{Fate}
use Rattle.machine_model.specs.declared.Fate.TheVariants.{Waiting, Executed}
use Rattle.machine_model.specs.declared.Entry.{Entry}
use Rattle.machine_model.specs.Program.{code_of, kind, destination, sum}

-- an entry that stands where none is
abbrev pub blank_entry : Entry
blank_entry = record { instruction = Add 0 0 0; index = 0; fate = Waiting; distance = 0 }

abbrev pub entry_at : List Entry → ℕ → Entry
entry_at es p = get_or es p blank_entry

-- the entry with another fate and distance
abbrev pub entry_with : Entry → Fate → ℕ → Entry
entry_with e f d = record { instruction = e.instruction; index = e.index; fate = f; distance = d }

-- the index that an entry leads to: the following instruction
abbrev pub successor : Entry → ℕ
successor e = suc e.index

-- register k is the one written
abbrev pub is_register : Option ℕ → ℕ → Bool
is_register none k = false
is_register (some d) k = eqb d k

-- the instruction writes register k
abbrev pub writes_to : Instruction → ℕ → Bool
writes_to i k = is_register (destination i) k

-- an entry with this fate has not executed yet
abbrev pub pending : Fate → Bool
pending Waiting = true
pending (Executed v a) = false

-- the value of an executed entry; not yet known of a waiting one
abbrev pub value_of : Fate → Option ℕ
value_of Waiting = none
value_of (Executed v a) = some v

-- the address of an executed entry
abbrev pub address_by : Fate → ℕ
address_by Waiting = 0
address_by (Executed v a) = a

-- it has executed as an H at an odd byte number
abbrev pub misaligned : Entry → Bool
misaligned e = eqb (code_of e.instruction) 6 && eqb (address_by e.fate % 2) 1

-- what register k holds after these entries, where it held w before them: the nearest writer decides
unfoldable pub register_seen : List Entry → ℕ → Option ℕ → Option ℕ
register_seen [] k w = w
register_seen (e ∷ es) k w = register_seen es k (cond (writes_to e.instruction k) (value_of e.fate) w)

-- what an executed instruction of this kind is to the buffer, where the memory is seen as μ
abbrev pub access_by : (ℕ → ℕ) → Kind → ℕ → ℕ → Reference.Fate
access_by μ Computing v a = other
access_by μ Loading v a = loaded a (μ a)
access_by μ Storing v a = stored a v
access_by μ Merging v a = merged (word_of a) (μ (word_of a)) v

abbrev pub reference_by : (ℕ → ℕ) → Instruction → Fate → Reference.Fate
reference_by μ i Waiting = waiting
reference_by μ i (Executed v a) = access_by μ (kind i) v a

-- The same of an entry. The word that its load took is the table's to keep, and 0 stands for it here. No call goes by it; `spoil`
-- of crates/machine_examples puts it into a state.
abbrev pub untold : ℕ → ℕ
untold a = 0

abbrev pub reference : Entry → Reference.Fate
reference e = reference_by untold e.instruction e.fate

-- two known numbers
abbrev pub with₂ : {A : Type 0} → Option ℕ → Option ℕ → (ℕ → ℕ → A) → Option A
with₂ none y f = none
with₂ (some x) none f = none
with₂ (some x) (some y) f = some (f x y)

-- a store of y's part at byte b: the whole word is its value
abbrev pub part_stored : Part → (ℕ → ℕ) → ℕ → ℕ → Fate
part_stored part μ b y = Executed (whole part b (μ (word_of b)) y) b

-- What an instruction comes to where registers hold ρ and the memory is seen as μ, if its operands are known: its value and
-- its address (0 where it has none, of B and H the byte number).
abbrev pub evaluate : Instruction → (ℕ → Option ℕ) → (ℕ → ℕ) → Option Fate
evaluate (Add d s imm) ρ μ = with₂ (ρ s) (some imm) (λ x y. Executed (sum x y) 0)
evaluate (Sum d s r) ρ μ = with₂ (ρ s) (ρ r) (λ x y. Executed (sum x y) 0)
evaluate (Load d s imm) ρ μ = with₂ (ρ s) (some imm) (λ x y. Executed (μ (sum x y)) (sum x y))
evaluate (Store d s imm) ρ μ = with₂ (ρ s) (ρ d) (λ x y. Executed y (sum x imm))
evaluate (Byte d s imm) ρ μ = with₂ (ρ s) (ρ d) (λ x y. part_stored part.Byte μ (sum x imm) y)
evaluate (Half d s imm) ρ μ = with₂ (ρ s) (ρ d) (λ x y. part_stored part.Half μ (sum x imm) y)
