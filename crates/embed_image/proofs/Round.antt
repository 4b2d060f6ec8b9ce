-- The image of a machine is that machine: decoding undoes encoding, of every machine. Assumes nothing.
use mathlib.Core.Path.{◌≡◌, refl, ap, ap₂}
use mathlib.Core.List.{List, [], ◌∷◌, map}
use Prim.Native.Nat.{ℕ}
use Rattle.machine_model.specs.declared.Instruction.{Instruction}
use Rattle.machine_model.specs.declared.Instruction.TheVariants.{Add, Sum, Load, Store, Byte, Half}
use Rattle.machine_model.specs.declared.Fate.{Fate}
use Rattle.machine_model.specs.declared.Fate.TheVariants.{Waiting, Executed}
use Rattle.machine_model.specs.declared.Entry.{Entry}
use Rattle.machine_model.specs.declared.Machine.{Machine}
use Rattle.machine_model.specs.Program.{code_of, d_of, s_of, imm_of}
use Rattle.machine_model.specs.Window.{address_by}
use Rattle.machine_model.specs.Over.{value_by}
use Rattle.embed_image.specs.Slots.{instruction_by, fate_by, executed_of, entry_by, slot_of, machine_by, image_of}

instruction_round : (i : Instruction) → instruction_by (code_of i) (d_of i) (s_of i) (imm_of i) ≡ i
instruction_round (Add d s imm) = refl
instruction_round (Sum d s imm) = refl
instruction_round (Load d s imm) = refl
instruction_round (Store d s imm) = refl
instruction_round (Byte d s imm) = refl
instruction_round (Half d s imm) = refl

fate_round : (f : Fate) → fate_by (executed_of f) (value_by f) (address_by f) ≡ f
fate_round Waiting = refl
fate_round (Executed v a) = refl

abbrev entry : ℕ → ℕ → Instruction → Fate → Entry
entry index distance i f = record { instruction = i; index = index; fate = f; distance = distance }

entry_round : (e : Entry) → entry_by (slot_of e) ≡ e
entry_round e = ap₂ (entry e.index e.distance) (instruction_round e.instruction) (fate_round e.fate)

entries_round : (es : List Entry) → map entry_by (map slot_of es) ≡ es
entries_round [] = refl
entries_round (e ∷ es) = ap₂ (λ (x : Entry) (xs : List Entry). x ∷ xs) (entry_round e) (entries_round es)

pub round : (m : Machine) → machine_by (image_of m) ≡ m
round m =
    ap
    (λ (es : List Entry).
    record { table = m.table; window = es; registers = m.registers; count = m.count; next = m.next })
    (entries_round m.window)
