-- A machine as the image that crosses to C: every image is a machine, and every machine has an image (proofs/Round.antt: which
-- is that machine). What an image holds that is not of the opened program, the machine's own refusals tell.
-- Assumes nothing.
use Rattle.std.specs.Prelude.{Bool, cond, ◌&&◌, List, map, ℕ, ◌+◌, ◌*◌, eqb, leb, get_or}
use Rattle.machine_model.specs.declared.Instruction.{Instruction}
use Rattle.machine_model.specs.declared.Instruction.TheVariants.{Add}
use Rattle.machine_model.specs.declared.Fate.{Fate}
use Rattle.machine_model.specs.declared.Fate.TheVariants.{Waiting, Executed}
use Rattle.machine_model.specs.declared.Entry.{Entry}
use Rattle.machine_model.specs.declared.Machine.{Machine}
use Rattle.machine_model.specs.Program.{per_instruction, decoded, code_of, d_of, s_of, imm_of}
use Rattle.machine_model.specs.Window.{address_by}
use Rattle.machine_model.specs.Over.{value_by}
use Rattle.embed_image.specs.declared.Slot.{Slot}
use Rattle.embed_image.specs.declared.Image.{Image}

-- ---- every image is a machine

-- the instruction with these numbers; of a code that there is not, one with registers that no program has
abbrev pub instruction_by : ℕ → ℕ → ℕ → ℕ → Instruction
instruction_by code d s imm = cond (leb 1 code && leb code 6) (decoded code d s imm) (Add 255 255 0)

-- 0: it waits; any other number: it has executed
abbrev pub fate_by : ℕ → ℕ → ℕ → Fate
fate_by ran value address = cond (eqb ran 0) Waiting (Executed value address)

abbrev pub entry_by : Slot → Entry
entry_by x =
    record {
      instruction = instruction_by x.code x.d x.s x.imm;
      index = x.index;
      fate = fate_by x.executed x.value x.address;
      distance = x.distance;
    }

abbrev pub machine_by : Image → Machine
machine_by i =
    record {
      table = i.table;
      window = map entry_by i.window;
      registers = i.registers;
      count = i.count;
      next = i.next;
    }

-- a slot's four numbers are the program's at its index
abbrev pub as_written : List ℕ → Slot → Bool
as_written program x =
    let at = x.index * per_instruction in
    eqb (get_or program at 0) x.code && eqb (get_or program (at + 1) 0) x.d && eqb (get_or program (at + 2) 0) x.s
    && eqb (get_or program (at + 3) 0) x.imm

-- ---- every machine has an image

abbrev pub executed_of : Fate → ℕ
executed_of Waiting = 0
executed_of (Executed v a) = 1

abbrev pub slot_of : Entry → Slot
slot_of e =
    record {
      code = code_of e.instruction;
      d = d_of e.instruction;
      s = s_of e.instruction;
      executed = executed_of e.fate;
      imm = imm_of e.instruction;
      index = e.index;
      value = value_by e.fate;
      address = address_by e.fate;
      distance = e.distance;
    }

abbrev pub image_of : Machine → Image
image_of m =
    record {
      table = m.table;
      window = map slot_of m.window;
      registers = m.registers;
      count = m.count;
      next = m.next;
    }
