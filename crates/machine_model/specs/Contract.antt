-- What every call of the machine promises, for every machine, program, memory, position, limit and list.
-- Assumes nothing.
use Rattle.std.specs.Prelude.{◌≡◌, ⊤, Bool, true, ◌&&◌, List, ℕ, ◌<◌, eqb, get_or, replicate, Result}
use Rattle.table.specs.declared.Table.{Table}
use Rattle.table.specs.Limits.{stages_most}
use Rattle.table.specs.Reference
use Rattle.table.specs.Reference.{Side, lacks, holds, waiting, other, accessed, fate_of, at}
use Rattle.table.specs.View.{stage_of, tabulate, view}
use Rattle.table.specs.Rules.{Rules}
use Rattle.engine.specs.declared.Refusal.{Refusal}
use Rattle.engine.specs.declared.Executed.{Executed}
use Rattle.engine.specs.Contract.{done, named, committed, finished}
use Rattle.engine.specs.Answers.{says, says_executed}
use Rattle.engine.specs.Opening.{fresh}
use Rattle.machine_model.specs.declared.Entry.{Entry}
use Rattle.machine_model.specs.declared.Machine.{Machine}
use Rattle.machine_model.specs.declared.Committed.{Committed}
use Rattle.machine_model.specs.Window.{blank_entry, reference}
use Rattle.machine_model.specs.Program.{registers_most}
use Rattle.machine_model.specs.Over
use Rattle.machine_model.specs.Over.{Realization}
use Rattle.machine_model.specs.Calls.{Opening, banked, buffered, Plain, Call, Answer}

-- what the calls answer, in 01's numbers and values

-- of opening and of squash
abbrev pub done_says : Result ⊤ Refusal → Answer
done_says = says (λ (u : ⊤). done)

-- the position issued
abbrev pub issue_says : Result ℕ Refusal → Answer
issue_says = says named

abbrev pub execute_says : Result (Executed ℕ) Refusal → Answer
execute_says = says says_executed

abbrev pub commit_says : Result Committed Refusal → Answer
commit_says = says (λ (c : Committed). committed c.index c.code c.target c.value c.distance)

-- the number of commits
abbrev pub finish_says : Result ℕ Refusal → Answer
finish_says = says finished

-- the entry at position p of a machine's window
abbrev pub entry_of : Machine → ℕ → Entry
entry_of m p = get_or m.window (stage_of m.table p) blank_entry

-- the plain state of a machine
abbrev pub plain : Machine → Plain
plain m =
    record {
      buffer = view m.table;
      entries = tabulate (entry_of m) m.table.live;
      registers = m.registers;
      count = m.count;
      next = m.next;
    }

-- the marks of an access as a number: a load's, a store's, both; 5 stands for neither, which no table has
abbrev pub mark_kind : Side → Side → ℕ
mark_kind (holds w) lacks = 1
mark_kind lacks (holds v) = 2
mark_kind (holds w) (holds v) = 3
mark_kind lacks lacks = 5

-- a fate as two numbers: executed or not and with which marks, and the address
abbrev pub kind_of : Reference.Fate → ℕ
kind_of waiting = 4
kind_of other = 0
kind_of (accessed a l s) = mark_kind l s

abbrev pub place_of : Reference.Fate → ℕ
place_of waiting = 0
place_of other = 0
place_of (accessed a l s) = a

-- two fates agree: executed or not, at which address and with which marks; words are not compared
abbrev pub agree : Reference.Fate → Reference.Fate → Bool
agree f g = eqb (kind_of f) (kind_of g) && eqb (place_of f) (place_of g)

-- the table keeps its own rules, and window and table agree
pub record Sound (m : Machine) : Type 0 where
  pub rules : Rules m.table
  pub agrees : (p : ℕ) → p < m.table.live → agree (reference (entry_of m p)) (fate_of (at (view m.table).refs p)) ≡ true

-- a machine of this number of instructions over this table, with nothing in its window
abbrev pub empty_machine : Table → ℕ → Machine
empty_machine table count =
    record {
      table = table;
      window = replicate stages_most blank_entry;
      registers = replicate registers_most 0;
      count = count;
      next = 0;
    }

abbrev pub fresh_machine : Opening → ℕ → Machine
fresh_machine (banked banks rows stages words) count = empty_machine (fresh banks rows stages words) count

-- The machine over the buffer's table. A refused opening hands back a machine without stages, on which every call is refused
-- with 2.
abbrev pub tabled : Realization buffered
tabled =
    record {
      Machine = Machine;
      Sound = Sound;
      plain = plain;
      fresh = fresh_machine;
      unopened = fresh_machine (banked 0 0 0 0) 0;
    }

-- The call c with this program on machine m and memory w said `said` and handed back machine u, memory v and the list as
-- `kept`. As in the buffer, of an accepted call u may be any machine with this plain state that is sound: free is what
-- specs/Same.antt leaves out, a row's place in its bank, words without their mark, and what stands where nothing is live.
abbrev pub Meets : List ℕ → Machine → Call → List ℕ → Answer → Machine → List ℕ → List ℕ → Type 0
Meets = Over.Meets tabled

-- an opening said `said` and handed back machine u
abbrev pub Opens : Opening → List ℕ → List ℕ → Answer → Machine → Type 0
Opens = Over.Opens tabled
