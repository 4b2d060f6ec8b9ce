-- The window alone, apart from any engine that disambiguates memory: its steps, and the invariant of the record theorem.
-- What an engine owes is what the step `executing` asks of an execution: it leaves the executing entry and a prefix of the
-- younger ones, and a store of another word than the one already there leaves no load among them that saw the word before
-- (Spares). The distance that it notes is free: only the numbers of the record that `without` drops show it. Squash and eviction
-- take a prefix, so they keep the invariant for nothing; issue appends; a commit moves the oldest into registers and memory.
-- Assumes nothing.
use mathlib.Core.Path.{◌≡◌}
use mathlib.Core.Bool.{Bool, true, false, cond, ◌||◌}
use mathlib.Core.List.{List, [], ◌∷◌, ◌++◌, map}
use mathlib.Core.Option.{Option, some}
use Prim.Native.Nat.{ℕ, suc, ◌-◌, ◌*◌, ◌/◌, ◌≤◌, ◌<◌}
use lib.ListN.{length, get_or, take, drop, set, replicate}
use Rattle.lookup.specs.Forwarding
use Rattle.lookup.specs.Computed.Faithful.{past}
use Rattle.lookup.proofs.Faithfully.{Spares}
use Rattle.engine.specs.Execution.{written}
use Rattle.engine.specs.Conditions.{faults}
use Rattle.machine_model.specs.declared.Instruction.{Instruction}
use Rattle.machine_model.specs.declared.Fate.{Fate}
use Rattle.machine_model.specs.declared.Fate.TheVariants.{Waiting, Executed}
use Rattle.machine_model.specs.declared.Entry.{Entry}
use Rattle.machine_model.specs.Program.{per_instruction, registers_most, instruction_at}
use Rattle.machine_model.specs.Window.{
  entry_at,
  entry_with,
  successor,
  pending,
  writes_to,
  value_of,
  misaligned,
  register_seen,
  reference_by,
  untold,
  reference,
  evaluate,
}
use Rattle.machine_model.specs.Over.{new_entry, value_by, refetch, registers_after, committed_says, per_commit}
use Rattle.sequential.specs.Sequential.{run_after}
use Rattle.sequential.specs.Play.{recorded, without}

-- entries oldest first, committed registers, memory, the next index, and the record and number of commits so far
pub record Core : Type 0 where
  pub entries : List Entry
  pub registers : List ℕ
  pub memory : List ℕ
  pub next : ℕ
  pub record' : List ℕ
  pub commits : ℕ

-- the word at address a that is seen after these entries, where w stood before them
unfoldable pub seen_by : List Entry → ℕ → ℕ → ℕ
seen_by [] a w = w
seen_by (e ∷ es) a w = seen_by es a (Forwarding.word_after (reference e) a w)

-- registers and memory as an entry at position p sees them
abbrev pub registers_at : Core → ℕ → ℕ → Option ℕ
registers_at c p k = register_seen (take p c.entries) k (some (get_or c.registers k 0))

abbrev pub memory_at : Core → ℕ → ℕ → ℕ
memory_at c p a = seen_by (take p c.entries) a (get_or c.memory a 0)

-- the index of the first of these entries, else the next index
abbrev pub head_index : List Entry → ℕ → ℕ
head_index [] next = next
head_index (e ∷ es) next = e.index

-- with these entries, and issue going on at the first of the entries that left from position k on
abbrev pub cut_to : Core → ℕ → List Entry → Core
cut_to c k es =
    record {
      entries = es;
      registers = c.registers;
      memory = c.memory;
      next = refetch c.entries k c.next;
      record' = c.record';
      commits = c.commits;
    }

-- the commit of an executed entry gets 13 or 14, where the memory has this many words
abbrev pub barred : ℕ → Entry → Bool
barred words e = faults words (reference e) || misaligned e

-- the oldest entry e committed, the entries es left
abbrev pub after_commit : Core → Entry → List Entry → Core
after_commit c e es =
    record {
      entries = es;
      registers = registers_after c.registers e.instruction (value_by e.fate);
      memory = written c.memory (reference e);
      next = c.next;
      record' = c.record' ++ recorded (committed_says e) [];
      commits = suc c.commits;
    }

pub data Step (program : List ℕ) (c : Core) : Core → Type 0 where
  issuing : c.next < length program / per_instruction
      → Step program c
      (record {
        entries = c.entries ++ (new_entry program c.next ∷ []);
        registers = c.registers;
        memory = c.memory;
        next = suc c.next;
        record' = c.record';
        commits = c.commits;
      })
  executing : (p left : ℕ) (f : Fate) (d : ℕ) → p < left → left ≤ length c.entries
      → pending (entry_at c.entries p).fate ≡ true
      → evaluate (entry_at c.entries p).instruction (registers_at c p) (memory_at c p) ≡ some f
      → Spares (memory_at c p) (reference_by untold (entry_at c.entries p).instruction f)
      (map reference (take (left - suc p) (drop (suc p) c.entries)))
      → Step program c (cut_to c left (take left (set c.entries p (entry_with (entry_at c.entries p) f d))))
  squashing : (k : ℕ) → Step program c (cut_to c k (take k c.entries))
  committing : (e : Entry) (es : List Entry) → c.entries ≡ e ∷ es → pending e.fate ≡ false
      → barred (length c.memory) e ≡ false
      → Step program c (after_commit c e es)

-- an executed entry is what its instruction comes to over the registers and the memory that it sees
abbrev pub Right : Instruction → (ℕ → Option ℕ) → (ℕ → ℕ) → Fate → Type 0
Right i ρ μ Waiting = Unit {0}
Right i ρ μ (Executed v a) = evaluate i ρ μ ≡ some (Executed v a)

-- Each entry is the program's instruction at its index, leads to the next one's index, and is right over what it sees.
abbrev pub Good : List ℕ → ℕ → (ℕ → Option ℕ) → (ℕ → ℕ) → List Entry → Type 0
Good program next ρ μ [] = Unit {0}
Good program next ρ μ (e ∷ es) =
    Right e.instruction ρ μ e.fate × (e.instruction ≡ instruction_at program e.index) × (e.index < length program / per_instruction)
    × (successor e ≡ head_index es next)
    × Good program next (λ (k : ℕ). cond (writes_to e.instruction k) (value_of e.fate) (ρ k)) (past (reference e) μ) es

-- What is kept: registers, memory and the record without its distances are those of the sequential run after as many steps as
-- were committed, whose next index is the oldest entry's, and the window is good over them. The record has per_commit numbers a
-- commit, four of them the run's, so each of the run's steps was a real one.
pub record Kept (program memory : List ℕ) (c : Core) : Type 0 where
  pub registers : c.registers ≡ (run_after program memory c.commits).registers
  pub lent : c.memory ≡ (run_after program memory c.commits).memory
  pub record' : without c.record' ≡ (run_after program memory c.commits).record'
  pub index : head_index c.entries c.next ≡ (run_after program memory c.commits).index
  pub grows : length c.record' ≡ c.commits * per_commit
  pub good : Good program c.next (λ (k : ℕ). some (get_or c.registers k 0)) (λ (a : ℕ). get_or c.memory a 0) c.entries

-- the window of a program just opened
abbrev pub fresh : List ℕ → Core
fresh memory = record { entries = []; registers = replicate registers_most 0; memory = memory; next = 0; record' = []; commits = 0 }
