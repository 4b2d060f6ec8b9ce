-- What each call of the machine comes to over any engine that disambiguates memory, over the plain state and the memory. First
-- what goes by the window alone, then, over an engine, the conditions under which a call is turned down and what it comes to
-- where none holds. Calls.antt has the machine over the buffer.
-- Assumes nothing.
use Rattle.std.specs.Prelude.{◌≡◌, Bool, true, false, cond, not, ◌&&◌, ◌||◌, List, [], ◌∷◌, ◌++◌, ℕ, zero, suc, ◌-◌, ◌*◌, ◌/◌, eqb, leb, ltb, length, get_or, take, drop, set, replicate}
use Rattle.std.proofs.Math.Option.{Option, none, some}
use Rattle.marks.specs.Counting.{every}
use Rattle.table.specs.Reference
use Rattle.engine.specs.Conditions.{Check, when, refusal, wrong_length, faults}
use Rattle.engine.specs.Contract
use Rattle.engine.specs.Contract.{refused, done, named, executed, committed, finished, judged}
use Rattle.engine.specs.Execution.{written}
use Rattle.machine_model.specs.declared.Instruction.{Instruction}
use Rattle.machine_model.specs.declared.Kind.{Kind}
use Rattle.machine_model.specs.declared.Kind.TheVariants.{Computing, Loading, Storing, Merging}
use Rattle.machine_model.specs.declared.Fate.{Fate}
use Rattle.machine_model.specs.declared.Fate.TheVariants.{Waiting, Executed}
use Rattle.machine_model.specs.declared.Entry.{Entry}
use Rattle.machine_model.specs.Program.{per_instruction, program_most, registers_most, instruction_at, code_of, same, kind}
use Rattle.machine_model.specs.Program.{destination, program_fits}
use Rattle.machine_model.specs.Window.{entry_at, entry_with, pending, address_by, misaligned, register_seen, reference_by}
use Rattle.machine_model.specs.Window.{reference, evaluate}

-- What an engine gives the machine, over its own state S and the window's entries, and over what an opening of it asks for (O).
-- Which of its states keep its rules is not told here, nor what its state is: the machine goes by these functions alone.
pub record Engine (O S : Type 0) : Type 0 where
  -- the sizes lie in their limits (1), and the state that an opening makes
  pub fits : O → Bool
  pub opening : O → S
  -- the number of words of its memory
  pub words : S → ℕ
  -- no stage is left for an issue (5)
  pub full : S → List Entry → Bool
  -- the memory as position p sees it, and how many positions older the store is that an address's word came from
  pub sees : S → List Entry → List ℕ → ℕ → ℕ → ℕ
  pub far : S → List Entry → ℕ → ℕ → ℕ
  -- how many entries stay where position p executes to a fate; 0 is a stall (10)
  pub leaves : S → List Entry → ℕ → Reference.Fate → ℕ
  -- what the oldest is, whose commit writes memory
  pub first : S → List Entry → Reference.Fate
  -- its own state after an issue, an execution, a squash and a commit
  pub issued : S → S
  pub executed : S → ℕ → Reference.Fate → S
  pub squashed : S → ℕ → S
  pub retired : S → S

-- The engine's state, the window's entries in program order, the committed registers, the number of instructions opened and the
-- index of the next to issue.
pub record Plain (S : Type 0) : Type 0 where
  pub buffer : S
  pub entries : List Entry
  pub registers : List ℕ
  pub count : ℕ
  pub next : ℕ

pub data Call : Type 0 where
  issue : Call
  execute : ℕ → Call
  squash : ℕ → Call
  commit : Call
  finish : ℕ → List ℕ → Call

-- where a finish got to: state, memory, the numbers of its commits, and how many these were
pub record Drain (S : Type 0) : Type 0 where
  pub state : Plain S
  pub memory : List ℕ
  pub numbers : List ℕ
  pub commits : ℕ

-- ---- of the window alone

-- the list lent to a call
abbrev pub lent_to : Call → List ℕ
lent_to issue = []
lent_to (execute p) = []
lent_to (squash p) = []
lent_to commit = []
lent_to (finish k list) = list

-- the machine names references by their positions
abbrev pub Answer : Type 0
Answer = Contract.Answer ℕ

-- the entry is the program's instruction at its index
abbrev pub matches_program : List ℕ → ℕ → Entry → Bool
matches_program program count e = ltb e.index count && same (instruction_at program e.index) e.instruction

abbrev pub known : Option Fate → Fate
known none = Waiting
known (some f) = f

abbrev pub unknown : {A : Type 0} → Option A → Bool
unknown none = true
unknown (some x) = false

-- the entry that an issue adds
abbrev pub new_entry : List ℕ → ℕ → Entry
new_entry program next = record { instruction = instruction_at program next; index = next; fate = Waiting; distance = 0 }

-- the value of an executed entry
abbrev pub value_by : Fate → ℕ
value_by Waiting = 0
value_by (Executed v a) = v

-- the number that is answered of an instruction of this kind: a load's, else 0
abbrev pub answer_by : Kind → ℕ → ℕ
answer_by Computing v = 0
answer_by Loading v = v
answer_by Storing v = 0
answer_by Merging v = 0

abbrev pub load_value : Instruction → Fate → ℕ
load_value i f = answer_by (kind i) (value_by f)

-- the first `left` entries stay: after a squash the next issue is the first squashed instruction
abbrev pub refetch : List Entry → ℕ → ℕ → ℕ
refetch es left next = cond (ltb left (length es)) (entry_at es left).index next

-- the registers where the one written, if any, becomes v
abbrev pub writing : List ℕ → Option ℕ → ℕ → List ℕ
writing registers none v = registers
writing registers (some d) v = set registers d v

-- the registers after an entry's commit
abbrev pub registers_after : List ℕ → Instruction → ℕ → List ℕ
registers_after registers i v = writing registers (destination i) v

-- the third number of a commit: the register, for S, B and H the address
abbrev pub or_address : Option ℕ → ℕ → ℕ
or_address none a = a
or_address (some d) a = d

abbrev pub target : Instruction → ℕ → ℕ
target i a = or_address (destination i) a

-- what a commit of this entry answers: index, code, register (for S, B and H the address), value, and a load's distance
abbrev pub committed_says : Entry → Answer
committed_says e =
    committed e.index (code_of e.instruction) (target e.instruction (address_by e.fate)) (value_by e.fate)
    (answer_by (kind e.instruction) e.distance)

-- the places that a commit takes
abbrev pub per_commit : ℕ
per_commit = 5

-- ---- of the state of any engine

-- what a call comes to over such states
abbrev pub Result : Type 0 → Type 0
Result S = Contract.Result (Plain S) ℕ

-- the program is one of the opened number of well-formed instructions, and the live entries are its instructions
abbrev pub fits_program : {S : Type 0} → List ℕ → Plain S → Bool
fits_program program X =
    program_fits program && eqb (length program) (per_instruction * X.count)
    && every (λ (p : ℕ). matches_program program X.count (entry_at X.entries p)) (length X.entries)

-- 4: it is not so
abbrev pub program_check : {S : Type 0} → List ℕ → Plain S → Check
program_check program X = when (not (fits_program program X)) 4

abbrev pub refetch_index : {S : Type 0} → Plain S → ℕ → ℕ
refetch_index X left = refetch X.entries left X.next

-- nothing is live and no instruction is left
abbrev pub program_done : {S : Type 0} → Plain S → Bool
program_done X = eqb (length X.entries) 0 && leb X.count X.next

-- one more commit, with these numbers, before the others
abbrev pub after_commit : {S : Type 0} → ℕ → ℕ → ℕ → ℕ → ℕ → Drain S → Drain S
after_commit i c r v d w =
    record { state = w.state; memory = w.memory; numbers = i ∷ c ∷ r ∷ v ∷ d ∷ w.numbers; commits = suc w.commits }

-- after the answer to a commit: a commit goes on, a refusal (a fault) stops here
abbrev pub continue_on : {S : Type 0} → Answer → Drain S → Drain S → Drain S
continue_on (refused k) here rest = here
continue_on done here rest = here
continue_on (named p) here rest = here
continue_on (executed v d s) here rest = here
continue_on (committed i c r v d) here rest = after_commit i c r v d rest
continue_on (finished n) here rest = here

abbrev pub drain_stopped : {S : Type 0} → Plain S → List ℕ → Drain S
drain_stopped X memory = record { state = X; memory = memory; numbers = []; commits = 0 }

-- what a finish comes to that ended so: the numbers stand at the list's start, and the rest of the list is left
abbrev pub drained : {S : Type 0} → List ℕ → Drain S → Result S
drained list w =
    record {
      answer = finished w.commits;
      state = w.state;
      memory = w.memory;
      list = w.numbers ++ drop (length w.numbers) list;
    }

-- ---- over an engine

module _ {O S : Type 0} (E : Engine O S) where
  -- ---- where each call is turned down, past 2

  abbrev pub issue_checks : List ℕ → Plain S → List Check
  issue_checks program X =
      program_check program X ∷ when (E.full X.buffer X.entries) 5 ∷ when (leb X.count X.next) 6 ∷ []

  -- what the entry at position p comes to over the registers and the memory that it sees
  abbrev pub evaluated : Plain S → List ℕ → ℕ → Option Fate
  evaluated X memory p =
      evaluate (entry_at X.entries p).instruction
      (λ (k : ℕ). register_seen (take p X.entries) k (some (get_or X.registers k 0)))
      (E.sees X.buffer X.entries memory p)

  -- what the entry at position p is to the buffer once it has executed to fate f
  abbrev pub reference_at : Plain S → List ℕ → ℕ → Fate → Reference.Fate
  reference_at X memory p f = reference_by (E.sees X.buffer X.entries memory p) (entry_at X.entries p).instruction f

  -- how many entries stay
  abbrev pub survivors_of : Plain S → List ℕ → ℕ → Fate → ℕ
  survivors_of X memory p f = E.leaves X.buffer X.entries p (reference_at X memory p f)

  abbrev pub execute_checks : List ℕ → Plain S → List ℕ → ℕ → List Check
  execute_checks program X memory p =
      wrong_length (E.words X.buffer) memory ∷ program_check program X ∷ when (leb (length X.entries) p) 7
      ∷ when (not (pending (entry_at X.entries p).fate)) 8
      ∷ when (unknown (evaluated X memory p)) 9
      ∷ when (eqb (survivors_of X memory p (known (evaluated X memory p))) 0) 10
      ∷ []

  abbrev pub squash_checks : List ℕ → Plain S → ℕ → List Check
  squash_checks program X p =
      program_check program X ∷ when (leb (length X.entries) p) 7 ∷ []

  abbrev pub commit_checks : List ℕ → Plain S → List ℕ → List Check
  commit_checks program X memory =
      wrong_length (E.words X.buffer) memory ∷ program_check program X ∷ when (eqb (length X.entries) 0) 11
      ∷ when (pending (entry_at X.entries 0).fate) 12
      ∷ when (faults (E.words X.buffer) (reference (entry_at X.entries 0))) 13
      ∷ when (misaligned (entry_at X.entries 0)) 14
      ∷ []

  abbrev pub finish_checks : List ℕ → Plain S → List ℕ → List Check
  finish_checks program X memory =
      wrong_length (E.words X.buffer) memory ∷ program_check program X ∷ []

  -- Every call's conditions, smallest number first (proofs/Ordered.antt).
  abbrev pub checks_of : List ℕ → Call → Plain S → List ℕ → List Check
  checks_of program issue X memory = issue_checks program X
  checks_of program (execute p) X memory = execute_checks program X memory p
  checks_of program (squash p) X memory = squash_checks program X p
  checks_of program commit X memory = commit_checks program X memory
  checks_of program (finish k list) X memory = finish_checks program X memory

  -- A refused call leaves everything; a call that is not refused comes to r.
  abbrev pub unless_refused : List ℕ → Call → Plain S → List ℕ → Result S → Result S
  unless_refused program c X memory r = judged (refusal (checks_of program c X memory)) X memory (lent_to c) r

  -- ---- issue

  abbrev pub issuing : List ℕ → Plain S → List ℕ → Result S
  issuing program X memory =
      record {
        answer = named (length X.entries);
        state = record {
          buffer = E.issued X.buffer;
          entries = X.entries ++ (new_entry program X.next ∷ []);
          registers = X.registers;
          count = X.count;
          next = suc X.next;
        };
        memory = memory;
        list = [];
      }

  abbrev pub issue_result : List ℕ → Plain S → List ℕ → Result S
  issue_result program X memory = unless_refused program issue X memory (issuing program X memory)

  -- ---- execute

  -- how many positions older the store is that the word of the entry at position p came from, which executes to fate f
  abbrev pub load_distance : Plain S → ℕ → Fate → ℕ
  load_distance X p f = answer_by (kind (entry_at X.entries p).instruction) (E.far X.buffer X.entries p (address_by f))

  -- the entry at position p executes to fate f and leaves the first `left`
  abbrev pub executing : Plain S → List ℕ → ℕ → Fate → ℕ → Result S
  executing X memory p f left =
      record {
        answer =
            executed (load_value (entry_at X.entries p).instruction f) (load_distance X p f)
            (cond (ltb left (length X.entries)) (some left) none);
        state = record {
          buffer = E.executed X.buffer p (reference_at X memory p f);
          entries = take left (set X.entries p (entry_with (entry_at X.entries p) f (load_distance X p f)));
          registers = X.registers;
          count = X.count;
          next = refetch_index X left;
        };
        memory = memory;
        list = [];
      }

  abbrev pub executions : List ℕ → Plain S → List ℕ → ℕ → Result S
  executions program X memory p =
      unless_refused program (execute p) X memory
      (executing X memory p (known (evaluated X memory p)) (survivors_of X memory p (known (evaluated X memory p))))

  -- ---- squash

  abbrev pub squashing : Plain S → List ℕ → ℕ → Result S
  squashing X memory p =
      record {
        answer = done;
        state = record {
          buffer = E.squashed X.buffer p;
          entries = take p X.entries;
          registers = X.registers;
          count = X.count;
          next = refetch_index X p;
        };
        memory = memory;
        list = [];
      }

  abbrev pub squashes : List ℕ → Plain S → List ℕ → ℕ → Result S
  squashes program X memory p = unless_refused program (squash p) X memory (squashing X memory p)

  -- ---- commit

  abbrev pub committing : Plain S → List ℕ → Result S
  committing X memory =
      let e = entry_at X.entries 0 in
      record {
        answer = committed_says e;
        state = record {
          buffer = E.retired X.buffer;
          entries = drop 1 X.entries;
          registers = registers_after X.registers e.instruction (value_by e.fate);
          count = X.count;
          next = X.next;
        };
        memory = written memory (E.first X.buffer X.entries);
        list = [];
      }

  abbrev pub commits : List ℕ → Plain S → List ℕ → Result S
  commits program X memory = unless_refused program commit X memory (committing X memory)

  -- ---- finish

  -- the oldest on its way to its commit: issued where the window is empty, executed where it waits
  abbrev pub begun : List ℕ → Plain S → List ℕ → Plain S
  begun program X memory = cond (eqb (length X.entries) 0) (issue_result program X memory).state X

  abbrev pub ready : List ℕ → Plain S → List ℕ → Plain S
  ready program X memory =
      let Y = begun program X memory in
      cond (pending (entry_at Y.entries 0).fate) (executions program Y memory 0).state Y

  -- The oldest is taken to its commit again and again, until k commits, fewer places left than a commit takes, the end of the
  -- program, or a fault.
  unfoldable pub finishes : List ℕ → ℕ → ℕ → Plain S → List ℕ → Drain S
  finishes program zero places X memory = drain_stopped X memory
  finishes program (suc k) places X memory =
      cond (ltb places per_commit || program_done X) (drain_stopped X memory)
      (let Y = ready program X memory in
      let r = commits program Y memory in
      continue_on r.answer (drain_stopped Y memory) (finishes program k (places - per_commit) r.state r.memory))

  abbrev pub finishing : List ℕ → Plain S → List ℕ → ℕ → List ℕ → Result S
  finishing program X memory k list =
      unless_refused program (finish k list) X memory (drained list (finishes program k (length list) X memory))

  -- ---- every call

  unfoldable pub respond : List ℕ → Call → Plain S → List ℕ → Result S
  respond program issue X memory = issue_result program X memory
  respond program (execute p) X memory = executions program X memory p
  respond program (squash p) X memory = squashes program X memory p
  respond program commit X memory = commits program X memory
  respond program (finish k list) X memory = finishing program X memory k list

  -- ---- openings

  -- 1: a size outside its limits, or a program of more than 1,024 numbers; 3; 4
  abbrev pub open_checks : O → List ℕ → List ℕ → List Check
  open_checks o program memory =
      when (not (E.fits o && leb (length program) program_most)) 1 ∷ wrong_length (E.words (E.opening o)) memory
      ∷ when (not (program_fits program)) 4
      ∷ []

  -- the state that an opening makes
  abbrev pub opened : O → List ℕ → Plain S
  opened o program =
      record {
        buffer = E.opening o;
        entries = [];
        registers = replicate registers_most 0;
        count = length program / per_instruction;
        next = 0;
      }

-- ---- a machine in code

-- A machine in code over an engine: its type, which of its states are sound (they keep the engine's rules, and the window
-- agrees with them), the plain state of one, the machine that an opening makes for so many instructions, and the one that a
-- refused opening hands back.
pub record Realization {O S : Type 0} (E : Engine O S) : Type 1 where
  pub Machine : Type 0
  pub Sound : Machine → Type 0
  pub plain : Machine → Plain S
  pub fresh : O → ℕ → Machine
  pub unopened : Machine

-- what every call of it promises, by the one contract of every engine
abbrev pub Meets : {O S : Type 0} {E : Engine O S} (R : Realization E) → List ℕ → R.Machine → Call → List ℕ → Answer
    → R.Machine → List ℕ → List ℕ → Type 0
Meets {E = E} R program m c w said u v kept =
    Contract.Meets R.Sound R.plain m (respond E program c (R.plain m) w) w (lent_to c) said u v kept

-- and an opening that said `said` and handed back machine u
pub record Opens {O S : Type 0} {E : Engine O S} (R : Realization E) (o : O) (program w : List ℕ) (said : Answer)
    (u : R.Machine) : Type 0 where
  pub refuses : (k : ℕ) → (k ≡ 0 → ⊥) → refusal (open_checks E o program w) ≡ k → (said ≡ refused k) × (u ≡ R.unopened)
  pub opens : refusal (open_checks E o program w) ≡ 0 → (said ≡ done) × (u ≡ R.fresh o (length program / per_instruction))
  pub state : refusal (open_checks E o program w) ≡ 0 → R.Sound u × (R.plain u ≡ opened E o program)
