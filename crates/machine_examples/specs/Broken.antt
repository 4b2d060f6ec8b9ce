-- Machines that break the rules, beside neighbours that keep them: "the table breaks its own rules, or window and table disagree
-- on which stages are live and executed, at which address and with which mark". A B or an H has both marks.
-- proofs/Breaking.antt shows of each which it is, and that every call on a broken one is refused with 2.
-- Assumes nothing.
use Rattle.std.specs.Prelude.{◌≡◌, List, [], ◌∷◌, ◌++◌, ℕ, take, replicate}
use Rattle.table.specs.Limits.{stages_most, slots}
use Rattle.engine.specs.Contract.{refused}
use Rattle.machine_model.specs.declared.Instruction.{Instruction}
use Rattle.machine_model.specs.declared.Instruction.TheVariants.{Add, Sum, Load, Store, Byte, Half}
use Rattle.machine_model.specs.declared.Fate.{Fate}
use Rattle.machine_model.specs.declared.Fate.TheVariants.{Waiting, Executed}
use Rattle.machine_model.specs.declared.Entry.{Entry}
use Rattle.machine_model.specs.declared.Machine.{Machine}
use Rattle.machine_model.specs.Window.{blank_entry}
use Rattle.machine_model.specs.Calls.{Call, lent_to, Answer, banked}
use Rattle.machine_model.specs.Contract.{Sound, Meets, fresh_machine}

-- whatever call is made on it is refused with 2, and everything comes back as it was passed
abbrev pub RefusesAll : Machine → Type 0
RefusesAll m =
    (program : List ℕ) (c : Call) (w : List ℕ) (said : Answer) (u : Machine) (v kept : List ℕ)
    → Meets program m c w said u v kept → (said ≡ refused 2) × (u ≡ m) × (v ≡ w) × (kept ≡ lent_to c)

-- a machine, and whether it keeps the rules
pub data Case : Type 0 where
  sound : Machine → Case
  broken : Machine → Case

abbrev pub Told : Case → Type 0
Told (sound m) = Sound m
Told (broken m) = (Sound m → ⊥) × RefusesAll m

-- each case of a table is what it says
abbrev pub AllTold : List Case → Type 0
AllTold [] = Unit {0}
AllTold (c ∷ cases) = Told c × AllTold cases

-- ---- how the cases are written

-- the arrays begin with these, and the rest is blank
abbrev pub machine : ℕ → ℕ → ℕ → ℕ → ℕ → ℕ → ℕ → List ℕ → List ℕ → List ℕ → List Entry → Machine
machine B R n W oldest live executed addresses loads stores window =
    record {
      table = record {
        banks = B;
        rows = R;
        stages = n;
        words = W;
        oldest = oldest;
        live = live;
        next = live;
        executed = executed;
        numbers = replicate stages_most 0;
        addresses = take slots (addresses ++ replicate slots 0);
        loads = take slots (loads ++ replicate slots 0);
        stores = take slots (stores ++ replicate slots 0);
        values = take stages_most (5 ∷ replicate stages_most 0);
        taken = take stages_most (0 ∷ 5 ∷ replicate stages_most 0);
      };
      window = take stages_most (window ++ replicate stages_most blank_entry);
      registers = replicate 8 0;
      count = 4;
      next = 4;
    }

abbrev pub entry : Instruction → ℕ → Fate → Entry
entry i index f = record { instruction = i; index = index; fate = f; distance = 0 }

-- Four stages, four live: a store at 3, a load of 3, an instruction without memory, and one that waits. Stages 0, 1 and 2 have
-- executed (7); one row has address 3, a load mark at stage 1 (2) and a store mark at stage 0 (1).
abbrev pub the_store : Entry
the_store = entry (Store 1 0 3) 0 (Executed 5 3)

abbrev pub the_load : Entry
the_load = entry (Load 2 0 3) 1 (Executed 5 3)

abbrev pub the_sum : Entry
the_sum = entry (Add 3 0 1) 2 (Executed 1 0)

abbrev pub the_idle : Entry
the_idle = entry (Add 4 0 1) 3 Waiting

abbrev pub entries : List Entry
entries = the_store ∷ the_load ∷ the_sum ∷ the_idle ∷ []

-- the same with other rows, and with another window
abbrev pub rowed : ℕ → List ℕ → List ℕ → List ℕ → Machine
rowed B addresses loads stores = machine B 2 4 8 0 4 7 addresses loads stores entries

abbrev pub windowed : List Entry → Machine
windowed window = machine 1 2 4 8 0 4 7 (3 ∷ []) (2 ∷ []) (1 ∷ []) window

-- of these the first `live`, of n stages
abbrev pub counted : ℕ → ℕ → Machine
counted n live = machine 1 2 n 8 0 live 7 (3 ∷ []) (2 ∷ []) (1 ∷ []) entries

-- the load waits, and its row has these load marks
abbrev pub unread : List ℕ → Machine
unread loads =
    machine 1 2 4 8 0 4 5 (3 ∷ []) loads (1 ∷ []) (the_store ∷ entry (Load 2 0 3) 1 Waiting ∷ the_sum ∷ the_idle ∷ [])

-- around the end of the circle: stages 3 and 0 are live and have executed, 3 is the oldest and has the store mark
abbrev pub turned : List Entry → Machine
turned window = machine 1 2 4 8 3 2 9 (3 ∷ []) (1 ∷ []) (8 ∷ []) window

-- an empty machine with this oldest stage
abbrev pub bare : ℕ → ℕ → ℕ → ℕ → ℕ → Machine
bare B R n W oldest = machine B R n W oldest 0 0 [] [] [] []

-- this entry in place of the store, and stage 0 with a load mark, a store mark or both in the row of address 3
abbrev pub marked : ℕ → ℕ → Entry → Machine
marked loads stores e = machine 1 2 4 8 0 4 7 (3 ∷ []) (loads ∷ []) (stores ∷ []) (e ∷ the_load ∷ the_sum ∷ the_idle ∷ [])

unfoldable pub cases : List Case
cases =
    sound (windowed entries)
    -- what a refused opening hands back; sizes outside their limits
    ∷ broken (fresh_machine (banked 0 0 0 0) 0)
    ∷ sound (bare 1 1 1 1 0) ∷ sound (bare 8 8 16 4096 15)
    ∷ broken (bare 0 1 1 1 0) ∷ broken (bare 3 1 1 1 0) ∷ broken (bare 1 0 1 1 0) ∷ broken (bare 1 9 1 1 0)
    ∷ broken (bare 1 1 17 1 0) ∷ broken (bare 1 1 1 0 0) ∷ broken (bare 1 1 1 4097 0)
    -- the oldest's stage is not below n; more than n are live
    ∷ broken (bare 8 8 16 4096 16)
    ∷ broken (counted 3 4)
    -- a mark on a stage that is not live, and on one that has not executed
    ∷ sound (counted 4 2)
    ∷ broken (counted 4 1)
    ∷ sound (unread [])
    ∷ broken (unread (2 ∷ []))
    -- marks of a stage in two rows, of one kind and of both
    ∷ broken (rowed 1 (3 ∷ 4 ∷ []) (2 ∷ 2 ∷ []) (1 ∷ []))
    ∷ broken (machine 1 2 4 8 0 4 7 (3 ∷ 4 ∷ []) (2 ∷ 1 ∷ []) (1 ∷ [])
    (entry (Byte 1 0 12) 0 (Executed 5 12) ∷ the_load ∷ the_sum ∷ the_idle ∷ []))
    -- two rows of one address; a free row may have it too
    ∷ broken (rowed 1 (3 ∷ 3 ∷ []) (2 ∷ 0 ∷ []) (0 ∷ 1 ∷ []))
    ∷ sound (rowed 1 (3 ∷ 3 ∷ []) (2 ∷ 0 ∷ []) (1 ∷ 0 ∷ []))
    -- a row at another place of its bank, past the R of a bank, in another bank, and in one that B does not give
    ∷ sound (rowed 1 (0 ∷ 3 ∷ []) (0 ∷ 2 ∷ []) (0 ∷ 1 ∷ []))
    ∷ broken (rowed 1 (0 ∷ 0 ∷ 3 ∷ []) (0 ∷ 0 ∷ 2 ∷ []) (0 ∷ 0 ∷ 1 ∷ []))
    ∷ broken (rowed 2 (3 ∷ []) (2 ∷ []) (1 ∷ []))
    ∷ sound (rowed 2 (replicate 8 0 ++ (3 ∷ [])) (replicate 8 0 ++ (2 ∷ [])) (replicate 8 0 ++ (1 ∷ [])))
    ∷ sound (rowed 1 (3 ∷ replicate 7 0 ++ (3 ∷ [])) (2 ∷ replicate 7 0 ++ (2 ∷ [])) (1 ∷ []))
    -- window and table disagree on what has executed, either way
    ∷ broken (windowed (the_store ∷ the_load ∷ the_sum ∷ entry (Add 4 0 1) 3 (Executed 1 0) ∷ []))
    ∷ broken (windowed (the_store ∷ the_load ∷ entry (Add 3 0 1) 2 Waiting ∷ the_idle ∷ []))
    ∷ broken (windowed (the_store ∷ entry (Load 2 0 3) 1 Waiting ∷ the_sum ∷ the_idle ∷ []))
    ∷ broken (windowed (entry (Store 1 0 3) 0 Waiting ∷ the_load ∷ the_sum ∷ the_idle ∷ []))
    -- at which address
    ∷ broken (windowed (entry (Store 1 0 3) 0 (Executed 5 4) ∷ the_load ∷ the_sum ∷ the_idle ∷ []))
    ∷ broken (windowed (the_store ∷ entry (Load 2 0 3) 1 (Executed 5 4) ∷ the_sum ∷ the_idle ∷ []))
    -- with which mark: another kind, none, one too many
    ∷ broken (windowed (entry (Load 1 0 3) 0 (Executed 5 3) ∷ the_load ∷ the_sum ∷ the_idle ∷ []))
    ∷ broken (windowed (the_store ∷ entry (Store 2 0 3) 1 (Executed 5 3) ∷ the_sum ∷ the_idle ∷ []))
    ∷ broken (windowed (the_store ∷ the_load ∷ entry (Load 3 0 3) 2 (Executed 1 3) ∷ the_idle ∷ []))
    ∷ broken (windowed (the_store ∷ entry (Add 2 0 3) 1 (Executed 5 3) ∷ the_sum ∷ the_idle ∷ []))
    -- both marks of a stage: a B or an H of any byte of the word, no L and no S; of a B or an H both are needed
    ∷ sound (marked 3 1 (entry (Byte 1 0 12) 0 (Executed 5 12))) ∷ sound (marked 3 1 (entry (Byte 1 0 15) 0 (Executed 5 15)))
    ∷ sound (marked 3 1 (entry (Half 1 0 12) 0 (Executed 5 12))) ∷ sound (marked 3 1 (entry (Half 1 0 15) 0 (Executed 5 15)))
    ∷ broken (marked 3 1 (entry (Byte 1 0 11) 0 (Executed 5 11))) ∷ broken (marked 3 1 (entry (Byte 1 0 16) 0 (Executed 5 16)))
    ∷ broken (marked 3 1 (entry (Byte 1 0 3) 0 (Executed 5 3)))
    ∷ broken (marked 3 1 the_store) ∷ broken (marked 3 1 (entry (Load 1 0 3) 0 (Executed 5 3)))
    ∷ broken (marked 3 0 (entry (Byte 1 0 12) 0 (Executed 5 12))) ∷ broken (marked 2 1 (entry (Byte 1 0 12) 0 (Executed 5 12)))
    ∷ broken (marked 3 0 (entry (Half 1 0 12) 0 (Executed 5 12))) ∷ broken (marked 2 1 (entry (Half 1 0 12) 0 (Executed 5 12)))
    ∷ sound (marked 3 0 (entry (Load 1 0 3) 0 (Executed 5 3)))
    -- what stands for the address of an A or a P, which has none, plays no part
    ∷ sound (windowed (the_store ∷ the_load ∷ entry (Add 3 0 1) 2 (Executed 1 7) ∷ the_idle ∷ []))
    ∷ sound (windowed (the_store ∷ the_load ∷ entry (Sum 3 0 1) 2 (Executed 1 3) ∷ the_idle ∷ []))
    -- 2 compares no words, and asks nothing of instructions, indices and entries that are not live
    ∷ sound (windowed (entry (Store 1 0 3) 0 (Executed 6 3) ∷ entry (Load 2 0 3) 9 (Executed 7 3) ∷ the_sum ∷ the_idle ∷ []))
    ∷ sound (windowed (entry (Store 7 7 7) 0 (Executed 5 3) ∷ the_load ∷ the_sum ∷ the_idle ∷ the_sum ∷ []))
    -- entries stand at their stages
    ∷ sound (turned (the_load ∷ the_sum ∷ the_sum ∷ the_store ∷ []))
    ∷ broken (turned (the_store ∷ the_sum ∷ the_sum ∷ the_load ∷ []))
    ∷ []
