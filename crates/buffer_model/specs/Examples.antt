-- 01's starred examples as a table: the sizes and the memory of an opening, the calls after it, and what opening and calls
-- answer. Below them stand rows for what they leave out; specs/Edges.antt has the limits and the refusals, specs/PartStores.antt
-- the stores of bytes and half words, specs/Distances.antt how far a word came, specs/SameWords.antt the stores of a word that is
-- already there. proofs/Starred.antt shows that every row comes out.
-- As long as nothing has been squashed or committed, position p is at stage p under issue number p: its ticket is τ p p.
-- Assumes nothing.
use Rattle.std.specs.Prelude.{◌≡◌, cond, List, [], ◌∷◌, map, ℕ, eqb, replicate, set}
use Rattle.std.proofs.Math.Option.{none, some}
use Rattle.table.specs.declared.Table.{Table}
use Rattle.table.specs.declared.Ticket.{Ticket}
use Rattle.table.specs.Reference.{State}
use Rattle.engine.specs.declared.Action.TheVariants.{Compute}
use Rattle.engine.specs.Conditions.{refusal}
use Rattle.engine.specs.Contract.{refused, done, named, executed}
use Rattle.engine.specs.Opening.{opening}
use Rattle.buffer_model.specs.Answers.{Answer}
use Rattle.buffer_model.specs.Refusals.{open_checks}
use Rattle.buffer_model.specs.Calls.{Call, issue, execute, execute_load, execute_store, execute_other, squash, commit}
use Rattle.buffer_model.specs.Calls.{respond}
use Rattle.buffer_model.specs.Contract.{Meets, Opens}

-- a call on the memory that the calls before it left, or on another one that is lent to it alone
pub data Turn : Type 0 where
  call : Call → Turn
  call_on : List ℕ → Call → Turn

pub record Example : Type 0 where
  pub banks : ℕ
  pub rows : ℕ
  pub stages : ℕ
  pub words : ℕ
  pub memory : List ℕ
  pub turns : List Turn
  pub answers : List Answer

-- what the calls answer, each on the state and memory that the call before left
unfoldable pub played : State → List ℕ → List Turn → List Answer
played P memory [] = []
played P memory (call c ∷ turns) =
    (respond c P memory).answer ∷ played (respond c P memory).state (respond c P memory).memory turns
played P memory (call_on lent c ∷ turns) = (respond c P lent).answer ∷ played (respond c P lent).state memory turns

-- what an opening whose conditions give k answers, and the calls after it: on the table of a refused one all are refused with 2
abbrev pub opened_by : ℕ → State → List ℕ → List Turn → List Answer
opened_by k P memory turns =
    cond (eqb k 0) (done ∷ played P memory turns) (refused k ∷ map (λ (turn : Turn). refused 2) turns)

abbrev pub answered : Example → List Answer
answered e =
    opened_by (refusal (open_checks e.banks e.rows e.stages e.words e.memory))
    (opening e.banks e.rows e.stages e.words) e.memory e.turns

-- calls that met their contracts, from this table and memory on, each on the table that the call before handed back
pub data Session : Table → List ℕ → List Turn → List Answer → Type 0 where
  over : {t : Table} {m : List ℕ} → Session t m [] []
  goes : {t u : Table} {m v : List ℕ} {c : Call} {said : Answer} {turns : List Turn} {answers : List Answer}
      → Meets t c m said u v → Session u v turns answers → Session t m (call c ∷ turns) (said ∷ answers)
  lends : {t u : Table} {m l v : List ℕ} {c : Call} {said : Answer} {turns : List Turn} {answers : List Answer}
      → Meets t c l said u v → Session u m turns answers → Session t m (call_on l c ∷ turns) (said ∷ answers)

-- a row comes out: an opening and calls that meet their contracts answer what it says
abbrev pub Shown : Example → Type 0
Shown e =
    (said : Answer) (t : Table) (answers : List Answer)
    → Opens e.banks e.rows e.stages e.words e.memory said t → Session t e.memory e.turns answers
    → said ∷ answers ≡ e.answers

abbrev pub AllShown : List Example → Type 0
AllShown [] = Unit {0}
AllShown (e ∷ rows) = Shown e × AllShown rows

-- the ticket of this stage and issue number
abbrev pub τ : ℕ → ℕ → Ticket
τ s n = record { stage = s; number = n }

-- "Unless said, B is 1, R is 4, n is 4, W is 200 and memory holds 140 at 100 and 0 elsewhere."
abbrev pub usual_memory : List ℕ
usual_memory = set (replicate 200 0) 100 140

-- all as usual but for B and R; the opening is done
abbrev pub sized : ℕ → ℕ → List Call → List Answer → Example
sized B R calls answers =
    record {
      banks = B;
      rows = R;
      stages = 4;
      words = 200;
      memory = usual_memory;
      turns = map call calls;
      answers = done ∷ answers;
    }

abbrev pub usual : List Call → List Answer → Example
usual = sized 1 4

unfoldable pub examples : List Example
examples =
    -- Document 000's Table 1: position 0 stores 120 at 100, 1 stores 50 at 120, 2 loads 100, 3 loads the address that 2 gave.
    -- In order 2, 1, 3, 0: loads take 140 and 0, then squash from 2. Commit two, issue two, and they take 120 and 50.
    usual
    (issue ∷ issue ∷ issue ∷ issue
    ∷ execute_load (τ 2 2) 100 ∷ execute_store (τ 1 1) 120 50 ∷ execute_load (τ 3 3) 140 ∷ execute_store (τ 0 0) 100 120
    ∷ commit ∷ commit ∷ issue ∷ issue
    ∷ execute_load (τ 2 4) 100 ∷ execute_load (τ 3 5) 120 ∷ [])
    (named (τ 0 0) ∷ named (τ 1 1) ∷ named (τ 2 2) ∷ named (τ 3 3)
    ∷ executed 140 0 none ∷ executed 0 0 none ∷ executed 0 0 none ∷ executed 0 0 (some (τ 2 2))
    ∷ named (τ 0 0) ∷ named (τ 1 1) ∷ named (τ 2 4) ∷ named (τ 3 5)
    ∷ executed 120 0 none ∷ executed 50 0 none ∷ [])
    -- Position 0 stores 7 at 5, then 1 loads 5: takes 7.
    ∷ usual
    (issue ∷ issue ∷ execute_store (τ 0 0) 5 7 ∷ execute_load (τ 1 1) 5 ∷ [])
    (named (τ 0 0) ∷ named (τ 1 1) ∷ executed 0 0 none ∷ executed 7 1 none ∷ [])
    -- Position 1 stores 7 at 5, then 0 loads 5: takes 0, no squash.
    ∷ usual
    (issue ∷ issue ∷ execute_store (τ 1 1) 5 7 ∷ execute_load (τ 0 0) 5 ∷ [])
    (named (τ 0 0) ∷ named (τ 1 1) ∷ executed 0 0 none ∷ executed 0 0 none ∷ [])
    -- 0 and 1 store 7 at 5, 2 loads 5; order 1, 2, 0: no squash.
    ∷ usual
    (issue ∷ issue ∷ issue
    ∷ execute_store (τ 1 1) 5 7 ∷ execute_load (τ 2 2) 5 ∷ execute_store (τ 0 0) 5 7 ∷ [])
    (named (τ 0 0) ∷ named (τ 1 1) ∷ named (τ 2 2)
    ∷ executed 0 0 none ∷ executed 7 1 none ∷ executed 0 0 none ∷ [])
    -- Order 2, 0: squash from 2.
    ∷ usual
    (issue ∷ issue ∷ issue ∷ execute_load (τ 2 2) 5 ∷ execute_store (τ 0 0) 5 7 ∷ [])
    (named (τ 0 0) ∷ named (τ 1 1) ∷ named (τ 2 2) ∷ executed 0 0 none ∷ executed 0 0 (some (τ 2 2)) ∷ [])
    -- R 1: 1 loads 5, then 0 loads 6: squash from 1.
    ∷ sized 1 1
    (issue ∷ issue ∷ execute_load (τ 1 1) 5 ∷ execute_load (τ 0 0) 6 ∷ [])
    (named (τ 0 0) ∷ named (τ 1 1) ∷ executed 0 0 none ∷ executed 0 0 (some (τ 1 1)) ∷ [])
    -- R 1: 0 loads 5, then 1 loads 6: refusal 10.
    ∷ sized 1 1
    (issue ∷ issue ∷ execute_load (τ 0 0) 5 ∷ execute_load (τ 1 1) 6 ∷ [])
    (named (τ 0 0) ∷ named (τ 1 1) ∷ executed 0 0 none ∷ refused 10 ∷ [])
    -- R 2: 1 loads 5, 3 loads 7, then 0 loads 6: squash from 3; 1 stays (it commits without executing again).
    ∷ sized 1 2
    (issue ∷ issue ∷ issue ∷ issue
    ∷ execute_load (τ 1 1) 5 ∷ execute_load (τ 3 3) 7 ∷ execute_load (τ 0 0) 6
    ∷ commit ∷ commit ∷ [])
    (named (τ 0 0) ∷ named (τ 1 1) ∷ named (τ 2 2) ∷ named (τ 3 3)
    ∷ executed 0 0 none ∷ executed 0 0 none ∷ executed 0 0 (some (τ 3 3))
    ∷ named (τ 0 0) ∷ named (τ 1 1) ∷ [])
    -- A load of 199 commits.
    ∷ usual
    (issue ∷ execute_load (τ 0 0) 199 ∷ commit ∷ [])
    (named (τ 0 0) ∷ executed 0 0 none ∷ named (τ 0 0) ∷ [])
    -- A load of 200 takes 0 and its commit is refusal 13.
    ∷ usual
    (issue ∷ execute_load (τ 0 0) 200 ∷ commit ∷ [])
    (named (τ 0 0) ∷ executed 0 0 none ∷ refused 13 ∷ [])
    -- Four issues pass, the fifth is refusal 5.
    ∷ usual
    (issue ∷ issue ∷ issue ∷ issue ∷ issue ∷ [])
    (named (τ 0 0) ∷ named (τ 1 1) ∷ named (τ 2 2) ∷ named (τ 3 3) ∷ refused 5 ∷ [])
    -- A squashed ticket after the stage was issued again: refusal 7.
    ∷ usual
    (issue ∷ squash (τ 0 0) ∷ issue ∷ execute_load (τ 0 0) 5 ∷ squash (τ 0 0) ∷ [])
    (named (τ 0 0) ∷ done ∷ named (τ 0 1) ∷ refused 7 ∷ refused 7 ∷ [])
    -- Commit two, issue two; a store at position 1 forwards to position 2 across the last stage.
    ∷ usual
    (issue ∷ issue ∷ issue ∷ issue
    ∷ execute_other (τ 0 0) ∷ execute_other (τ 1 1) ∷ commit ∷ commit ∷ issue ∷ issue
    ∷ execute_store (τ 3 3) 5 7 ∷ execute_load (τ 0 4) 5 ∷ [])
    (named (τ 0 0) ∷ named (τ 1 1) ∷ named (τ 2 2) ∷ named (τ 3 3)
    ∷ executed 0 0 none ∷ executed 0 0 none ∷ named (τ 0 0) ∷ named (τ 1 1) ∷ named (τ 0 4) ∷ named (τ 1 5)
    ∷ executed 0 0 none ∷ executed 7 1 none ∷ [])
    -- Not starred in 01, from here on.

    -- An execution without memory answers 0, whatever it computed.
    ∷ usual (issue ∷ execute (τ 0 0) (Compute 9) ∷ []) (named (τ 0 0) ∷ executed 0 0 none ∷ [])
    -- A store of the word that the load took squashes nothing.
    ∷ usual
    (issue ∷ issue ∷ execute_load (τ 1 1) 100 ∷ execute_store (τ 0 0) 100 140 ∷ [])
    (named (τ 0 0) ∷ named (τ 1 1) ∷ executed 140 0 none ∷ executed 0 0 none ∷ [])
    -- A store at W forwards to a load there; its commit is refusal 13.
    ∷ usual
    (issue ∷ issue ∷ execute_store (τ 0 0) 200 7 ∷ execute_load (τ 1 1) 200 ∷ commit ∷ [])
    (named (τ 0 0) ∷ named (τ 1 1) ∷ executed 0 0 none ∷ executed 7 1 none ∷ refused 13 ∷ [])
    -- A load at W went before an older store there: squash from the load.
    ∷ usual
    (issue ∷ issue ∷ execute_load (τ 1 1) 200 ∷ execute_store (τ 0 0) 200 7 ∷ [])
    (named (τ 0 0) ∷ named (τ 1 1) ∷ executed 0 0 none ∷ executed 0 0 (some (τ 1 1)) ∷ [])
    -- Commit two, issue two; a squash from position 1 also drops positions 2 and 3, past the last stage.
    ∷ usual
    (issue ∷ issue ∷ issue ∷ issue
    ∷ execute_other (τ 0 0) ∷ execute_other (τ 1 1) ∷ commit ∷ commit ∷ issue ∷ issue
    ∷ squash (τ 3 3) ∷ execute_other (τ 0 4) ∷ execute_other (τ 1 5) ∷ [])
    (named (τ 0 0) ∷ named (τ 1 1) ∷ named (τ 2 2) ∷ named (τ 3 3)
    ∷ executed 0 0 none ∷ executed 0 0 none ∷ named (τ 0 0) ∷ named (τ 1 1) ∷ named (τ 0 4) ∷ named (τ 1 5)
    ∷ done ∷ refused 7 ∷ refused 7 ∷ [])
    -- R 1: 0 and 2 load 5, then 1 loads 6: refusal 10, for the row holds one older mark.
    ∷ sized 1 1
    (issue ∷ issue ∷ issue ∷ execute_load (τ 0 0) 5 ∷ execute_load (τ 2 2) 5 ∷ execute_load (τ 1 1) 6 ∷ [])
    (named (τ 0 0) ∷ named (τ 1 1) ∷ named (τ 2 2) ∷ executed 0 0 none ∷ executed 0 0 none ∷ refused 10 ∷ [])
    -- B 2, R 1: 0 loads 5, then 1 loads 6: in the other bank a row is free.
    ∷ sized 2 1
    (issue ∷ issue ∷ execute_load (τ 0 0) 5 ∷ execute_load (τ 1 1) 6 ∷ [])
    (named (τ 0 0) ∷ named (τ 1 1) ∷ executed 0 0 none ∷ executed 0 0 none ∷ [])
    ∷ []
