-- The ticket theorem is about something: the fault that it rules out, on tables of two stages, each call as its contract says.
-- A reference is issued, executed and committed, so that the window begins at stage 1; the next takes stage 1, and a load, past
-- the last stage, stage 0. The load is squashed, and a store takes its stage. Then the load's execution arrives, and a squash
-- of it: whatever results meet their contracts, both answer 7 and leave table and memory (by the theorem), and the store
-- executes, commits and has its word in memory (word_lands). What each call comes to and that the tables keep the rules is
-- computed.
-- Assumes nothing.
use mathlib.Core.Path.{◌≡◌, refl, sym, ap, ap₂, subst, ◌∙◌}
use mathlib.Core.List.{List, [], ◌∷◌}
use mathlib.Core.Option.{none}
use Prim.Native.Nat.{ℕ, ◌-◌}
use native.Mathlib.Omega.{arith}
use lib.ListN.{replicate}
use Rattle.marks.specs.Circle.{firsts}
use Rattle.marks.specs.Counting.{every, count, last}
use Rattle.table.specs.declared.Table.{Table}
use Rattle.table.specs.Bank.{home, bank}
use Rattle.table.specs.Limits.{stages_most, slots, sizes_fit}
use Rattle.table.specs.Reference.{State}
use Rattle.table.specs.Rules.{Rules}
use Rattle.table.specs.View.{tabulate, mark_fate, view}
use Rattle.table.specs.Computed.Check.{marks_below, row_fits, lawful_by}
use Rattle.table.proofs.Lawful.{lawful_rules}
use Rattle.lookup.specs.Forwarding.{seen, distance}
use Rattle.lookup.specs.Violation.{kept_younger}
use Rattle.lookup.specs.Rows.{touched}
use Rattle.engine.specs.Contract.{refused, done, named, executed}
use Rattle.engine.specs.Opening.{fresh}
use Rattle.buffer_model.specs.Answers.{Answer}
use Rattle.buffer_model.specs.Calls.{Call, issue, execute_load, execute_store, execute_other, squash, commit}
use Rattle.buffer_model.specs.Calls.{accepted_result, refusal_of, respond}
use Rattle.buffer_model.specs.Contract.{Meets, Opens}
use Rattle.buffer_model.specs.Examples.{τ}
use Rattle.buffer_model.specs.Life.{Event, event, TableLife, born, lived, issues_in, followed, Uses, to_execute}
use Rattle.buffer_model.specs.Life.{to_squash}
use Rattle.buffer_model.specs.Tickets.{TicketTruth}
use Rattle.buffer_model.proofs.MeetingContract.{accepted_meets}
use Rattle.buffer_model.proofs.Opening.{opens_done}
use Rattle.buffer_model.proofs.Tickets.{ticket_theorem}

-- all that calls compute with: to unfold this is to unfold them
unfoldable computing : Unit {0}
unfolding respond tabulate mark_fate seen distance kept_younger touched count last home bank
computing = tt

-- a table of one bank of a row without marks, of two stages with these issue numbers, and of two words
abbrev table : ℕ → ℕ → ℕ → ℕ → ℕ → ℕ → Table
table oldest live next ran number₀ number₁ =
    record {
      banks = 1;
      rows = 1;
      stages = 2;
      words = 2;
      oldest = oldest;
      live = live;
      next = next;
      executed = ran;
      numbers = number₀ ∷ number₁ ∷ replicate (stages_most - 2) 0;
      addresses = replicate slots 0;
      loads = replicate slots 0;
      stores = replicate slots 0;
      values = replicate stages_most 0;
      taken = replicate stages_most 0;
    }

abbrev memory : List ℕ
memory = 7 ∷ 8 ∷ []

-- opened; a reference issued, executed and committed; the next issued;
abbrev t₀ : Table
t₀ = fresh 1 1 2 2

abbrev t₁ : Table
t₁ = table 0 1 1 0 0 0

abbrev t₂ : Table
t₂ = table 0 1 1 1 0 0

abbrev t₃ : Table
t₃ = table 1 0 1 0 0 0

abbrev t₄ : Table
t₄ = table 1 1 2 0 0 1

-- the load issued, and squashed; the store issued
abbrev t₅ : Table
t₅ = table 1 2 3 0 2 1

abbrev t₆ : Table
t₆ = table 1 1 3 0 2 1

abbrev t₇ : Table
t₇ = table 1 2 4 0 3 1

rules : Rules t₀ × Rules t₁ × Rules t₂ × Rules t₃ × Rules t₄ × Rules t₅ × Rules t₆ × Rules t₇
unfolding lawful_by row_fits marks_below every firsts sizes_fit home bank
rules = (
  lawful_rules t₀ refl,
  lawful_rules t₁ refl,
  lawful_rules t₂ refl,
  lawful_rules t₃ refl,
  lawful_rules t₄ refl,
  lawful_rules t₅ refl,
  lawful_rules t₆ refl,
  lawful_rules t₇ refl,
)

-- an accepted call between tables that keep the rules meets its contract where the second has the state that the definition
-- gives
accepted : (t u : Table) (c : Call) → Rules t → Rules u → refusal_of c (view t) memory ≡ 0
    → let r = accepted_result c (view t) memory in
    view u ≡ r.state → memory ≡ r.memory → [] ≡ r.list → Meets t c memory r.answer u memory
accepted t u c before after fine state words list =
    accepted_meets t c memory before fine (accepted_result c (view t) memory).answer u memory refl state words list after

opens : Opens 1 1 2 2 memory done t₀
unfolding sizes_fit
opens = opens_done 1 1 2 2 memory refl refl

-- up to the load's issue, and from it on
earlier : TableLife t₀
    (event issue (named (τ 1 1)) 1 ∷ event commit (named (τ 0 0)) 0 ∷ event (execute_other (τ 0 0)) (executed 0 0 none) 1
    ∷ event issue (named (τ 0 0)) 1
    ∷ [])
    t₄
unfolding computing
earlier =
    lived
    (lived
    (lived (lived born (accepted t₀ t₁ issue rules.0 rules.1 refl refl refl refl))
    (accepted t₁ t₂ (execute_other (τ 0 0)) rules.1 rules.2 refl refl refl refl))
    (accepted t₂ t₃ commit rules.2 rules.3 refl refl refl refl))
    (accepted t₃ t₄ issue rules.3 rules.4 refl refl refl refl)

start : Meets t₄ issue memory (named (τ 0 2)) t₅ memory
unfolding computing
start = accepted t₄ t₅ issue rules.4 rules.5 refl refl refl refl

abbrev later : List Event
later = event issue (named (τ 0 3)) 2 ∷ event (squash (τ 0 2)) done 1 ∷ []

life : TableLife t₅ later t₇
unfolding computing
life =
    lived (lived born (accepted t₅ t₆ (squash (τ 0 2)) rules.5 rules.6 refl refl refl refl))
    (accepted t₆ t₇ issue rules.6 rules.7 refl refl refl refl)

-- what a call that meets its contract comes to, where the table's view and the memory are known
comes : {t u : Table} {m v n : List ℕ} {said : Answer} {P : State} (c : Call) → Rules t × (view t ≡ P) × (m ≡ n)
    → Meets t c m said u v → Rules u × (view u ≡ (respond c P n).state) × (v ≡ (respond c P n).memory)
comes c now meets = (
  meets.lawful now.0,
  meets.state now.0 ∙ ap₂ (λ (P : State) (m : List ℕ). (respond c P m).state) now.1 now.2,
  meets.memory now.0 ∙ ap₂ (λ (P : State) (m : List ℕ). (respond c P m).memory) now.1 now.2,
)

module _ {x y : Table} {m₁ m₂ : List ℕ} {said₁ said₂ : Answer}
    (late-execute : Meets t₇ (execute_load (τ 0 2) 1) memory said₁ x m₁)
    (late-squash : Meets x (squash (τ 0 2)) m₁ said₂ y m₂) where
  -- the dead load's execution and squash are refused with 7, and hand back table and memory as they were
  pub late_refused : (said₁ ≡ refused 7) × (x ≡ t₇) × (m₁ ≡ memory) × (said₂ ≡ refused 7) × (y ≡ x) × (m₂ ≡ m₁)
  unfolding computing followed issues_in
  late_refused =
      let first : TicketTruth (τ 0 2) 1 later t₇ = ticket_theorem opens earlier start life in
      let second = ticket_theorem opens earlier start (lived {c = execute_load (τ 0 2) 1} life late-execute) in
      let execution : Uses (τ 0 2) (execute_load (τ 0 2) 1) = to_execute in
      let one = first.stale refl (omega arith) execution late-execute in
      let two = second.stale refl (omega arith) to_squash late-squash in
      (one.0, one.1, one.2, two.0, two.1, two.2)

  -- then the store and the reference before it execute and commit, and the store's word is in memory
  pub word_lands : {a b c d : Table} {m₃ m₄ m₅ m₆ : List ℕ} {said₃ said₄ said₅ said₆ : Answer}
      → Meets y (execute_store (τ 0 3) 1 9) m₂ said₃ a m₃ → Meets a (execute_other (τ 1 1)) m₃ said₄ b m₄
      → Meets b commit m₄ said₅ c m₅ → Meets c commit m₅ said₆ d m₆ → m₆ ≡ 7 ∷ 9 ∷ []
  unfolding computing
  word_lands stores executes commits lands =
      let same = late_refused in
      let here : y ≡ t₇ = same.4 ∙ same.1 in
      let now = comes (execute_store (τ 0 3) 1 9) (subst Rules (sym here) rules.7, ap view here, same.5 ∙ same.2) stores in
      (comes commit (comes commit (comes (execute_other (τ 1 1)) now executes) commits) lands).2
