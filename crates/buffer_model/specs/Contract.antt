-- What every call promises, for every table, ticket, address, value and memory.
-- Assumes nothing.
use Rattle.std.specs.Prelude.{◌≡◌, List, [], ℕ}
use Rattle.table.specs.declared.Table.{Table}
use Rattle.table.specs.View.{view}
use Rattle.table.specs.Rules.{Rules}
use Rattle.engine.specs.Conditions.{refusal}
use Rattle.engine.specs.Contract
use Rattle.engine.specs.Contract.{refused, done}
use Rattle.engine.specs.Opening.{opening, fresh}
use Rattle.buffer_model.specs.Answers.{Answer}
use Rattle.buffer_model.specs.Refusals.{open_checks}
use Rattle.buffer_model.specs.Calls.{Call, respond}

-- The call c on table t and memory m said `said` and handed back table u and memory v. Of an accepted call u may
-- be any table with this view that keeps the rules: the place of a row in its bank is free, and with it only what 01 and 02
-- leave out of the comparison of states (values without a store mark, words taken without a load mark, free rows, stages that
-- are not live; table's specs/Same.antt).
abbrev pub Meets : Table → Call → List ℕ → Answer → Table → List ℕ → Type 0
Meets t c m said u v = Contract.Meets Rules view t (respond c (view t) m) m [] said u v []

-- An opening with these sizes on memory m said `said` and handed back table u. A refused opening hands back a table without
-- stages, which breaks the rules, so that every call on it is refused with 2.
pub record Opens (banks rows stages words : ℕ) (m : List ℕ) (said : Answer) (u : Table) : Type 0 where
  pub refuses : (k : ℕ) → (k ≡ 0 → ⊥) → refusal (open_checks banks rows stages words m) ≡ k
      → (said ≡ refused k) × (u ≡ fresh 0 0 0 0)
  pub opens : refusal (open_checks banks rows stages words m) ≡ 0 → (said ≡ done) × (u ≡ fresh banks rows stages words)
  pub state : refusal (open_checks banks rows stages words m) ≡ 0 → Rules u × (view u ≡ opening banks rows stages words)
