-- A finish as the single calls that it repeats. proofs/Unrolled.antt shows that every list of calls comes to what its single
-- calls come to.
-- Assumes nothing.
use Rattle.std.specs.Prelude.{cond, ◌||◌, List, [], ◌∷◌, ◌++◌, ℕ, zero, suc, ◌-◌, eqb, ltb, length}
use Rattle.engine.specs.Conditions.{refusal}
use Rattle.machine_model.specs.Over.{Engine, Call, issue, execute, squash, commit, finish, per_commit, program_done, finish_checks}
use Rattle.sequential.specs.Play.{Played, plays, play, needed}

-- none of these calls is a finish
abbrev pub Single : Call → Type 0
Single issue = Unit {0}
Single (execute p) = Unit {0}
Single (squash p) = Unit {0}
Single commit = Unit {0}
Single (finish k list) = ⊥

abbrev pub Singles : List Call → Type 0
Singles [] = Unit {0}
Singles (c ∷ cs) = Single c × Singles cs

module _ {O S : Type 0} (E : Engine O S) (program : List ℕ) where
  -- The calls that a finish repeats with limit k and so many places: those that commit the next instruction, as long as they do.
  unfoldable pub repeated : ℕ → ℕ → Played S → List Call
  repeated zero places x = []
  repeated (suc k) places x =
      let calls = needed program x.state in
      let y = play E program x calls in
      cond (ltb places per_commit || program_done x.state) []
      (calls ++ cond (eqb y.commits x.commits) [] (repeated k (places - per_commit) y))

  -- a finish stands for the calls that it repeats, a refused one for none, and any other call for itself
  abbrev pub stands_for : Played S → Call → List Call
  stands_for x issue = issue ∷ []
  stands_for x (execute p) = execute p ∷ []
  stands_for x (squash p) = squash p ∷ []
  stands_for x commit = commit ∷ []
  stands_for x (finish k list) =
      cond (eqb (refusal (finish_checks E program x.state x.memory)) 0) (repeated k (length list) x) []

  unfoldable pub unrolled : Played S → List Call → List Call
  unrolled x [] = []
  unrolled x (c ∷ cs) = stands_for x c ++ unrolled (plays E program x c) cs
