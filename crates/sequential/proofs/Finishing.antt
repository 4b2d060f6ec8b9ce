-- A finish of a machine over any engine, and so every call, is some steps of the window. The oldest is made ready by an issue and an execution, refused or
-- not: both leave memory and commit nothing, so what they reach is reached with the same record. Then it is committed. Only
-- the answer with a commit's numbers goes on, after any other the finish stops. So its numbers are per_commit a commit, and the
-- start of its list, as long as its answer tells, is those numbers.
-- Assumes nothing.
use mathlib.Core.Path.{◌≡◌, refl, sym, subst}
use mathlib.Core.Bool.{Bool, true, false, cond, ◌||◌}
use mathlib.Core.List.{List, [], ◌∷◌, ◌++◌, append-nil, append_assoc}
use Prim.Native.Nat.{ℕ, zero, suc, ◌+◌, ◌-◌, ◌*◌}
use native.Mathlib.Nat.{add-zero}
use native.Mathlib.Omega.{arith}
use lib.Dec.{eqb, ltb}
use lib.ListN.{length, drop}
use lib.Seq.{take_at}
use Rattle.engine.specs.Contract.{refused, named, executed, done, committed, finished}
use Rattle.engine.specs.Conditions.{refusal}
use Rattle.machine_model.specs.Window.{entry_at, pending}
use Rattle.machine_model.specs.Over
use Rattle.machine_model.specs.Over.{Engine, Plain, Drain, Result, Call, issue, execute, squash, commit, finish, Answer, per_commit}
use Rattle.machine_model.specs.Over.{program_done, continue_on, drain_stopped}
use Rattle.sequential.specs.Play.{recorded, commits_in}
use Rattle.sequential.proofs.Owing.{Owes, Linked}
use Rattle.sequential.proofs.Links.{core_of, Steps, stays, steps_join, Links, steps_quiet}
use Rattle.sequential.proofs.Linking.{issue_links, execute_links, squash_links, commit_links}

-- what holds of both ways of a choice holds of the chosen one
pub either : {A : Type 0} (P : A → Type 0) (t : Bool) {x y : A} → P x → P y → P (cond t x y)
either P true p q = p
either P false p q = q

-- the end of a way from X: its state is linked, and its numbers and commits are those of steps
record Goes {O S : Type 0} {E : Engine O S} (owes : Owes E) (program : List ℕ) (X : Plain S) (memory : List ℕ) (w : Drain S) : Type 0 where
  linked : Linked owes program w.state w.memory
  steps : (rec : List ℕ) (n : ℕ)
      → Steps program (core_of X memory rec n) (core_of w.state w.memory (rec ++ w.numbers) (n + w.commits))

-- Y is linked and reached from X by steps that record nothing
record Reaches {O S : Type 0} {E : Engine O S} (owes : Owes E) (program : List ℕ) (X Y : Plain S) (memory : List ℕ) : Type 0 where
  linked : Linked owes program Y memory
  steps : (rec : List ℕ) (n : ℕ) → Steps program (core_of X memory rec n) (core_of Y memory rec n)

-- a call that leaves memory and answers no commit
pub record Quiet {S : Type 0} (memory : List ℕ) (r : Result S) : Type 0 where
  pub keeps : r.memory ≡ memory
  pub nothing : recorded r.answer r.list ≡ []
  pub uncounted : commits_in r.answer ≡ 0

module _ {O S : Type 0} (E : Engine O S) where
  pub issue_quiet : (program : List ℕ) (X : Plain S) (memory : List ℕ) → Quiet memory (Over.issue_result E program X memory)
  issue_quiet program X memory =
      either (Quiet memory) (eqb (refusal (Over.issue_checks E program X)) 0) (record { keeps = refl; nothing = refl; uncounted = refl })
      (record { keeps = refl; nothing = refl; uncounted = refl })

  pub execute_quiet : (program : List ℕ) (X : Plain S) (memory : List ℕ) (p : ℕ) → Quiet memory (Over.executions E program X memory p)
  execute_quiet program X memory p =
      either (Quiet memory) (eqb (refusal (Over.execute_checks E program X memory p)) 0)
      (record { keeps = refl; nothing = refl; uncounted = refl })
      (record { keeps = refl; nothing = refl; uncounted = refl })

  -- its numbers are per_commit a commit
  abbrev Grows : Drain S → Type 0
  Grows w = length w.numbers ≡ w.commits * per_commit

  answer_grows : (a : Answer) (here rest : Drain S) → Grows here → Grows rest → Grows (continue_on a here rest)
  answer_grows (refused k) here rest h g = h
  answer_grows (named p) here rest h g = h
  answer_grows (executed v d s) here rest h g = h
  answer_grows done here rest h g = h
  answer_grows (committed i c r v d) here rest h g = omega (arith, g)
  answer_grows (finished n) here rest h g = h

  pub finishes_grow : (program : List ℕ) (k places : ℕ) (X : Plain S) (memory : List ℕ)
      → Grows (Over.finishes E program k places X memory)
  unfolding Over.finishes
  finishes_grow program zero places X memory = refl
  finishes_grow program (suc k) places X memory =
      let Y = Over.ready E program X memory in
      let r = Over.commits E program Y memory in
      either Grows (ltb places per_commit || program_done X) refl
      (answer_grows r.answer (drain_stopped Y memory) _ refl
      (finishes_grow program k (places - per_commit) r.state r.memory))

module _ {O S : Type 0} {E : Engine O S} (owes : Owes E) where
  goes_stopped : (program : List ℕ) (X : Plain S) (memory : List ℕ) → Linked owes program X memory
      → Goes owes program X memory (drain_stopped X memory)
  goes_stopped program X memory l =
      record { linked = l; steps = λ rec n. steps_quiet stays }

  reaches_self : (program : List ℕ) (X : Plain S) (memory : List ℕ) → Linked owes program X memory → Reaches owes program X X memory
  reaches_self program X memory l = record { linked = l; steps = λ rec n. stays }

  reaches_join : {program memory : List ℕ} {X Y Z : Plain S} → Reaches owes program X Y memory → Reaches owes program Y Z memory
      → Reaches owes program X Z memory
  reaches_join r s = record { linked = s.linked; steps = λ rec n. steps_join (r.steps rec n) (s.steps rec n) }

  quiet_reaches : (program : List ℕ) (X : Plain S) (memory : List ℕ) (r : Result S) → Quiet memory r → Links owes program X memory r
      → Reaches owes program X r.state memory
  quiet_reaches program X memory r q l =
      record {
        linked = rw q.keeps at l.linked;
        steps = λ rec n. rw (q.keeps, q.nothing, q.uncounted, append-nil, add-zero) at (l.steps rec n);
      }

  -- the oldest is issued where nothing is live, and executed where it waits
  begun_reaches : (program : List ℕ) (X : Plain S) (memory : List ℕ) → Linked owes program X memory
      → Reaches owes program X (Over.begun E program X memory) memory
  begun_reaches program X memory l =
      either (λ Y. Reaches owes program X Y memory) (eqb (length X.entries) 0)
      (quiet_reaches program X memory (Over.issue_result E program X memory) (issue_quiet E program X memory) (issue_links owes program X memory
      l))
      (reaches_self program X memory l)

  ready_reaches : (program : List ℕ) (X : Plain S) (memory : List ℕ) → Linked owes program X memory
      → Reaches owes program X (Over.ready E program X memory) memory
  ready_reaches program X memory l =
      let Y = Over.begun E program X memory in
      let b = begun_reaches program X memory l in
      either (λ Z. Reaches owes program X Z memory) (pending (entry_at Y.entries 0).fate)
      (reaches_join b
      (quiet_reaches program Y memory (Over.executions E program Y memory 0) (execute_quiet E program Y memory 0)
      (execute_links owes program Y memory b.linked 0)))
      b

  reaches_goes : {program memory : List ℕ} {X Y : Plain S} {w : Drain S} → Reaches owes program X Y memory → Goes owes program Y memory w
      → Goes owes program X memory w
  reaches_goes r g =
      record { linked = g.linked; steps = λ rec n. steps_join (r.steps rec n) (g.steps rec n) }

  -- the count of a way with one commit before it
  one_more : (n m : ℕ) → n + 1 + m ≡ n + suc m
  one_more n m = omega arith

  -- after a commit's answer: its numbers stand before those of the rest
  answer_goes : (program : List ℕ) (Y : Plain S) (memory : List ℕ) → Linked owes program Y memory → (a : Answer) (Z : Plain S)
      (words list : List ℕ)
      → Links owes program Y memory (record { answer = a; state = Z; memory = words; list = list })
      → (rest : Drain S)
      → Goes owes program Z words rest
      → Goes owes program Y memory (continue_on a (drain_stopped Y memory) rest)
  answer_goes program Y memory l (refused k) Z words list h rest g = goes_stopped program Y memory l
  answer_goes program Y memory l (named p) Z words list h rest g = goes_stopped program Y memory l
  answer_goes program Y memory l (executed v d s) Z words list h rest g = goes_stopped program Y memory l
  answer_goes program Y memory l done Z words list h rest g = goes_stopped program Y memory l
  answer_goes program Y memory l (committed i c r v d) Z words list h rest g =
      record {
        linked = g.linked;
        steps = λ rec n.
            steps_join (h.steps rec n)
            (rw (append_assoc rec (i ∷ c ∷ r ∷ v ∷ d ∷ []) rest.numbers, one_more n rest.commits) at
            (g.steps (rec ++ (i ∷ c ∷ r ∷ v ∷ d ∷ [])) (n + 1)));
      }
  answer_goes program Y memory l (finished n) Z words list h rest g = goes_stopped program Y memory l

  finishes_goes : (program : List ℕ) (k places : ℕ) (X : Plain S) (memory : List ℕ) → Linked owes program X memory
      → Goes owes program X memory (Over.finishes E program k places X memory)
  unfolding Over.finishes
  finishes_goes program zero places X memory l = goes_stopped program X memory l
  finishes_goes program (suc k) places X memory l =
      let Y = Over.ready E program X memory in
      let y = ready_reaches program X memory l in
      let r = Over.commits E program Y memory in
      let h = commit_links owes program Y memory y.linked in
      either (Goes owes program X memory) (ltb places per_commit || program_done X) (goes_stopped program X memory l)
      (reaches_goes y
      (answer_goes program Y memory y.linked r.answer r.state r.memory r.list h _
      (finishes_goes program k (places - per_commit) r.state r.memory h.linked)))

  pub finish_links : (program : List ℕ) (X : Plain S) (memory : List ℕ) → Linked owes program X memory → (k : ℕ) (list : List ℕ)
      → Links owes program X memory (Over.finishing E program X memory k list)
  finish_links program X memory l k list =
      let w = Over.finishes E program k (length list) X memory in
      let g = finishes_goes program k (length list) X memory l in
      either (Links owes program X memory) (eqb (refusal (Over.finish_checks E program X memory)) 0)
      (record {
        linked = g.linked;
        steps = λ rec n.
            subst
            (λ (l : List ℕ). Steps program (core_of X memory rec n) (core_of w.state w.memory (rec ++ l) (n + w.commits)))
            (sym
            (take_at w.numbers (drop (length w.numbers) list) (w.commits * per_commit)
            (finishes_grow E program k (length list) X memory)))
            (g.steps rec n);
      })
      (record { linked = l; steps = λ rec n. steps_quiet stays })

  pub respond_links : (program : List ℕ) (c : Call) (X : Plain S) (memory : List ℕ) → Linked owes program X memory
      → Links owes program X memory (Over.respond E program c X memory)
  unfolding Over.respond
  respond_links program issue X memory l = issue_links owes program X memory l
  respond_links program (execute p) X memory l = execute_links owes program X memory l p
  respond_links program (squash p) X memory l = squash_links owes program X memory l p
  respond_links program commit X memory l = commit_links owes program X memory l
  respond_links program (finish k list) X memory l = finish_links program X memory l k list
