-- What a finish commits (FinishTruth), of the play and of the calls. A turn of a finish makes the oldest ready by an issue and
-- an execution, which record nothing, and commits it: that is the play of the calls that are needed next (play_next). So by
-- the record theorem the turn commits where the run has a step left and stops where it has none, and what a finish commits
-- are the run's steps, counted up to its limit and its list (finish_counts). Assumes nothing.
use mathlib.Core.Path.{◌≡◌, refl, sym, subst, ap, ap₂, ◌∙◌}
use mathlib.Core.Bool.{Bool, true, false, cond, ◌||◌, and-eq-true_iff}
use mathlib.Core.List.{List, [], ◌∷◌, append-nil}
use Prim.Native.Nat.{ℕ, zero, suc, ◌+◌, ◌-◌, ◌/◌, ◌<◌, min}
use native.Mathlib.Nat.{add-zero}
use native.Mathlib.Omega.{arith}
use lib.Dec.{eqb, leb, ltb}
use lib.ListN.{length}
use borrow.Author.Tests.{eqb-true, leb-true, le-leb, ltb-true, ltb-false, ne_eqb}
use Rattle.engine.specs.Contract.{refused, named, executed, done, committed, finished}
use Rattle.engine.specs.Conditions.{refusal}
use Rattle.engine.proofs.Meeting.{judged_accepted}
use Rattle.machine_model.specs.declared.Entry.{Entry}
use Rattle.machine_model.specs.Program.{per_instruction}
use Rattle.machine_model.specs.Window.{entry_at, pending}
use Rattle.machine_model.specs.Over
use Rattle.machine_model.specs.Over.{Engine, Realization, Plain, Drain, Result, Call, issue, execute, commit, finish, Answer}
use Rattle.machine_model.specs.Over.{program_done, per_commit, continue_on, drain_stopped, Meets, Opens}
use Rattle.sequential.specs.Sequential.{Run, run_after, ends, step}
use Rattle.sequential.specs.Play.{commits_in, Played, plays, play}
use Rattle.theorem.specs.Truth.{run, next}
use Rattle.theorem.specs.Life.{Life}
use Rattle.theorem.specs.Finish.{steps_left, FinishTruth}
use Rattle.sequential.proofs.Core.{head_index}
use Rattle.sequential.proofs.Owing.{Owes}
use Rattle.sequential.proofs.Links.{lent_passes}
use Rattle.sequential.proofs.Finishing.{either, Quiet, issue_quiet, execute_quiet}
use Rattle.theorem.proofs.Record.{Held, held_play, none_play, needed_next, after, held_after}
use Rattle.theorem.proofs.Closing.{done_opens, from_opening, there, holds_there}

-- x with another state
abbrev moved : {S : Type 0} → Played S → Plain S → Played S
moved x X = record { state = X; memory = x.memory; record' = x.record'; commits = x.commits }

module _ {O S : Type 0} (E : Engine O S) (program : List ℕ) where
  quiet_plays : (x : Played S) (c : Call) → Quiet x.memory (Over.respond E program c x.state x.memory)
      → plays E program x c ≡ moved x (Over.respond E program c x.state x.memory).state
  quiet_plays x c q =
      rw (q.keeps, q.nothing, q.uncounted, append-nil x.record', add-zero x.commits)

  -- where nothing is live, what an issue leaves waits, also where it was refused
  issued_waits : (X : Plain S) (memory : List ℕ) → X.entries ≡ []
      → pending (entry_at (Over.issue_result E program X memory).state.entries 0).fate ≡ true
  issued_waits X memory q =
      either (λ (r : Result S). pending (entry_at r.state.entries 0).fate ≡ true) (eqb (refusal (Over.issue_checks E program X)) 0)
      (rw q) (rw q)

  -- the calls that are needed next commit the oldest as a finish makes it ready
  pub play_next : (x : Played S) → play E program x (next program x) ≡ plays E program (moved x (Over.ready E program x.state x.memory)) commit
  unfolding play Over.respond
  play_next x = go x.state.entries refl
    where
      X : Plain S
      X = x.state

      w : List ℕ
      w = x.memory

      executed_first : Plain S → Plain S
      executed_first Y = cond (pending (entry_at Y.entries 0).fate) (Over.executions E program Y w 0).state Y

      committing : Plain S → Played S
      committing Y = plays E program (moved x Y) commit

      go : (es : List Entry) → X.entries ≡ es → play E program x (next program x) ≡ committing (Over.ready E program X w)
      go [] q =
          let Y = (Over.issue_result E program X w).state in
          let calls : next program x ≡ issue ∷ execute 0 ∷ commit ∷ [] = rw q in
          let begins : Over.begun E program X w ≡ Y = rw q in
          ap (play E program x) calls
          ∙ ap (λ z. plays E program (plays E program z (execute 0)) commit) (quiet_plays x issue (issue_quiet E program X w))
          ∙ ap (λ z. plays E program z commit) (quiet_plays (moved x Y) (execute 0) (execute_quiet E program Y w 0))
          ∙ ap (λ t. committing (cond t (Over.executions E program Y w 0).state Y)) (sym (issued_waits X w q))
          ∙ ap (λ Z. committing (executed_first Z)) (sym begins)
      go (e ∷ es) q = oldest (pending (entry_at X.entries 0).fate) refl
        where
          live : eqb (length X.entries) 0 ≡ false
          live = ap (λ l. eqb (length l) 0) q ∙ ne_eqb (suc (length es)) 0 (λ z. omega arith)

          same : executed_first X ≡ Over.ready E program X w
          same = ap (λ t. executed_first (cond t (Over.issue_result E program X w).state X)) (sym live)

          oldest : (t : Bool) → pending (entry_at X.entries 0).fate ≡ t
              → play E program x (next program x) ≡ committing (Over.ready E program X w)
          oldest t v =
              ap₂
              (λ a b.
              play E program x (cond a (issue ∷ execute 0 ∷ commit ∷ []) (cond b (execute 0 ∷ commit ∷ []) (commit ∷ []))))
              live v
              ∙ readied t
              ∙ ap (λ b. committing (cond b (Over.executions E program X w 0).state X)) (sym v)
              ∙ ap committing same
            where
              readied : (t : Bool)
                  → play E program x (cond t (execute 0 ∷ commit ∷ []) (commit ∷ []))
                  ≡ committing (cond t (Over.executions E program X w 0).state X)
              readied true = ap (λ z. plays E program z commit) (quiet_plays x (execute 0) (execute_quiet E program X w 0))
              readied false = refl

-- what a commit answers: its numbers, or a refusal
abbrev OfCommit : Answer → Type 0
OfCommit (refused k) = Unit {0}
OfCommit (named p) = ⊥
OfCommit (executed v d s) = ⊥
OfCommit done = ⊥
OfCommit (committed i c r v d) = Unit {0}
OfCommit (finished n) = ⊥

commit_answers : {O S : Type 0} (E : Engine O S) (program : List ℕ) (X : Plain S) (memory : List ℕ)
    → OfCommit (Over.commits E program X memory).answer
commit_answers {S = S} E program X memory =
    either (λ (r : Result S). OfCommit r.answer) (eqb (refusal (Over.commit_checks E program X memory)) 0) tt tt

-- a turn of a finish goes on where its commit was one, else it stops
goes_one : {S : Type 0} (a : Answer) (here rest : Drain S) → OfCommit a → commits_in a ≡ 1 → (continue_on a here rest).commits ≡ suc rest.commits
goes_one (refused k) here rest o e = absurd (omega arith)
goes_one (named p) here rest o e = absurd o
goes_one (executed v d s) here rest o e = absurd o
goes_one done here rest o e = absurd o
goes_one (committed i c r v d) here rest o e = refl
goes_one (finished n) here rest o e = absurd o

stops_none : {S : Type 0} (a : Answer) (here rest : Drain S) → OfCommit a → commits_in a ≡ 0 → continue_on a here rest ≡ here
stops_none (refused k) here rest o e = refl
stops_none (named p) here rest o e = absurd o
stops_none (executed v d s) here rest o e = absurd o
stops_none done here rest o e = absurd o
stops_none (committed i c r v d) here rest o e = absurd (omega arith)
stops_none (finished n) here rest o e = absurd o

-- ---- the run's steps

none_left : (program : List ℕ) (r : Run) (m : ℕ) → ends program r ≡ true → steps_left program r m ≡ 0
unfolding steps_left
none_left program r zero e = refl
none_left program r (suc m) e = rw e

one_left : (program : List ℕ) (r : Run) (m : ℕ) → ends program r ≡ false
    → steps_left program r (suc m) ≡ suc (steps_left program (step program r) m)
unfolding steps_left
one_left program r m e = rw e

-- where fewer steps than asked for are left, the run ends after them
left_ends : (program memory : List ℕ) (m c : ℕ) → steps_left program (run_after program memory c) m < m
    → ends program (run_after program memory (c + steps_left program (run_after program memory c) m)) ≡ true
unfolding run_after
left_ends program memory zero c h = absurd (omega arith)
left_ends program memory (suc m) c h =
    go (ends program (run_after program memory c)) refl (left_ends program memory m (suc c))
  where
    r : Run
    r = run_after program memory c

    rest : ℕ
    rest = steps_left program (step program r) m

    go : (t : Bool) → ends program r ≡ t → (rest < m → ends program (run_after program memory (suc c + rest)) ≡ true)
        → ends program (run_after program memory (c + steps_left program r (suc m))) ≡ true
    go true e later = rw (none_left program r (suc m) e, add-zero c) e
    go false e later =
        let one = one_left program r m e in
        let at : suc c + rest ≡ c + steps_left program r (suc m) = omega (arith, one) in
        subst (λ (j : ℕ). ends program (run_after program memory j) ≡ true) at (later (omega (arith, one)))

module _ {O S : Type 0} {E : Engine O S} (owes : Owes E) (program memory : List ℕ) where
  -- at the end of the program the run has ended
  done_ends : (x : Played S) → Held owes program memory x → program_done x.state ≡ true → ends program (run program memory x) ≡ true
  done_ends x h d = go x.state.entries refl
    where
      X : Plain S
      X = x.state

      parts : (eqb (length X.entries) 0 ≡ true) × (leb X.count X.next ≡ true)
      parts = (and-eq-true_iff (eqb (length X.entries) 0) (leb X.count X.next)).0 d

      go : (es : List Entry) → X.entries ≡ es → ends program (run program memory x) ≡ true
      go [] q =
          let index : X.next ≡ (run program memory x).index =
          ap (λ (l : List Entry). head_index l X.next) (sym q) ∙ h.kept.index in
          let over : leb (length program / per_instruction) (run program memory x).index ≡ true =
          le-leb (length program / per_instruction) (run program memory x).index
          (omega (arith, h.linked.counted, leb-true X.count X.next parts.1)) in
          rw over
      go (e ∷ es) q = absurd (omega (arith, ap length q, eqb-true (length X.entries) 0 parts.0))

  -- a turn of a finish, and what comes after it: the run's next step, and its further ones
  turn_counts : (k places : ℕ) (x : Played S) → Held owes program memory x
      → ((z : Played S) → Held owes program memory z → (Over.finishes E program k (places - per_commit) z.state z.memory).commits
      ≡ steps_left program (run program memory z) (min k ((places - per_commit) / per_commit)))
      → (Over.finishes E program (suc k) places x.state x.memory).commits
      ≡ steps_left program (run program memory x) (min (suc k) (places / per_commit))
  unfolding Over.finishes Over.respond run_after steps_left
  turn_counts k places x h later = go (ltb places per_commit) (program_done X) refl refl
    where
      X : Plain S
      X = x.state

      Y : Plain S
      Y = Over.ready E program X x.memory

      r : Result S
      r = Over.commits E program Y x.memory

      z : Played S
      z = plays E program (moved x Y) commit

      now : Run
      now = run program memory x

      turned : Drain S
      turned =
          continue_on r.answer (drain_stopped Y x.memory) (Over.finishes E program k (places - per_commit) r.state r.memory)

      played : (play E program x (next program x)).commits ≡ x.commits + commits_in r.answer
      played = ap (λ (y : Played S). y.commits) (play_next E program x)

      go : (s d : Bool) → ltb places per_commit ≡ s → program_done X ≡ d
          → (cond (s || d) (drain_stopped X x.memory) turned).commits ≡ steps_left program now (min (suc k) (places / per_commit))
      go true d p q =
          let none : 0 ≡ min (suc k) (places / per_commit) = omega (arith, ltb-true places per_commit p) in
          ap (steps_left program now) none
      go false true p q = sym (none_left program now (min (suc k) (places / per_commit)) (done_ends x h q))
      go false false p q = on (ends program now) refl
        where
          on : (t : Bool) → ends program now ≡ t → turned.commits ≡ steps_left program now (min (suc k) (places / per_commit))
          on true e =
              let nothing : commits_in r.answer ≡ 0 = omega (arith, played, none_play owes program memory x h e (next program x)) in
              ap (λ (w : Drain S). w.commits)
              (stops_none r.answer (drain_stopped Y x.memory) _ (commit_answers E program Y x.memory) nothing)
              ∙ sym (none_left program now (min (suc k) (places / per_commit)) e)
          on false e =
              let goes = (needed_next owes program memory x h e).2 in
              let held : Held owes program memory z = subst (Held owes program memory) (play_next E program x)
              (held_play owes program memory x h (next program x)) in
              let room : suc (min k ((places - per_commit) / per_commit)) ≡ min (suc k) (places / per_commit) =
              omega (arith, ltb-false places per_commit p) in
              let after : z.commits ≡ suc x.commits = omega (arith, played, goes) in
              goes_one r.answer (drain_stopped Y x.memory) _ (commit_answers E program Y x.memory)
              (omega (arith, played, goes))
              ∙ ap suc
              (later z held
              ∙ ap (λ (n : ℕ). steps_left program (run_after program memory n) (min k ((places - per_commit) / per_commit))) after)
              ∙ sym (one_left program now (min k ((places - per_commit) / per_commit)) e)
              ∙ ap (steps_left program now) room

  finish_counts : (k places : ℕ) (x : Played S) → Held owes program memory x
      → (Over.finishes E program k places x.state x.memory).commits
      ≡ steps_left program (run program memory x) (min k (places / per_commit))
  unfolding Over.finishes steps_left
  finish_counts zero places x h =
      let none : 0 ≡ min 0 (places / per_commit) = omega arith in
      ap (steps_left program (run program memory x)) none
  finish_counts (suc k) places x h = turn_counts k places x h (finish_counts k (places - per_commit))

  finish_truth : (x : Played S) → Held owes program memory x → (k : ℕ) (list : List ℕ)
      → FinishTruth program memory x.commits k list (Over.respond E program (finish k list) x.state x.memory).answer
  unfolding Over.respond
  finish_truth x h k list =
      let X = x.state in
      let left = steps_left program (run program memory x) (min k (length list / per_commit)) in
      let says : (Over.finishing E program X x.memory k list).answer ≡ finished left =
      ap (λ (r : Result S). r.answer)
      (judged_accepted (refusal (Over.finish_checks E program X x.memory)) X x.memory list _
      (lent_passes owes program X x.memory h.linked []))
      ∙ ap finished (finish_counts k (length list) x h) in
      record {
        commits_left = says;
        ended = λ n is less room.
            let count : left ≡ n = cc in
            subst (λ (j : ℕ). ends program (run_after program memory (x.commits + j)) ≡ true) count
            (left_ends program memory (min k (length list / per_commit)) x.commits (omega (arith, count)));
      }

-- ---- from an opening

-- of the play
pub finish_theorem : {O S : Type 0} {E : Engine O S} (owes : Owes E) (o : O) (program memory : List ℕ)
    → refusal (Over.open_checks E o program memory) ≡ 0
    → (calls : List Call) (k : ℕ) (list : List ℕ)
    → let x = after E o program memory calls in
    FinishTruth program memory x.commits k list (Over.respond E program (finish k list) x.state x.memory).answer
finish_theorem {E = E} owes o program memory opens calls =
    finish_truth owes program memory (after E o program memory calls) (held_after owes o program memory opens calls)

-- of the calls: a finish after any life of an opened program
pub calls_finish : {O S : Type 0} {E : Engine O S} (owes : Owes E) {R : Realization E} {o : O} {program w : List ℕ}
    {m : R.Machine} (opens : Opens R o program w done m) {cs : List Call} {answers : List Answer} {u : R.Machine}
    {v record' : List ℕ} {c : ℕ} (life : Life R program m w cs answers u v record' c) {k : ℕ} {list : List ℕ} {said : Answer}
    {x : R.Machine} {y kept : List ℕ}
    → Meets R program u (finish k list) v said x y kept
    → FinishTruth program w c k list said
calls_finish owes {o = o} {program = program} {w = w} opens {cs = cs} life {k = k} {list = list} meets =
    subst (FinishTruth program w _ k list) (sym (meets.answer (from_opening opens life).sound))
    (finish_truth owes program w (there opens life)
    (holds_there opens life (Held owes program w) (held_after owes o program w (done_opens opens) cs)) k list)
