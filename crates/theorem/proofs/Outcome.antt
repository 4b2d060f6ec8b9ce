-- ONE OUTCOME, and what else the record theorem comes to for whoever has only its statements (Truth, CallsTruth, FinishTruth).
--
-- Of one program and one memory at opening, as many commits have one outcome: the record without its distances, the committed
-- registers and the memory are the same, whatever calls led there, refused ones among them, in whatever order they executed, on
-- whatever sizes, and over whatever engines (one_outcome of the play, calls_outcome of the calls). Both sides are the run's after
-- that many steps. From openings of any two engines that owe what they must: engines_agree.
-- That number stands in the record, five numbers a commit (record_tells, calls_tell). What the calls that a machine needs add
-- to the record is what the run's next step records (calls_add). A finish is never refused, and commits at most its limit and
-- at most a fifth of its list (finish_within). One that answers fewer than its limit, with five places of its list left, was
-- the last: no further calls commit anything (finish_over).
-- Assumes nothing.
use mathlib.Core.Path.{◌≡◌, refl, sym, ap, ◌∙◌}
use mathlib.Core.Bool.{true, false}
use mathlib.Core.List.{List, ◌++◌}
use Prim.Native.Nat.{ℕ, zero, suc, ◌+◌, ◌*◌, ◌/◌, ◌≤◌, ◌<◌, min}
use native.Mathlib.Omega.{arith}
use lib.ListN.{length}
use Rattle.engine.specs.Contract.{done, finished}
use Rattle.engine.specs.Conditions.{refusal}
use Rattle.machine_model.specs.Over.{Engine, Realization, Call, finish, Answer, per_commit, open_checks, Meets, Opens}
use Rattle.sequential.specs.Sequential.{Run, run_after, ends, step}
use Rattle.sequential.specs.Play.{without, Played, needed}
use Rattle.theorem.specs.Life.{Life, lived}
use Rattle.theorem.specs.Truth.{Truth, CallsTruth}
use Rattle.theorem.specs.Finish.{steps_left, FinishTruth}
use Rattle.sequential.proofs.Distances.{without_append}
use Rattle.sequential.proofs.Owing.{Owes}
use Rattle.sequential.proofs.Finishing.{either}
use Rattle.theorem.proofs.Record.{after, record_theorem}
use Rattle.theorem.proofs.Closing.{calls_theorem}
use Rattle.theorem.proofs.Finished.{calls_finish}

-- what is on both sides the run's after as many steps is one
as_run : (program w : List ℕ) {A : Type 0} (of : Run → A) (j k : ℕ) {a b : A} → j ≡ k → a ≡ of (run_after program w j)
    → b ≡ of (run_after program w k) → a ≡ b
as_run program w of j k same p q = p ∙ ap (λ (n : ℕ). of (run_after program w n)) same ∙ sym q

-- numbers of five a commit tell how many commits they are of
five_each : (l : List ℕ) (k : ℕ) → length l ≡ k * per_commit → k ≡ length l / per_commit
five_each l k grows = omega arith

-- counted up to m, the run has at most m steps left
steps_within : (program : List ℕ) (m : ℕ) (r : Run) → steps_left program r m ≤ m
unfolding steps_left
steps_within program zero r = omega arith
steps_within program (suc m) r =
    either (λ (n : ℕ). n ≤ suc m) (ends program r) (omega arith) (omega (arith, steps_within program m (step program r)))

module _ {program w : List ℕ} where
  -- ---- of the play
  pub one_outcome : {O S P T : Type 0} {E : Engine O S} {F : Engine P T} {x : Played S} {y : Played T} → Truth E program w x
      → Truth F program w y
      → x.commits ≡ y.commits
      → (without x.record' ≡ without y.record') × (x.state.registers ≡ y.state.registers) × (x.memory ≡ y.memory)
  one_outcome {x = x} {y = y} t s same = (
    as_run program w (λ (r : Run). r.record') x.commits y.commits same t.record_is s.record_is,
    as_run program w (λ (r : Run). r.registers) x.commits y.commits same t.registers_are s.registers_are,
    as_run program w (λ (r : Run). r.memory) x.commits y.commits same t.memory_is s.memory_is,
  )

  pub record_tells : {O S : Type 0} {E : Engine O S} {x : Played S} → Truth E program w x → x.commits ≡ length x.record' / per_commit
  record_tells {x = x} t = five_each x.record' x.commits t.record_grows

  -- ---- of the calls
  pub calls_outcome : {O S P T : Type 0} {E : Engine O S} {F : Engine P T} {R : Realization E} {Q : Realization F}
      {u : R.Machine} {x : Q.Machine} {v y r s : List ℕ} {k : ℕ}
      → CallsTruth R program w u v r k
      → CallsTruth Q program w x y s k
      → (without r ≡ without s) × ((R.plain u).registers ≡ (Q.plain x).registers) × (v ≡ y)
  calls_outcome {k = k} t s = (
    as_run program w (λ (r : Run). r.record') k k refl t.record_is s.record_is,
    as_run program w (λ (r : Run). r.registers) k k refl t.registers_are s.registers_are,
    as_run program w (λ (r : Run). r.memory) k k refl t.memory_is s.memory_is,
  )

  pub calls_tell : {O S : Type 0} {E : Engine O S} {R : Realization E} {u : R.Machine} {v r : List ℕ} {k : ℕ}
      → CallsTruth R program w u v r k
      → k ≡ length r / per_commit
  calls_tell {r = r} {k = k} t = five_each r k t.record_grows

  pub calls_add : {O S : Type 0} {E : Engine O S} {R : Realization E} {u x : R.Machine} {v y r more : List ℕ} {k j : ℕ}
      {answers : List Answer}
      → CallsTruth R program w u v r k
      → ends program (run_after program w k) ≡ false
      → Life R program u v (needed program (R.plain u)) answers x y more j
      → (step program (run_after program w k)).record' ≡ (run_after program w k).record' ++ without more
  calls_add {r = r} {more = more} {k = k} t e needs =
      sym (t.goes_on e needs).3 ∙ without_append r more k t.record_grows
      ∙ ap (λ (l : List ℕ). l ++ without more) t.record_is

  -- ---- of a finish
  pub finish_within : {c k : ℕ} {list : List ℕ} {said : Answer} → FinishTruth program w c k list said
      → (n : ℕ) × (said ≡ finished n) × (n ≤ k) × (n * per_commit ≤ length list)
  finish_within {c} {k} {list} f =
      let m = min k (length list / per_commit) in
      let most = steps_within program m (run_after program w c) in
      (steps_left program (run_after program w c) m, f.commits_left, omega (arith, most), omega (arith, most))

-- ---- of two engines

-- Whatever calls were made of two engines from openings with one program and one memory, where as many instructions were committed
-- the records without their distances, the committed registers and the memories are equal.
pub engines_agree : {O S P T : Type 0} {E : Engine O S} {F : Engine P T} (e : Owes E) (f : Owes F) (o : O) (p : P)
    (program w : List ℕ)
    → refusal (open_checks E o program w) ≡ 0
    → refusal (open_checks F p program w) ≡ 0
    → (cs ds : List Call)
    → let x = after E o program w cs in
    let y = after F p program w ds in
    x.commits ≡ y.commits
    → (without x.record' ≡ without y.record') × (x.state.registers ≡ y.state.registers) × (x.memory ≡ y.memory)
engines_agree e f o p program w opens opened cs ds =
    one_outcome (record_theorem e o program w opens cs) (record_theorem f p program w opened ds)

-- ---- after a finish

pub finish_over : {O S : Type 0} {E : Engine O S} (owes : Owes E) {R : Realization E} {o : O} {program w : List ℕ}
    {m : R.Machine} (opens : Opens R o program w done m) {cs : List Call} {answers : List Answer} {u : R.Machine}
    {v record' : List ℕ} {c : ℕ} (life : Life R program m w cs answers u v record' c) (k count : ℕ) (list : List ℕ)
    {x : R.Machine} {y kept : List ℕ}
    → Meets R program u (finish k list) v (finished count) x y kept
    → count < k
    → count * per_commit + per_commit ≤ length list
    → {cs₂ : List Call} {answers₂ : List Answer} {z : R.Machine} {t more : List ℕ} {j : ℕ}
    → Life R program x y cs₂ answers₂ z t more j
    → j ≡ 0
finish_over owes {program = program} {w = w} opens {c = c} life k count list meets fewer room later =
    let over : ends program (run_after program w (c + count)) ≡ true =
    (calls_finish owes opens life meets).ended count refl fewer room in
    (calls_theorem owes opens (lived (finish k list) life meets)).stops over later
