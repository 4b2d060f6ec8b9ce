-- The life of an opened program on a machine over any engine: calls one after the other, each as its contract says, on the
-- machine and the memory that the call before handed back, refused ones among them. The record and the number of commits are
-- read off the answers alone.
-- Assumes nothing.
use Rattle.std.specs.Prelude.{List, [], ◌∷◌, ◌++◌, ℕ, ◌+◌}
use Rattle.machine_model.specs.Over.{Engine, Realization, Call, Answer, Meets}
use Rattle.sequential.specs.Play.{recorded, commits_in}

-- From machine m and memory w these calls were made, with these answers, and led to machine u and memory v, with this record
-- and this number of commits.
pub data Life {O S : Type 0} {E : Engine O S} (R : Realization E) (program : List ℕ) (m : R.Machine) (w : List ℕ)
    : List Call → List Answer → R.Machine → List ℕ → List ℕ → ℕ → Type 0 where
  born : Life R program m w [] [] m w [] 0
  lived : {cs : List Call} {answers : List Answer} {u x : R.Machine} {v y : List ℕ} {record' list : List ℕ} {n : ℕ}
      {said : Answer} (c : Call) → Life R program m w cs answers u v record' n → Meets R program u c v said x y list
      → Life R program m w (cs ++ (c ∷ [])) (answers ++ (said ∷ [])) x y (record' ++ recorded said list) (n + commits_in said)
