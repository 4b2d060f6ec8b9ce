-- What a finish commits: as many instructions as the sequential run has left, up to its limit and to the commits for which its
-- list has five places each. So one that answers fewer than its limit, with five places of its list left, stopped where the
-- run ends. proofs/Finished.antt shows it of the play and of the calls.
-- Assumes nothing.
use Rattle.std.specs.Prelude.{◌≡◌, true, cond, List, ℕ, zero, suc, ◌+◌, ◌*◌, ◌/◌, ◌≤◌, ◌<◌, min, length}
use Rattle.engine.specs.Contract.{finished}
use Rattle.machine_model.specs.Over.{Answer, per_commit}
use Rattle.sequential.specs.Sequential.{Run, run_after, ends, step}

-- how many steps the run has left at r, counted up to m
unfoldable pub steps_left : List ℕ → Run → ℕ → ℕ
steps_left program r zero = 0
steps_left program r (suc m) = cond (ends program r) 0 (suc (steps_left program (step program r) m))

-- Of the run from this memory c instructions were committed, then a finish with limit k and this list said `said`.
pub record FinishTruth (program memory : List ℕ) (c k : ℕ) (list : List ℕ) (said : Answer) : Type 0 where
  pub commits_left : said ≡ finished (steps_left program (run_after program memory c) (min k (length list / per_commit)))
  pub ended : (n : ℕ) → said ≡ finished n → n < k → n * per_commit + per_commit ≤ length list
      → ends program (run_after program memory (c + n)) ≡ true
