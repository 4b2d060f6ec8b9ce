-- An answer of the machine as the numbers that cross to C, and the answer that they tell.
-- Assumes nothing.
use Rattle.std.specs.Prelude.{cond, ℕ, eqb, Result, Ok, Err}
use Rattle.std.proofs.Math.Option.{none, some}
use Rattle.engine.specs.Contract.{refused, done, named, executed, committed, finished}
use Rattle.machine_model.specs.Over.{Call, issue, execute, squash, commit, finish, Answer}
use Rattle.embed_image.specs.declared.Numbers.{Numbers}

abbrev pub numbered : ℕ → ℕ → ℕ → ℕ → ℕ → ℕ → ℕ → ℕ → ℕ → Numbers
numbered refusal position squashed commits index code target value distance =
    record {
      position = position;
      commits = commits;
      refusal = refusal;
      squashed = squashed;
      index = index;
      code = code;
      target = target;
      value = value;
      distance = distance;
    }

-- A refusal crosses as its number, and any other answer as 0 and what it carries, with 0 for what it lacks: the position issued
-- or squashed from, that one was, a finish's commits, a commit's index, code and target, value and distance.
abbrev pub numbers_of : Answer → Numbers
numbers_of (refused k) = numbered k 0 0 0 0 0 0 0 0
numbers_of done = numbered 0 0 0 0 0 0 0 0 0
numbers_of (named p) = numbered 0 p 0 0 0 0 0 0 0
numbers_of (executed v d none) = numbered 0 0 0 0 0 0 0 v d
numbers_of (executed v d (some p)) = numbered 0 p 1 0 0 0 0 v d
numbers_of (committed i c r v d) = numbered 0 0 0 0 i c r v d
numbers_of (finished n) = numbered 0 0 0 n 0 0 0 0 0

-- What an answer says whose refusal is told by its number, any number: what it says of the value accepted, else that refusal.
abbrev pub by_number : {A R : Type 0} → (Result A R → Answer) → Result A ℕ → Answer
by_number says (Ok a) = says (Ok a)
by_number says (Err k) = refused k

-- The answer to call c that these numbers tell (proofs/Told.antt: the one that was given).
abbrev pub acceptance : Call → Numbers → Answer
acceptance issue n = named n.position
acceptance (execute p) n = executed n.value n.distance (cond (eqb n.squashed 0) none (some n.position))
acceptance (squash p) n = done
acceptance commit n = committed n.index n.code n.target n.value n.distance
acceptance (finish k list) n = finished n.commits

abbrev pub told : Call → Numbers → Answer
told c n = cond (eqb n.refusal 0) (acceptance c n) (refused n.refusal)
