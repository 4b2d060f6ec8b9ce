-- What the executions in a list of calls answered of the entries that are then live. It is read off the calls and their answers
-- alone, with no look at a state. A finish tells of no execution of its own: it is taken as its single calls (Unrolled).
-- proofs/Answered.antt shows that a commit passes up what the execution of its entry answered.
-- Assumes nothing.
use Rattle.std.specs.Prelude.{◌≡◌, cond, List, [], ◌∷◌, ◌++◌, ℕ, eqb, get_or, take, drop, set}
use Rattle.std.proofs.Math.Option.{Option, none, some}
use Rattle.engine.specs.Contract.{refused, named, executed, done, committed, finished}
use Rattle.machine_model.specs.Over.{Call, issue, execute, squash, commit, finish, Answer}
use Rattle.sequential.specs.Play.{is_refused}

-- the value and the distance that an entry's execution answered; silent is one that has not executed
pub data Told : Type 0 where
  silent : Told
  told : ℕ → ℕ → Told

-- the entries before the position squashed from stay
abbrev pub unsquashed : Option ℕ → List Told → List Told
unsquashed none ts = ts
unsquashed (some q) ts = take q ts

-- after an execution of position p with this answer
abbrev pub ran : ℕ → List Told → Answer → List Told
ran p ts (refused k) = ts
ran p ts (named q) = ts
ran p ts (executed v d s) = unsquashed s (set ts p (told v d))
ran p ts done = ts
ran p ts (committed i c r v d) = ts
ran p ts (finished n) = ts

-- What is told of the live entries, oldest first, after a call with this answer: an issue adds one that is silent, a squash
-- keeps the first p, a commit takes the oldest away. A finish is not among single calls.
abbrev pub tells : List Told → Call → Answer → List Told
tells ts issue a = cond (is_refused a) ts (ts ++ (silent ∷ []))
tells ts (execute p) a = ran p ts a
tells ts (squash p) a = cond (is_refused a) ts (take p ts)
tells ts commit a = cond (is_refused a) ts (drop 1 ts)
tells ts (finish k list) a = ts

-- the same after several calls
unfoldable pub told_after : List Told → List Call → List Answer → List Told
told_after ts [] answers = ts
told_after ts (c ∷ cs) [] = ts
told_after ts (c ∷ cs) (a ∷ answers) = told_after (tells ts c a) cs answers

-- what is told of the oldest
abbrev pub oldest : List Told → Told
oldest ts = get_or ts 0 silent

-- "Execute passes it up": a commit that answers code c, value v and distance d of an entry of which t is told answers the
-- distance that its execution answered, and of a load (code 3) the value; the executions of the others answered 0.
abbrev pub PassesUp : Told → ℕ → ℕ → ℕ → Type 0
PassesUp t c v d = t ≡ told (cond (eqb c 3) v 0) d
