-- A list of calls on one opened program, refused ones among them, over any engine, and its record: the numbers that commits
-- answered and those at the start of each finish's list as that finish left it, for as many commits as it answered. Nothing
-- else is read.
-- Assumes nothing.
use Rattle.std.specs.Prelude.{Bool, true, false, cond, not, ◌&&◌, List, [], ◌∷◌, ◌++◌, ℕ, ◌+◌, ◌*◌, eqb, length, take}
use Rattle.engine.specs.Contract.{refused, named, executed, done, committed, finished}
use Rattle.machine_model.specs.Window.{entry_at, pending}
use Rattle.machine_model.specs.Over.{Engine, Plain, Call, issue, execute, commit, Answer, per_commit, respond}

-- what an answer adds to the record, with the list as the call left it
abbrev pub recorded : Answer → List ℕ → List ℕ
recorded (refused k) list = []
recorded (named p) list = []
recorded (executed v d s) list = []
recorded done list = []
recorded (committed i c r v d) list = i ∷ c ∷ r ∷ v ∷ d ∷ []
recorded (finished n) list = take (n * per_commit) list

-- the record without its distances: of each commit's five numbers the first four
unfoldable pub without : List ℕ → List ℕ
without (i ∷ c ∷ r ∷ v ∷ d ∷ ns) = i ∷ c ∷ r ∷ v ∷ without ns
without (i ∷ c ∷ r ∷ v ∷ []) = []
without (i ∷ c ∷ r ∷ []) = []
without (i ∷ c ∷ []) = []
without (i ∷ []) = []
without [] = []

-- how many commits an answer tells of
abbrev pub commits_in : Answer → ℕ
commits_in (refused k) = 0
commits_in (named p) = 0
commits_in (executed v d s) = 0
commits_in done = 0
commits_in (committed i c r v d) = 1
commits_in (finished n) = n

-- where a list of calls got to: state and memory, the record and the number of commits
pub record Played (S : Type 0) : Type 0 where
  pub state : Plain S
  pub memory : List ℕ
  pub record' : List ℕ
  pub commits : ℕ

-- nothing played yet
abbrev pub start : {S : Type 0} → Plain S → List ℕ → Played S
start X memory = record { state = X; memory = memory; record' = []; commits = 0 }

-- The calls that commit the next instruction of the program: issue if nothing is live, execute of position 0 if that one has not
-- executed, then commit.
abbrev pub needed : {S : Type 0} → List ℕ → Plain S → List Call
needed program X =
    cond (eqb (length X.entries) 0) (issue ∷ execute 0 ∷ commit ∷ [])
    (cond (pending (entry_at X.entries 0).fate) (execute 0 ∷ commit ∷ []) (commit ∷ []))

abbrev pub is_refused : Answer → Bool
is_refused (refused k) = true
is_refused (named p) = false
is_refused (executed v d s) = false
is_refused done = false
is_refused (committed i c r v d) = false
is_refused (finished n) = false

unfoldable pub none_refused : List Answer → Bool
none_refused [] = true
none_refused (a ∷ answers) = not (is_refused a) && none_refused answers

module _ {O S : Type 0} (E : Engine O S) (program : List ℕ) where
  -- one call more
  abbrev pub plays : Played S → Call → Played S
  plays x c =
      let r = respond E program c x.state x.memory in
      record {
        state = r.state;
        memory = r.memory;
        record' = x.record' ++ recorded r.answer r.list;
        commits = x.commits + commits_in r.answer;
      }

  -- the calls one after the other
  unfoldable pub play : Played S → List Call → Played S
  play x [] = x
  play x (c ∷ cs) = play (plays x c) cs

  -- what the calls answer, one after the other
  unfoldable pub answers_of : Played S → List Call → List Answer
  answers_of x [] = []
  answers_of x (c ∷ cs) = (respond E program c x.state x.memory).answer ∷ answers_of (plays x c) cs

  -- none of these calls, one after the other, is refused
  abbrev pub all_accepted : Played S → List Call → Bool
  all_accepted x calls = none_refused (answers_of x calls)
