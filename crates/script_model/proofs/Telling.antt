-- What is told of a call and the steps after it: the lines of the call's commits, then what is told from where it led. A
-- list of calls only adds to its record, so it may start from an empty one. The lines of a record are those of its parts
-- where the first part is whole commits.
-- Assumes nothing.
use mathlib.Core.Path.{◌≡◌, refl, sym, ap, ◌∙◌}
use mathlib.Core.List.{List, [], ◌∷◌, ◌++◌, append-nil, append_assoc}
use mathlib.Core.Option.{Option, none, some}
use Prim.Native.Nat.{ℕ, ◌+◌, ◌%◌}
use native.Mathlib.Omega.{arith}
use lib.ListN.{length}
use Rattle.table.specs.Reference.{State}
use Rattle.machine_model.specs.Calls.{Plain, Call, per_commit, buffered, respond}
use Rattle.sequential.specs.Play.{Played, recorded, commits_in, plays, play}
use Rattle.script_model.specs.Language.{Steps, before}
use Rattle.script_model.specs.Output.{committed_lines, commit_lines, closing, transcript}

pub commit_lines_append : (xs ys : List ℕ) → length xs % per_commit ≡ 0 → commit_lines (xs ++ ys) ≡ commit_lines xs ++ commit_lines ys
unfolding commit_lines
commit_lines_append [] ys h = refl
commit_lines_append (i ∷ []) ys h = absurd (omega arith)
commit_lines_append (i ∷ c ∷ []) ys h = absurd (omega arith)
commit_lines_append (i ∷ c ∷ r ∷ []) ys h = absurd (omega arith)
commit_lines_append (i ∷ c ∷ r ∷ v ∷ []) ys h = absurd (omega arith)
commit_lines_append (i ∷ c ∷ r ∷ v ∷ d ∷ xs) ys h =
    ap (λ (l : List ℕ). committed_lines i c r v d ++ l) (commit_lines_append xs ys (omega arith))
    ∙ sym (append_assoc (committed_lines i c r v d) (commit_lines xs) (commit_lines ys))

-- the same with these numbers recorded before
abbrev after : List ℕ → Played State → Played State
after numbers y =
    record { state = y.state; memory = y.memory; record' = numbers ++ y.record'; commits = y.commits }

pub play_from : (program : List ℕ) (x : Played State) (calls : List Call)
    → let y = play buffered program (record { state = x.state; memory = x.memory; record' = []; commits = x.commits }) calls in
    play buffered program x calls
    ≡ record { state = y.state; memory = y.memory; record' = x.record' ++ y.record'; commits = y.commits }
unfolding play
play_from program x [] = rw append-nil
play_from program x (c ∷ calls) =
    let x₀ : Played State = record { state = x.state; memory = x.memory; record' = []; commits = x.commits } in
    let r = respond program c x.state x.memory in
    let n = x.commits + commits_in r.answer in
    let y = play buffered program (record { state = r.state; memory = r.memory; record' = []; commits = n }) calls in
    play_from program (plays buffered program x c) calls
    ∙ ap (λ (l : List ℕ). record { state = y.state; memory = y.memory; record' = l; commits = y.commits })
    (append_assoc x.record' (recorded r.answer r.list) y.record')
    ∙ ap (after x.record') (sym (play_from program (plays buffered program x₀ c) calls))

-- the closing lines do not read the record
closing_after : (numbers : List ℕ) (y : Played State) (flaw : Option ℕ) → closing (after numbers y) flaw ≡ closing y flaw
closing_after numbers y none = refl
closing_after numbers y (some n) = refl

pub told_before : (program : List ℕ) (x : Played State) (c : Call) (more : Steps) (numbers : List ℕ) (X : Plain)
    (memory : List ℕ) (n : ℕ)
    → plays buffered program x c ≡ record { state = X; memory = memory; record' = numbers; commits = n }
    → length numbers % per_commit ≡ 0
    → transcript program x (before c more)
    ≡ commit_lines numbers ++ transcript program (record { state = X; memory = memory; record' = []; commits = n }) more
unfolding play
told_before program x c more numbers X memory n led whole =
    let y = play buffered program (record { state = X; memory = memory; record' = []; commits = n }) more.calls in
    let tell : Played State → List ℕ = λ z. commit_lines z.record' ++ closing z more.flaw in
    ap (λ (z : Played State). tell (play buffered program z more.calls)) led
    ∙ ap tell (play_from program (record { state = X; memory = memory; record' = numbers; commits = n }) more.calls)
    ∙ ap (λ (l : List ℕ). commit_lines (numbers ++ y.record') ++ l) (closing_after numbers y more.flaw)
    ∙ ap (λ (l : List ℕ). l ++ closing y more.flaw) (commit_lines_append numbers y.record' whole)
    ∙ append_assoc (commit_lines numbers) (commit_lines y.record') (closing y more.flaw)
