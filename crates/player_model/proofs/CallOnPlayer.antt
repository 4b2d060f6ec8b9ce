-- One call of the machine that a line asks for: issue, execute, squash or commit. Of a sound machine the call's answer, state,
-- memory and list are `respond`'s, so what `plays` records and counts is what the answer tells: nothing, or the numbers of one
-- commit, whose lines are printed.
-- Assumes nothing.
use mathlib.Core.Path.{◌≡◌, refl, sym, ap, subst, ◌∙◌}
use mathlib.Core.Bool.{Bool, true, false, cond}
use mathlib.Core.List.{List, [], append-nil}
use Prim.Native.Nat.{ℕ, suc, ◌+◌, ◌%◌, ◌<◌}
use native.Mathlib.Nat.{add-zero}
use native.Mathlib.Numerals.{add-one}
use lib.Dec.{eqb}
use lib.ListN.{length}
use borrow.Author.Tests.{lt-ltb}
use Rattle.engine.specs.Conditions.{refusal}
use Rattle.engine.specs.Contract.{refused, named, executed, done, committed, finished}
use Rattle.machine_model.specs.declared.Machine.{Machine}
use Rattle.machine_model.specs.Over
use Rattle.machine_model.specs.Calls.{Plain, Call, issue, execute, squash, commit, finish, Answer, Result, per_commit, respond}
use Rattle.machine_model.specs.Calls.{buffered, issue_checks, execute_checks, squash_checks, commit_checks}
use Rattle.machine_model.specs.Contract.{plain, Sound, Meets}
use Rattle.sequential.specs.Play.{recorded, commits_in, plays}
use Rattle.script_model.specs.Output.{committed_lines, commit_lines}
use Rattle.player_model.specs.Playing.{count_most, told_by, counted_by}
use Rattle.player_model.proofs.Invariant.{standing}

-- no finish
abbrev pub Single : Call → Type 0
Single issue = Unit {0}
Single (execute p) = Unit {0}
Single (squash p) = Unit {0}
Single commit = Unit {0}
Single (finish k list) = ⊥

-- an answer of none
abbrev Once : Answer → Type 0
Once (refused k) = Unit {0}
Once (named p) = Unit {0}
Once (executed v d s) = Unit {0}
Once done = Unit {0}
Once (committed i c r v d) = Unit {0}
Once (finished n) = ⊥

-- what such an answer tells
record Told (said : Answer) (n : ℕ) : Type 0 where
  whole : length (recorded said []) % per_commit ≡ 0
  lines : commit_lines (recorded said []) ≡ told_by said []
  counted : n < count_most → n + commits_in said ≡ counted_by said n

once_told : (said : Answer) (n : ℕ) → Once said → Told said n
unfolding commit_lines
once_told (refused k) n h = record { whole = refl; lines = refl; counted = λ few. add-zero n }
once_told (named p) n h = record { whole = refl; lines = refl; counted = λ few. add-zero n }
once_told (executed v d s) n h = record { whole = refl; lines = refl; counted = λ few. add-zero n }
once_told done n h = record { whole = refl; lines = refl; counted = λ few. add-zero n }
once_told (committed i c r v d) n h =
    record {
      whole = refl;
      lines = append-nil (committed_lines i c r v d);
      counted = λ few.
          add-one n ∙ ap (λ (b : Bool). cond b (suc n) n) (sym (lt-ltb n count_most few));
    }
once_told (finished k) n h = absurd h

-- refused or not, such a call keeps no list
abbrev Brief : Result → Type 0
Brief r = Once r.answer × (r.list ≡ [])

by_refusal : (k : ℕ) (r : Result) → (eqb k 0 ≡ true → Brief r) → (eqb k 0 ≡ false → Brief r) → Brief r
by_refusal k r accepted denied = go (eqb k 0) refl
  where
    go : (t : Bool) → eqb k 0 ≡ t → Brief r
    go true e = accepted e
    go false e = denied e

answers_once : (program : List ℕ) (c : Call) (X : Plain) (memory : List ℕ) → Single c → Brief (respond program c X memory)
unfolding Over.respond
answers_once program issue X memory h =
    by_refusal (refusal (issue_checks program X)) (respond program issue X memory) (λ e. rw e (tt, refl)) (λ e. rw e (tt, refl))
answers_once program (execute p) X memory h =
    by_refusal (refusal (execute_checks program X memory p)) (respond program (execute p) X memory) (λ e. rw e (tt, refl))
    (λ e. rw e (tt, refl))
answers_once program (squash p) X memory h =
    by_refusal (refusal (squash_checks program X p)) (respond program (squash p) X memory) (λ e. rw e (tt, refl))
    (λ e. rw e (tt, refl))
answers_once program commit X memory h =
    by_refusal (refusal (commit_checks program X memory)) (respond program commit X memory) (λ e. rw e (tt, refl))
    (λ e. rw e (tt, refl))
answers_once program (finish k list) X memory h = absurd h

-- From a sound machine and n commits the call leads to machine u and records these numbers, whose lines are told.
pub record Does (program : List ℕ) (c : Call) (m : Machine) (memory : List ℕ) (n : ℕ) (u : Machine) (after : List ℕ)
    (said : Answer) (list : List ℕ) : Type 0 where
  pub numbers : List ℕ
  pub whole : length numbers % per_commit ≡ 0
  pub lines : commit_lines numbers ≡ told_by said list
  pub does : plays buffered program (standing m memory n) c
      ≡ record { state = plain u; memory = after; record' = numbers; commits = counted_by said n }

pub call_does : {program : List ℕ} {c : Call} {m u : Machine} {memory after list : List ℕ} {said : Answer} (n : ℕ) → Single c
    → Meets program m c memory said u after list → Sound m → n < count_most
    → Does program c m memory n u after said list
call_does {program} {c} {m} {u} {memory} {after} {list} {said} n single meets sound few =
    let each = answers_once program c (plain m) memory single in
    let told = once_told said n (subst Once (sym (meets.answer sound)) each.0) in
    let none : list ≡ [] = meets.list sound ∙ each.1 in
    record {
      numbers = recorded said [];
      whole = told.whole;
      lines = told.lines ∙ ap (told_by said) (sym none);
      does =
          rw (
            ← meets.answer sound,
            ← meets.state sound,
            ← meets.memory sound,
            each.1,
            told.counted few,
          );
    }
