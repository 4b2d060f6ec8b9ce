-- A finish is the play of the single calls that it repeats, so every list of calls comes to what its single calls come to: state,
-- memory, record and number of commits (unrolled_plays); none of these is a finish (unrolled_single). A turn of a finish is
-- the play of the calls that are needed next (play_next of Finished); it goes on where they committed, and stops where not.
-- Assumes nothing.
use mathlib.Core.Path.{◌≡◌, refl, sym, ap, ◌∙◌}
use mathlib.Core.Bool.{Bool, true, false, cond, ◌||◌}
use mathlib.Core.List.{List, [], ◌∷◌, ◌++◌, append-nil, append_assoc}
use Prim.Native.Nat.{ℕ, zero, suc, ◌+◌, ◌-◌, ◌*◌}
use native.Mathlib.Nat.{add-zero}
use native.Mathlib.Omega.{arith}
use lib.Dec.{eqb, ltb}
use lib.ListN.{length, drop}
use lib.Seq.{take_at}
use borrow.Author.Tests.{eq-eqb, ne_eqb}
use Rattle.engine.specs.Contract.{refused}
use Rattle.engine.specs.Conditions.{refusal}
use Rattle.machine_model.specs.Window.{entry_at, pending}
use Rattle.machine_model.specs.Over
use Rattle.machine_model.specs.Over.{Engine, Plain, Drain, Result, Call, issue, execute, squash, commit, finish, per_commit}
use Rattle.machine_model.specs.Over.{program_done, drain_stopped, continue_on, drained}
use Rattle.sequential.specs.Play.{recorded, Played, plays, play, needed}
use Rattle.theorem.specs.Unrolled.{Singles, repeated, stands_for, unrolled}
use Rattle.sequential.proofs.Finishing.{either, finishes_grow}
use Rattle.theorem.proofs.Record.{played}
use Rattle.theorem.proofs.Closing.{same_played, play_append}
use Rattle.theorem.proofs.Finished.{play_next}

-- the result of a call that is turned down
abbrev pub turned_down : {S : Type 0} → ℕ → Plain S → List ℕ → List ℕ → Result S
turned_down k X memory list = record { answer = refused k; state = X; memory = memory; list = list }

-- ---- single calls
singles_append : (cs ds : List Call) → Singles cs → Singles ds → Singles (cs ++ ds)
singles_append [] ds h s = s
singles_append (c ∷ cs) ds h s = (h.0, singles_append cs ds h.1 s)

pub singles_first : (cs ds : List Call) → Singles (cs ++ ds) → Singles cs
singles_first [] ds s = tt
singles_first (c ∷ cs) ds s = (s.0, singles_first cs ds s.1)

needed_single : {S : Type 0} (program : List ℕ) (X : Plain S) → Singles (needed program X)
needed_single program X =
    either Singles (eqb (length X.entries) 0) (tt, (tt, (tt, tt)))
    (either Singles (pending (entry_at X.entries 0).fate) (tt, (tt, tt)) (tt, tt))

-- ---- a finish

-- x after a way that a finish went
abbrev went : {S : Type 0} → Played S → Drain S → Played S
went x w =
    record { state = w.state; memory = w.memory; record' = x.record' ++ w.numbers; commits = x.commits + w.commits }

went_nowhere : {S : Type 0} (x : Played S) → x ≡ went x (drain_stopped x.state x.memory)
went_nowhere x = same_played refl refl (sym (append-nil x.record')) (sym (add-zero x.commits))

module _ {O S : Type 0} (E : Engine O S) (program : List ℕ) where
  -- what a finish comes to is the play of the calls that it repeats
  abbrev Repeats : ℕ → ℕ → Type 0
  Repeats k places =
      (x : Played S) → play E program x (repeated E program k places x) ≡ went x (Over.finishes E program k places x.state x.memory)

  -- as a finish does, the calls stop before a turn at the list's end and at the program's
  repeated_turn : (k places : ℕ) (x : Played S)
      → let y = play E program x (needed program x.state) in
      repeated E program (suc k) places x
      ≡ cond (ltb places per_commit || program_done x.state) []
      (needed program x.state ++ cond (eqb y.commits x.commits) [] (repeated E program k (places - per_commit) y))
  unfolding repeated
  repeated_turn k places x = refl

  -- a turn, and those after it
  turn_repeats : (k places : ℕ) → Repeats k (places - per_commit) → Repeats (suc k) places
  unfolding Over.finishes play Over.respond
  turn_repeats k places rest x =
      ap (play E program x) (repeated_turn k places x) ∙ go (ltb places per_commit || program_done X)
    where
      X : Plain S
      X = x.state

      Y : Plain S
      Y = Over.ready E program X x.memory

      -- the calls after a turn that led to y, where t says that it committed none
      further : Played S → Bool → List Call
      further y t = cond t [] (repeated E program k (places - per_commit) y)

      after : Played S → List Call
      after y = further y (eqb y.commits x.commits)

      -- the finish from the turn's commit with this result on
      onward : Result S → Drain S
      onward r =
          continue_on r.answer (drain_stopped Y x.memory) (Over.finishes E program k (places - per_commit) r.state r.memory)

      refusing : Result S
      refusing = turned_down (refusal (Over.commit_checks E program Y x.memory)) Y x.memory []

      turn : (t : Bool)
          → let r = cond t (Over.committing E Y x.memory) refusing in
          play E program (played x r) (after (played x r)) ≡ went x (onward r)
      turn true =
          let r = Over.committing E Y x.memory in
          ap (λ (t : Bool). play E program (played x r) (further (played x r) t))
          (ne_eqb (x.commits + 1) x.commits (λ h. omega arith))
          ∙ rest (played x r)
          ∙ same_played refl refl (append_assoc x.record' (recorded r.answer r.list) _) (omega arith)
      turn false =
          ap (λ (t : Bool). play E program (played x refusing) (further (played x refusing) t))
          (eq-eqb (x.commits + 0) x.commits (add-zero x.commits))

      go : (s : Bool)
          → play E program x (cond s [] (needed program X ++ after (play E program x (needed program X))))
          ≡ went x (cond s (drain_stopped X x.memory) (onward (Over.commits E program Y x.memory)))
      go true = went_nowhere x
      go false =
          play_append E program x (needed program X) (after (play E program x (needed program X)))
          ∙ ap (λ (y : Played S). play E program y (after y)) (play_next E program x)
          ∙ turn (eqb (refusal (Over.commit_checks E program Y x.memory)) 0)

  repeats : (k places : ℕ) → Repeats k places
  unfolding repeated Over.finishes play
  repeats zero places x = went_nowhere x
  repeats (suc k) places x = turn_repeats k places (repeats k (places - per_commit)) x

  stands_for_lem : (x : Played S) (c : Call) → play E program x (stands_for E program x c) ≡ plays E program x c
  unfolding play Over.respond
  stands_for_lem x issue = refl
  stands_for_lem x (execute p) = refl
  stands_for_lem x (squash p) = refl
  stands_for_lem x commit = refl
  stands_for_lem x (finish k list) = go (eqb (refusal (Over.finish_checks E program x.state x.memory)) 0)
    where
      w : Drain S
      w = Over.finishes E program k (length list) x.state x.memory

      refusing : Result S
      refusing = turned_down (refusal (Over.finish_checks E program x.state x.memory)) x.state x.memory list

      go : (t : Bool)
          → play E program x (cond t (repeated E program k (length list) x) []) ≡ played x (cond t (drained list w) refusing)
      go true =
          repeats k (length list) x
          ∙ same_played refl refl
          (ap (λ (l : List ℕ). x.record' ++ l)
          (sym (take_at w.numbers (drop (length w.numbers) list) (w.commits * per_commit)
          (finishes_grow E program k (length list) x.state x.memory))))
          refl
      go false = went_nowhere x

  -- every list of calls comes to what its single calls come to: state, memory, record and number of commits
  pub unrolled_plays : (x : Played S) (cs : List Call) → play E program x (unrolled E program x cs) ≡ play E program x cs
  unfolding unrolled play
  unrolled_plays x [] = refl
  unrolled_plays x (c ∷ cs) =
      play_append E program x (stands_for E program x c) (unrolled E program (plays E program x c) cs)
      ∙ ap (λ (y : Played S). play E program y (unrolled E program (plays E program x c) cs)) (stands_for_lem x c)
      ∙ unrolled_plays (plays E program x c) cs

  -- ---- and these are single
  repeated_single : (k places : ℕ) (x : Played S) → Singles (repeated E program k places x)
  unfolding repeated
  repeated_single zero places x = tt
  repeated_single (suc k) places x =
      let y = play E program x (needed program x.state) in
      either Singles (ltb places per_commit || program_done x.state) tt
      (singles_append (needed program x.state) _ (needed_single program x.state)
      (either Singles (eqb y.commits x.commits) tt (repeated_single k (places - per_commit) y)))

  stands_single : (x : Played S) (c : Call) → Singles (stands_for E program x c)
  stands_single x issue = (tt, tt)
  stands_single x (execute p) = (tt, tt)
  stands_single x (squash p) = (tt, tt)
  stands_single x commit = (tt, tt)
  stands_single x (finish k list) =
      either Singles (eqb (refusal (Over.finish_checks E program x.state x.memory)) 0) (repeated_single k (length list) x) tt

  pub unrolled_single : (x : Played S) (cs : List Call) → Singles (unrolled E program x cs)
  unfolding unrolled
  unrolled_single x [] = tt
  unrolled_single x (c ∷ cs) =
      singles_append (stands_for E program x c) _ (stands_single x c) (unrolled_single (plays E program x c) cs)
