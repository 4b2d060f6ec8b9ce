-- The ways through the player's loop, each as one step more into the buffer (Filling of StepContract), with which the weight
-- falls: what the code knows on a way, in the order in which it learns it. The machine's answers tell of no commit (Quiet) or of
-- one.
-- Assumes nothing.
use Rattle.std.specs.Prelude.{⊤, Result, Ok, Err}
use mathlib.Core.Path.{◌≡◌, refl, sym, ap, ap₂, subst, ◌∙◌}
use mathlib.Core.Bool.{Bool, false, cond}
use mathlib.Core.List.{List, []}
use mathlib.Core.Logic.{inl, inr}
use Prim.Native.Nat.{ℕ, ◌+◌, ◌-◌, ◌≤◌, ◌<◌}
use native.Mathlib.Omega.{arith}
use lib.Dec.{eqb}
use lib.ListN.{length, replicate}
use borrow.Author.Tests.{eq-eqb, ne_eqb}
use Rattle.machine_model.specs.declared.Machine.{Machine}
use Rattle.machine_model.specs.declared.Committed.{Committed}
use Rattle.engine.specs.declared.Refusal.{Refusal}
use Rattle.engine.specs.declared.Executed.{Executed}
use Rattle.machine_model.specs.Calls.{Call, commit, finish, Answer, per_commit}
use Rattle.machine_model.specs.Contract.{plain, Meets, done_says, issue_says, execute_says, commit_says, finish_says}
use Rattle.sequential.specs.Play.{commits_in}
use Rattle.script_model.specs.declared.Ending.{Ending}
use Rattle.player_model.specs.declared.Phase.{Phase}
use Rattle.player_model.specs.declared.Phase.TheVariants.{Over, Bad, Stepping, Finishing, Words}
use Rattle.player_model.specs.declared.Ask.{Ask}
use Rattle.player_model.specs.declared.Ask.TheVariants as ask
use Rattle.player_model.specs.declared.Order.{Order}
use Rattle.player_model.specs.declared.Player.{Player}
use Rattle.script_model.specs.Output.{committed_lines, bad_line, ending, end_line}
use Rattle.player_model.specs.Playing.{one_more, order_at, player, in_phase, past, first_lines, told_by, counted_by, phase_after}
use Rattle.player_model.specs.Playing.{after_call, CallStep, LineStep, word_line_at, StepIn, longest}
use Rattle.player_model.proofs.Writing.{writes_none}
use Rattle.player_model.proofs.Invariant.{weight}
use Rattle.player_model.proofs.StepContract.{Filling, Puts, filling_then}

-- nothing is written
put_none : (out : List ℕ) (at : ℕ) → Puts out at [] out at
put_none out at = (writes_none out at, omega arith)

-- ---- what the answers tell

-- the answer tells of no commit
pub record Quiet (said : Answer) : Type 0 where
  pub silent : told_by said [] ≡ []
  pub uncounted : (n : ℕ) → counted_by said n ≡ n

pub issue_quiet : (a : Result ℕ Refusal) → Quiet (issue_says a)
issue_quiet (Err r) = record { silent = refl; uncounted = λ n. refl }
issue_quiet (Ok p) = record { silent = refl; uncounted = λ n. refl }

pub execute_quiet : (a : Result (Executed ℕ) Refusal) → Quiet (execute_says a)
execute_quiet (Err r) = record { silent = refl; uncounted = λ n. refl }
execute_quiet (Ok e) = record { silent = refl; uncounted = λ n. refl }

pub squash_quiet : (a : Result ⊤ Refusal) → Quiet (done_says a)
squash_quiet (Err r) = record { silent = refl; uncounted = λ n. refl }
squash_quiet (Ok u) = record { silent = refl; uncounted = λ n. refl }

pub commit_quiet : {a : Result Committed Refusal} (r : Refusal) → a ≡ Err r → Quiet (commit_says a)
commit_quiet r is = subst (λ (b : Result Committed Refusal). Quiet (commit_says b)) (sym is) (record { silent = refl; uncounted = λ n. refl })

finish_silent : (a : Result ℕ Refusal) (list : List ℕ) → commits_in (finish_says a) ≡ 0 → told_by (finish_says a) list ≡ []
finish_silent (Err r) list none = refl
finish_silent (Ok n) list none = ap (λ (t : Bool). cond t [] (first_lines list)) (eq-eqb n 0 none)

finish_told : (a : Result ℕ Refusal) (list : List ℕ) → (commits_in (finish_says a) ≡ 0 → ⊥)
    → told_by (finish_says a) list ≡ first_lines list
finish_told (Err r) list some = absurd (some refl)
finish_told (Ok n) list some = ap (λ (t : Bool). cond t [] (first_lines list)) (ne_eqb n 0 some)

-- ---- the ways

-- player q stands at the loop's head, with room for a step
pub record Ready (text program : List ℕ) (p : Player) (memory₀ out₀ : List ℕ) (q : Player) (memory out : List ℕ) (at : ℕ)
    : Type 0 where
  pub filling : Filling text program p memory₀ out₀ q memory out at
  pub room : at + longest ≤ length out

-- and at a line of order o
pub record AtLine {text program : List ℕ} {p : Player} {memory₀ out₀ : List ℕ} {q : Player} {memory out : List ℕ} {at : ℕ}
    (here : Ready text program p memory₀ out₀ q memory out at) (o : Order) : Type 0 where
  pub stepping : q.phase ≡ Stepping
  pub order : o ≡ order_at text q.cursor q.line

-- the buffer is filled on up to `end`, and the weight falls
abbrev Onward : {text program : List ℕ} {p : Player} {memory₀ out₀ : List ℕ} {q : Player} {memory out : List ℕ} {at : ℕ}
    → Ready text program p memory₀ out₀ q memory out at → Player → List ℕ → List ℕ → ℕ → Type 0
Onward {text} {program} {p} {memory₀} {out₀} {q} {memory} here r after into end =
    (weight text r after < weight text q memory) × Filling text program p memory₀ out₀ r after into end

-- a call that was made, by where it leads
pub called : {program : List ℕ} {c : Call} {from r : Player} {memory after list : List ℕ} {said : Answer} {u : Machine}
    → Meets program from.machine c memory said u after list → length after ≡ length memory → r ≡ after_call c said u from
    → CallStep program c from memory (told_by said list) r after
called {list = list} {said} {u} meets lent leads =
    record { said = said; machine = u; list = list; meets = meets; prints = refl; leads = leads; lent = lent }

-- what is asked for is a call of c
abbrev Asks : List ℕ → List ℕ → Ask → Player → Call → Type 0
Asks program memory a from c = (piece : List ℕ) (r : Player) (after : List ℕ)
    → CallStep program c from memory piece r after → LineStep program a from memory piece r after

module _ {text program : List ℕ} {p : Player} {memory₀ out₀ : List ℕ} {q : Player} {memory out : List ℕ} {at : ℕ} where
  module _ (here : Ready text program p memory₀ out₀ q memory out at) where
    -- a step in phase h, which the player's is
    in_phase_lem : {h : Phase} {piece : List ℕ} {r : Player} {after into : List ℕ} {end : ℕ} → q.phase ≡ h
        → StepIn text program h q memory piece r after → Puts out at piece into end → Onward here r after into end
    in_phase_lem {piece = piece} {r} {after} e made put =
        filling_then here.filling here.room
        (record { made = subst (λ (i : Phase). StepIn text program i q memory piece r after) (sym e) made })
        put

    pub bad_way : {b : ℕ} {into : List ℕ} {end : ℕ} → q.phase ≡ Bad b → Puts out at (bad_line b) into end
        → Onward here (in_phase q Over) memory into end
    bad_way e put = in_phase_lem e (record { prints = refl; leads = refl; keeps = refl }) put

    -- a finish whose limit is reached
    pub limit_way : {k : ℕ} → q.phase ≡ Finishing k → k ≡ 0 → Onward here (in_phase q Stepping) memory out at
    limit_way e none = in_phase_lem e (inl (none, record { prints = refl; leads = refl; keeps = refl })) (put_none out at)

    -- a finish with a list of one commit
    module _ {k : ℕ} {u : Machine} {after list : List ℕ} (a : Result ℕ Refusal) (finishing : q.phase ≡ Finishing k)
        (some : k ≡ 0 → ⊥)
        (meets : Meets program q.machine (finish k (replicate per_commit 0)) memory (finish_says a) u after list)
        (lent : length after ≡ length memory) where
      -- the player after it, by whether it made no commit
      abbrev led : ℕ → Bool → Player
      led j none = player (cond none Stepping (Finishing (k - 1))) q.cursor q.line (cond none q.commits j) q.used u

      finish_made : {r : Player} {into : List ℕ} {end : ℕ} → r ≡ led (one_more q.commits) (eqb (commits_in (finish_says a)) 0)
          → Puts out at (told_by (finish_says a) list) into end → Onward here r after into end
      finish_made leads put =
          in_phase_lem finishing (inr (some, called meets lent leads)) put

      pub stop_way : commits_in (finish_says a) ≡ 0
          → Onward here (player Stepping q.cursor q.line q.commits q.used u) after out at
      stop_way none =
          finish_made (ap (led (one_more q.commits)) (sym (eq-eqb (commits_in (finish_says a)) 0 none)))
          (subst (λ (l : List ℕ). Puts out at l out at) (sym (finish_silent a list none)) (put_none out at))

      pub finish_way : {j end : ℕ} {into : List ℕ} → (commits_in (finish_says a) ≡ 0 → ⊥) → j ≡ one_more q.commits
          → Puts out at (first_lines list) into end
          → Onward here (player (Finishing (k - 1)) q.cursor q.line j q.used u) after into end
      finish_way {end = end} {into} one counted put =
          finish_made
          (ap (λ (i : ℕ). led i false) counted
          ∙ ap (led (one_more q.commits)) (sym (ne_eqb (commits_in (finish_says a)) 0 one)))
          (subst (λ (l : List ℕ). Puts out at l into end) (sym (finish_told a list one)) put)

    -- the closing lines
    pub word_way : {a end : ℕ} {into : List ℕ} → q.phase ≡ Words a → a < length memory
        → Puts out at (word_line_at memory a) into end → Onward here (in_phase q (Words (a + 1))) memory into end
    word_way e h put = in_phase_lem e (inl (h, record { prints = refl; leads = refl; keeps = refl })) put

    pub end_way : {a end : ℕ} {into : List ℕ} {x : Ending} → q.phase ≡ Words a → length memory ≤ a
        → x ≡ ending (plain q.machine) → Puts out at (end_line x q.commits) into end
        → Onward here (in_phase q Over) memory into end
    end_way {end = end} {into} e h is put =
        in_phase_lem e (inr (h, record { prints = refl; leads = refl; keeps = refl }))
        (subst (λ (y : Ending). Puts out at (end_line y q.commits) into end) is put)

  module _ {here : Ready text program p memory₀ out₀ q memory out at} {o : Order} {a : Ask} (line : AtLine here o)
      (asked : o.ask ≡ a) where
    -- a step that takes a line
    line_way : {piece : List ℕ} {r : Player} {after into : List ℕ} {end : ℕ} → LineStep program a (past q o) memory piece r after
        → Puts out at piece into end → Onward here r after into end
    line_way {piece} {r} {after} s put =
        in_phase_lem here line.stepping
        (subst (λ (x : Order). LineStep program x.ask (past q x) memory piece r after) line.order
        (subst (λ (b : Ask). LineStep program b (past q o) memory piece r after) (sym asked) s))
        put

    -- a call that the line asked for
    call_way : {c : Call} {said : Answer} {u : Machine} {after list into : List ℕ} {j end : ℕ}
        → Meets program q.machine c memory said u after list → length after ≡ length memory → j ≡ counted_by said q.commits
        → Puts out at (told_by said list) into end → phase_after c said ≡ Stepping → Asks program memory a (past q o) c
        → Onward here (player q.phase o.cursor o.line j q.used u) after into end
    call_way {u = u} meets lent counted put phase as-asked =
        line_way
        (as-asked _ _ _
        (called meets lent
        (ap₂ (λ (h : Phase) (k : ℕ). player h o.cursor o.line k q.used u) (line.stepping ∙ sym phase) counted)))
        put

    -- one that tells of no commit
    pub quiet_way : {c : Call} {said : Answer} {u : Machine} {after : List ℕ}
        → Meets program q.machine c memory said u after [] → length after ≡ length memory → Quiet said
        → phase_after c said ≡ Stepping → Asks program memory a (past q o) c
        → Onward here (player q.phase o.cursor o.line q.commits q.used u) after out at
    quiet_way meets lent quiet =
        call_way meets lent (sym (quiet.uncounted q.commits))
        (subst (λ (l : List ℕ). Puts out at l out at) (sym quiet.silent) (put_none out at))

  module _ {here : Ready text program p memory₀ out₀ q memory out at} {o : Order} (line : AtLine here o) where
    pub turn_way : {h : Phase} → o.ask ≡ ask.Turn h → Onward here (in_phase (past q o) h) memory out at
    turn_way asked = line_way line asked (record { prints = refl; leads = refl; keeps = refl }) (put_none out at)

    -- a commit that was made
    pub commit_way : {u : Machine} {after into : List ℕ} {i code r v d j end : ℕ} (a : Result Committed Refusal) → o.ask ≡ ask.Commit
        → Meets program q.machine commit memory (commit_says a) u after [] → length after ≡ length memory
        → a ≡ Ok (record { index = i; code = code; target = r; value = v; distance = d }) → j ≡ one_more q.commits → Puts out at (committed_lines i code r v d) into end
        → Onward here (player q.phase o.cursor o.line j q.used u) after into end
    commit_way {into = into} {end = end} a asked meets lent said counted put =
        call_way line asked meets lent (counted ∙ ap (λ (b : Result Committed Refusal). counted_by (commit_says b) q.commits) (sym said))
        (subst (λ (b : Result Committed Refusal). Puts out at (told_by (commit_says b) []) into end) (sym said) put) refl (λ piece r after s. s)
