-- THE RECORD THEOREM, of a machine over any engine that owes what Owing.antt asks. Open it with a program and a memory: what any
-- list of calls comes to, refused ones among them, is true of the sequential run of the program from that memory (Truth). So two
-- engines that committed as many instructions agree (engines_agree of Outcome.antt). The buffer is one (buffer_owes of
-- Buffered.antt).
--
-- Every call keeps that the state is linked and that the window is kept (Held): a call is some steps of the window (Finishing),
-- and each step keeps what is kept (Keeping). The equations are part of that. A step after the run's end commits nothing, so
-- the count stays, and with it the run. Before the end the window decides: with nothing live an instruction is left, so the
-- issue is accepted and the new entry waits; an oldest entry that waits has its operands and is never turned down, and has executed
-- then; and an oldest entry that has executed is no fault, as the run's next instruction is none, so its commit is accepted.
-- Assumes nothing.
use mathlib.Core.Path.{◌≡◌, refl, sym, subst, ap, ◌∙◌}
use mathlib.Core.Bool.{Bool, true, false, cond, not, ◌&&◌}
use mathlib.Core.List.{List, [], ◌∷◌, ◌++◌}
use Prim.Native.Nat.{ℕ, zero, suc, ◌+◌, ◌≤◌, ◌<◌}
use native.Mathlib.Nat.{add-zero}
use native.Mathlib.Omega.{arith}
use lib.ListN.{length, take, set}
use borrow.Author.Tests.{ne_eqb}
use Rattle.engine.specs.Contract.{judged}
use Rattle.engine.specs.Conditions.{refusal}
use Rattle.engine.proofs.Meeting.{judged_accepted}
use Rattle.machine_model.specs.declared.Fate.{Fate}
use Rattle.machine_model.specs.declared.Entry.{Entry}
use Rattle.machine_model.specs.Program.{program_fits}
use Rattle.machine_model.specs.Window.{entry_at, entry_with, pending}
use Rattle.machine_model.specs.Over
use Rattle.machine_model.specs.Over.{Engine, Plain, Result, Call, issue, execute, commit, new_entry, known}
use Rattle.sequential.specs.Sequential.{run_after, ends}
use Rattle.theorem.specs.Truth.{run, next, Truth}
use Rattle.sequential.specs.Play.{recorded, commits_in, Played, plays, play, start}
use Rattle.sequential.specs.Play.{is_refused, none_refused, answers_of, all_accepted}
use Rattle.sequential.proofs.Core.{Core, Kept}
use Rattle.sequential.proofs.Keeping.{kept_fresh, kept_step, none_after, issue_left, commit_clean}
use Rattle.sequential.proofs.Owing.{Owes, Linked}
use Rattle.sequential.proofs.Links.{core_of, Steps, stays, goes}
use Rattle.sequential.proofs.Linking.{linked_open, execute_passed, oldest_fate_lem, issue_accepted, execute_accepted, commit_accepted}
use Rattle.sequential.proofs.Finishing.{respond_links}

-- what every call keeps
pub record Held {O S : Type 0} {E : Engine O S} (owes : Owes E) (program memory : List ℕ) (x : Played S) : Type 0 where
  pub linked : Linked owes program x.state x.memory
  pub kept : Kept program memory (core_of x.state x.memory x.record' x.commits)

-- x and one call more, with this result
abbrev pub played : {S : Type 0} → Played S → Result S → Played S
played x r =
    record {
      state = r.state;
      memory = r.memory;
      record' = x.record' ++ recorded r.answer r.list;
      commits = x.commits + commits_in r.answer;
    }

-- ---- the oldest entry

-- where its execution is accepted, it is among those that stay
oldest_stays : {O S : Type 0} {E : Engine O S} (owes : Owes E) (program : List ℕ) (X : Plain S) (memory : List ℕ)
    → Linked owes program X memory
    → refusal (Over.execute_checks E program X memory 0) ≡ 0
    → 0 < Over.survivors_of E X memory 0 (known (Over.evaluated E X memory 0))
oldest_stays owes program X memory l z =
    omega (arith, (execute_passed owes program X memory l 0 z).3)

oldest_executed : (l : List Entry) (e : Entry) (es : List Entry) (f : Fate) (d left : ℕ) → l ≡ e ∷ es → 0 < left
    → (rest : List Entry) × (take left (set l 0 (entry_with (entry_at l 0) f d)) ≡ entry_with e f d ∷ rest)
oldest_executed l e es f d zero q h = absurd (omega arith)
oldest_executed l e es f d (suc left) q h = (take left es, rw q)

module _ {O S : Type 0} {E : Engine O S} (owes : Owes E) (program memory : List ℕ) where
  -- ---- along steps
  kept_steps : program_fits program ≡ true → {c d : Core} → Kept program memory c → Steps program c d → Kept program memory d
  kept_steps f k stays = k
  kept_steps f k (goes s h) = kept_step program memory f (kept_steps f k s) h

  none_steps : program_fits program ≡ true → {c d : Core} → Kept program memory c → Steps program c d
      → ends program (run_after program memory c.commits) ≡ true
      → d.commits ≡ c.commits
  none_steps f k stays e = refl
  none_steps f k (goes s h) e =
      let p = none_steps f k s e in
      none_after program memory f (kept_steps f k s) h (rw p e) ∙ p

  -- ---- along calls
  held_plays : (x : Played S) → Held owes program memory x → (c : Call) → Held owes program memory (plays E program x c)
  held_plays x h c =
      let l = respond_links owes program c x.state x.memory h.linked in
      record { linked = l.linked; kept = kept_steps h.linked.fits h.kept (l.steps x.record' x.commits) }

  pub held_play : (x : Played S) → Held owes program memory x → (calls : List Call) → Held owes program memory (play E program x calls)
  unfolding play
  held_play x h [] = h
  held_play x h (c ∷ calls) = held_play (plays E program x c) (held_plays x h c) calls

  pub none_play : (x : Played S) → Held owes program memory x → ends program (run program memory x) ≡ true → (more : List Call)
      → (play E program x more).commits ≡ x.commits
  unfolding play
  none_play x h e [] = refl
  none_play x h e (c ∷ more) =
      let l = respond_links owes program c x.state x.memory h.linked in
      let p = none_steps h.linked.fits h.kept (l.steps x.record' x.commits) e in
      none_play (plays E program x c) (held_plays x h c) (rw p e) more ∙ p

  -- ---- the next commit

  -- these calls are at most three, all accepted, and commit once
  abbrev Next : Played S → List Call → Type 0
  Next x calls = (all_accepted E program x calls ≡ true) × (length calls ≤ 3) × ((play E program x calls).commits ≡ suc x.commits)

  -- the same of a call with result r and these calls after it
  abbrev Then : Played S → List Call → Result S → Type 0
  Then x calls r =
      Held owes program memory (played x r) → (not (is_refused r.answer) && all_accepted E program (played x r) calls ≡ true)
      × (suc (length calls) ≤ 3)
      × ((play E program (played x r) calls).commits ≡ suc x.commits)

  -- it is enough to say so of the accepted result of a call that no check refuses
  accepted_then : (x : Played S) (calls : List Call) (k : ℕ) (r : Result S) → k ≡ 0 → Then x calls r
      → Then x calls (judged k x.state x.memory [] r)
  accepted_then x calls k r z t = subst (Then x calls) (sym (judged_accepted k x.state x.memory [] r z)) t

  commit_next : (x : Played S) → Held owes program memory x → ends program (run program memory x) ≡ false → (e : Entry)
      (es : List Entry)
      → x.state.entries ≡ e ∷ es
      → pending e.fate ≡ false
      → Next x (commit ∷ [])
  unfolding none_refused answers_of play Over.respond
  commit_next x h n e es q w =
      let clean = commit_clean program memory h.linked.fits _ e es h.kept n q w in
      accepted_then x [] (refusal (Over.commit_checks E program x.state x.memory)) _
      (commit_accepted owes program x.state x.memory h.linked e es q w clean) (λ h'. (refl, omega arith, omega arith))
      (held_plays x h commit)

  executed_then : (x : Played S) → ends program (run program memory x) ≡ false → (e : Entry) (es : List Entry)
      → x.state.entries ≡ e ∷ es
      → (f : Fate) (left : ℕ)
      → pending f ≡ false
      → 0 < left
      → Then x (commit ∷ []) (Over.executing E x.state x.memory 0 f left)
  executed_then x n e es q f left w l h =
      let d = Over.load_distance E x.state 0 f in
      let first = oldest_executed x.state.entries e es f d left q l in
      let same : ends program (run_after program memory (x.commits + 0)) ≡ false = rw add-zero n in
      let c = commit_next _ h same (entry_with e f d) first.0 first.1 w in
      (c.0, omega arith, omega (arith, c.2))

  execute_next : (x : Played S) → Held owes program memory x → ends program (run program memory x) ≡ false → (e : Entry)
      (es : List Entry)
      → x.state.entries ≡ e ∷ es
      → pending e.fate ≡ true
      → Next x (execute 0 ∷ commit ∷ [])
  unfolding none_refused answers_of play Over.respond
  execute_next x h n e es q w =
      let X = x.state in
      let f = known (Over.evaluated E X x.memory 0) in
      let k = execute_accepted owes program X x.memory h.linked e es q w in
      accepted_then x (commit ∷ []) (refusal (Over.execute_checks E program X x.memory 0))
      (Over.executing E X x.memory 0 f (Over.survivors_of E X x.memory 0 f)) k
      (executed_then x n e es q f (Over.survivors_of E X x.memory 0 f) (oldest_fate_lem E X x.memory)
      (oldest_stays owes program X x.memory h.linked k))
      (held_plays x h (execute 0))

  issue_next : (x : Played S) → Held owes program memory x → ends program (run program memory x) ≡ false → x.state.entries ≡ []
      → Next x (issue ∷ execute 0 ∷ commit ∷ [])
  unfolding none_refused answers_of play Over.respond
  issue_next x h n q =
      let X = x.state in
      let left = issue_left program memory _ h.kept n q in
      let e = new_entry program X.next in
      let same : ends program (run_after program memory (x.commits + 0)) ≡ false = rw add-zero n in
      accepted_then x (execute 0 ∷ commit ∷ []) (refusal (Over.issue_checks E program X)) _
      (issue_accepted owes program X x.memory h.linked (ap length q) (omega (arith, h.linked.counted)))
      (λ h'.
      let c = execute_next _ h' same e [] (ap (λ es. es ++ (e ∷ [])) q) refl in
      (c.0, omega arith, omega (arith, c.2)))
      (held_plays x h issue)

  pub needed_next : (x : Played S) → Held owes program memory x → ends program (run program memory x) ≡ false → Next x (next program x)
  needed_next x h n = go x.state.entries refl
    where
      oldest : (e : Entry) (es : List Entry) → x.state.entries ≡ e ∷ es → (t : Bool) → pending e.fate ≡ t
          → Next x (cond t (execute 0 ∷ commit ∷ []) (commit ∷ []))
      oldest e es q true w = execute_next x h n e es q w
      oldest e es q false w = commit_next x h n e es q w

      go : (es : List Entry) → x.state.entries ≡ es → Next x (next program x)
      go [] q =
          let s : next program x ≡ issue ∷ execute 0 ∷ commit ∷ [] = rw q in
          subst (Next x) (sym s) (issue_next x h n q)
      go (e ∷ es) q =
          let live = ne_eqb (suc (length es)) 0 (λ z. omega arith) in
          let s : next program x ≡ cond (pending e.fate) (execute 0 ∷ commit ∷ []) (commit ∷ []) = rw (q, live) in
          subst (Next x) (sym s) (oldest e es q (pending e.fate) refl)

-- where these calls lead from an opening
abbrev pub after : {O S : Type 0} (E : Engine O S) → O → List ℕ → List ℕ → List Call → Played S
after E o program memory calls = play E program (start (Over.opened E o program) memory) calls

module _ {O S : Type 0} {E : Engine O S} (owes : Owes E) (o : O) (program memory : List ℕ)
    (opens : refusal (Over.open_checks E o program memory) ≡ 0) where
  pub held_after : (calls : List Call) → Held owes program memory (after E o program memory calls)
  held_after calls =
      held_play owes program memory (start (Over.opened E o program) memory)
      (record { linked = linked_open owes o program memory opens; kept = kept_fresh program memory })
      calls

  pub record_theorem : (calls : List Call) → Truth E program memory (after E o program memory calls)
  unfolding run_after
  record_theorem calls =
      let x = after E o program memory calls in
      let h = held_after calls in
      let needs = next program x in
      record {
        record_is = h.kept.record';
        record_grows = h.kept.grows;
        registers_are = h.kept.registers;
        memory_is = h.kept.lent;
        goes_on = λ e.
            let g = needed_next owes program memory x h e in (
              g.0,
              g.1,
              omega (arith, g.2),
              (held_play owes program memory x h needs).kept.record' ∙ ap (λ (k : ℕ). (run_after program memory k).record') g.2,
            );
        stops = none_play owes program memory x h;
      }
