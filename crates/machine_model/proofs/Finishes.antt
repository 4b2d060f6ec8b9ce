-- A finish as a loop, of a machine over any engine. Unfolding laws say when `finishes` stops (finishes_limit, finishes_stops,
-- finishes_short, finishes_over, turn_stops) and what one more commit adds (turn_goes). The loop's invariant is Remains: the
-- way from the start is what remains from the state now, put after the commits made, whose numbers stand in the list. It holds
-- at the start (remains_all), a turn keeps it (remains_goes), and where the rest stops at once it gives the contract
-- (remains_meets). In a turn the oldest is issued where the window is empty (begun_empty) and executed where it waits
-- (ready_waiting).
-- Assumes nothing.
use mathlib.Core.Path.{◌≡◌, refl, sym, ap, ap₂, ◌∙◌}
use mathlib.Core.Bool.{Bool, true, false, cond, ◌||◌, or-true}
use mathlib.Core.List.{List, [], ◌∷◌, ◌++◌, append_assoc, append-nil}
use Prim.Native.Nat.{ℕ, zero, suc, ◌+◌, ◌-◌, ◌*◌, ◌≤◌, ◌<◌}
use native.Mathlib.Nat.{zero-add, sub-zero}
use native.Mathlib.Omega.{arith}
use lib.Dec.{ltb}
use lib.ListN.{length, take, drop, length-append, take-append-drop}
use lib.Seq.{sets, sets-eq, length-sets, length-take-le, take_at, drop_at, drop-drop}
use borrow.Author.Tests.{lt-ltb, eq-eqb, ne_eqb}
use Rattle.engine.specs.Contract.{refused, committed, finished}
use Rattle.engine.specs.Conditions.{refusal}
use Rattle.engine.proofs.Meeting.{judged_accepted, accepted_meets}
use Rattle.machine_model.specs.Over.{Engine, Realization, Plain, Drain, Result, Answer, commit, finish, per_commit, program_done}
use Rattle.machine_model.specs.Over.{after_commit, continue_on, drain_stopped, drained, finish_checks, ready, commits, finishes}
use Rattle.machine_model.specs.Over.{issue, execute, issue_result, executions, begun, respond, Meets}
use Rattle.machine_model.specs.Window.{entry_at, pending}

-- ---- where it stops

-- what a turn from the prepared state Y comes to
abbrev turning : {O S : Type 0} → Engine O S → List ℕ → ℕ → ℕ → List ℕ → Plain S → Drain S
turning E program j places w Y =
    continue_on (commits E program Y w).answer (drain_stopped Y w)
    (finishes E program j (places - per_commit) (commits E program Y w).state (commits E program Y w).memory)

pub finishes_stops : {O S : Type 0} (E : Engine O S) (program : List ℕ) (j places : ℕ) (X : Plain S) (w : List ℕ)
    → (ltb places per_commit || program_done X) ≡ true → finishes E program j places X w ≡ drain_stopped X w
unfolding finishes
finishes_stops E program zero places X w e = refl
finishes_stops E program (suc j) places X w e =
    ap (λ (b : Bool). cond b (drain_stopped X w) (turning E program j places w (ready E program X w))) e

module _ {O S : Type 0} (E : Engine O S) (program : List ℕ) (j places : ℕ) (X : Plain S) (w : List ℕ) where
  pub finishes_limit : j ≡ 0 → finishes E program j places X w ≡ drain_stopped X w
  unfolding finishes
  finishes_limit e = ap (λ (k : ℕ). finishes E program k places X w) e

  pub finishes_short : places < per_commit → finishes E program j places X w ≡ drain_stopped X w
  finishes_short h =
      finishes_stops E program j places X w (ap (λ (b : Bool). b || program_done X) (lt-ltb places per_commit h))

  pub finishes_over : program_done X ≡ true → finishes E program j places X w ≡ drain_stopped X w
  finishes_over h =
      finishes_stops E program j places X w (ap (λ (b : Bool). ltb places per_commit || b) h ∙ or-true (ltb places per_commit))

-- ---- one turn

-- the oldest is taken to its commit
turns : {O S : Type 0} (E : Engine O S) (program : List ℕ) (k n places : ℕ) (X : Plain S) (w : List ℕ) (Y : Plain S) → n < k
    → (ltb places per_commit || program_done X) ≡ false → Y ≡ ready E program X w
    → finishes E program (k - n) places X w ≡ turning E program (k - (n + 1)) places w Y
unfolding finishes
turns E program k n places X w Y h more e =
    ap (λ (j : ℕ). finishes E program j places X w) (let j : k - n ≡ suc (k - (n + 1)) = omega arith in j)
    ∙ ap (λ (b : Bool). cond b (drain_stopped X w) (turning E program (k - (n + 1)) places w (ready E program X w))) more
    ∙ ap (turning E program (k - (n + 1)) places w) (sym e)

module _ {O S : Type 0} {E : Engine O S} (R : Realization E) (program : List ℕ) (m p u : R.Machine) (w v : List ℕ)
    (k n places : ℕ) (h : n < k) (more : (ltb places per_commit || program_done (R.plain m)) ≡ false)
    (sound : R.Sound p)
    (prepared : R.plain p ≡ ready E program (R.plain m) w) where
  -- the state that the turn commits from
  abbrev Y : Plain S
  Y = R.plain p

  -- what the turn comes to, by the answer to the commit
  abbrev answering : Answer → Drain S
  answering a =
      continue_on a (drain_stopped Y w)
      (finishes E program (k - (n + 1)) (places - per_commit) (commits E program Y w).state (commits E program Y w).memory)

  -- its commit is refused: all stays as the preparation left it
  pub turn_stops : (said : Answer) (r : ℕ) → said ≡ refused r → Meets R program p commit w said u v []
      → finishes E program (k - n) places (R.plain m) w ≡ drain_stopped (R.plain u) v
  unfolding respond
  turn_stops said r is meets =
      let answer : (commits E program Y w).answer ≡ refused r = sym (meets.answer sound) ∙ is in
      let kept = meets.refuses sound r answer in
      turns E program k n places (R.plain m) w Y h more prepared
      ∙ ap answering answer
      ∙ ap₂ (λ (q : R.Machine) (z : List ℕ). drain_stopped (R.plain q) z) (sym kept.1) (sym kept.2)

  -- it commits: one commit more, and the rest
  pub turn_goes : (said : Answer) (i c r x d : ℕ) → said ≡ committed i c r x d → Meets R program p commit w said u v []
      → finishes E program (k - n) places (R.plain m) w
      ≡ after_commit i c r x d (finishes E program (k - (n + 1)) (places - per_commit) (R.plain u) v)
  unfolding respond
  turn_goes said i c r x d is meets =
      turns E program k n places (R.plain m) w Y h more prepared
      ∙ ap answering (sym (meets.answer sound) ∙ is)
      ∙ ap₂ (λ (Z : Plain S) (z : List ℕ). after_commit i c r x d (finishes E program (k - (n + 1)) (places - per_commit) Z z))
      (sym (meets.state sound))
      (sym (meets.memory sound))

-- ---- the oldest on its way to its commit

module _ {O S : Type 0} {E : Engine O S} (R : Realization E) (program : List ℕ) (m : R.Machine) (w : List ℕ) where
  -- what it comes to by whether the window is empty
  abbrev beginning : Bool → Plain S
  beginning b = cond b (issue_result E program (R.plain m) w).state (R.plain m)

  pub begun_live : (length (R.plain m).entries ≡ 0 → ⊥) → R.plain m ≡ begun E program (R.plain m) w
  begun_live h = sym (ap beginning (ne_eqb (length (R.plain m).entries) 0 h))

  pub begun_empty : (u : R.Machine) (said : Answer) → length (R.plain m).entries ≡ 0 → R.Sound m
      → Meets R program m issue w said u w [] → R.plain u ≡ begun E program (R.plain m) w
  unfolding respond
  begun_empty u said h sound meets = meets.state sound ∙ sym (ap beginning (eq-eqb (length (R.plain m).entries) 0 h))

  module _ (b : R.Machine) (begins : R.plain b ≡ begun E program (R.plain m) w) where
    -- what the state begun comes to by whether its oldest waits
    abbrev readied : Bool → Plain S → Plain S
    readied t Y = cond t (executions E program Y w 0).state Y

    by_oldest : (t : Bool) → pending (entry_at (R.plain b).entries 0).fate ≡ t
        → readied t (R.plain b) ≡ ready E program (R.plain m) w
    by_oldest t h =
        sym (ap (λ (x : Bool). readied x (R.plain b)) h)
        ∙ ap (λ (Y : Plain S). readied (pending (entry_at Y.entries 0).fate) Y) begins

    pub ready_waiting : (u : R.Machine) (said : Answer) → R.Sound b → pending (entry_at (R.plain b).entries 0).fate ≡ true
        → Meets R program b (execute 0) w said u w [] → R.plain u ≡ ready E program (R.plain m) w
    unfolding respond
    ready_waiting u said sound h meets = meets.state sound ∙ by_oldest true h

    pub ready_executed : pending (entry_at (R.plain b).entries 0).fate ≡ false → R.plain b ≡ ready E program (R.plain m) w
    ready_executed h = by_oldest false h

-- ---- what remains

-- n commits with these numbers before the others
abbrev pub following : {S : Type 0} → List ℕ → ℕ → Drain S → Drain S
following numbers n w =
    record { state = w.state; memory = w.memory; numbers = numbers ++ w.numbers; commits = n + w.commits }

-- after n commits of a finish with limit k from X, w and the list lent, at Y, v and the list as it is now
pub record Remains {O S : Type 0} (E : Engine O S) (program : List ℕ) (k : ℕ) (X : Plain S) (w list : List ℕ) (Y : Plain S)
    (v into : List ℕ) (n : ℕ) : Type 0 where
  pub within : n ≤ k
  pub room : n * per_commit ≤ length list
  pub size : length into ≡ length list
  pub rest : drop (n * per_commit) into ≡ drop (n * per_commit) list
  pub way : finishes E program k (length list) X w
      ≡ following (take (n * per_commit) into) n (finishes E program (k - n) (length list - n * per_commit) Y v)

pub remains_all : {O S : Type 0} {E : Engine O S} (program : List ℕ) (k : ℕ) (X : Plain S) (w list : List ℕ)
    → Remains E program k X w list X w list 0
remains_all {E = E} program k X w list =
    record {
      within = omega arith;
      room = omega arith;
      size = refl;
      rest = refl;
      way = rw (sub-zero k, sub-zero (length list), zero-add (finishes E program k (length list) X w).commits);
    }

-- the numbers of one commit more stand in the list
goes_length : (into vs : List ℕ) (at : ℕ) → at + length vs ≤ length into → length (take at into ++ vs) ≡ at + length vs
goes_length into vs at fits =
    length-append (take at into) vs ∙ ap (λ (n : ℕ). n + length vs) (length-take-le at into (omega arith))

goes_numbers : (into vs rest : List ℕ) (at : ℕ) → at + length vs ≤ length into
    → take at into ++ (vs ++ rest) ≡ take (at + length vs) (sets into at vs) ++ rest
goes_numbers into vs rest at fits =
    sym (append_assoc (take at into) vs rest)
    ∙ ap (λ (l : List ℕ). l ++ rest)
    (sym
    (ap (take (at + length vs)) (sets-eq vs into at fits)
    ∙ take_at (take at into ++ vs) (drop (at + length vs) into) (at + length vs) (goes_length into vs at fits)))

goes_rest : (into vs : List ℕ) (at : ℕ) → at + length vs ≤ length into
    → drop (at + length vs) (sets into at vs) ≡ drop (at + length vs) into
goes_rest into vs at fits =
    ap (drop (at + length vs)) (sets-eq vs into at fits)
    ∙ drop_at (take at into ++ vs) (drop (at + length vs) into) (at + length vs) (goes_length into vs at fits)

module _ {O S : Type 0} {E : Engine O S} (program : List ℕ) (k : ℕ) (X : Plain S) (w list : List ℕ) (Y : Plain S)
    (v into : List ℕ) (n : ℕ) (remains : Remains E program k X w list Y v into n) where
  pub remains_goes : (i c r x d : ℕ) (Z : Plain S) (z after : List ℕ) → n < k → per_commit ≤ length list - n * per_commit
      → finishes E program (k - n) (length list - n * per_commit) Y v
      ≡ after_commit i c r x d (finishes E program (k - (n + 1)) (length list - n * per_commit - per_commit) Z z)
      → after ≡ sets into (n * per_commit) (i ∷ c ∷ r ∷ x ∷ d ∷ []) → Remains E program k X w list Z z after (n + 1)
  remains_goes i c r x d Z z after h fits turn put =
      let vs : List ℕ = i ∷ c ∷ r ∷ x ∷ d ∷ [] in
      let next : (n + 1) * per_commit ≡ n * per_commit + per_commit = omega arith in
      let inside : n * per_commit + per_commit ≤ length into = omega (arith, remains.size) in
      let W : Drain S = finishes E program (k - (n + 1)) (length list - n * per_commit - per_commit) Z z in
      record {
        within = omega arith;
        room = omega arith;
        size = ap length put ∙ length-sets into (n * per_commit) vs ∙ remains.size;
        rest = ap₂ drop next put ∙ goes_rest into vs (n * per_commit) inside ∙ sym (drop-drop per_commit (n * per_commit) into)
            ∙ ap (drop per_commit) remains.rest
            ∙ drop-drop per_commit (n * per_commit) list
            ∙ ap (λ (q : ℕ). drop q list) (sym next);
        way = remains.way
            ∙ ap (following (take (n * per_commit) into) n) turn
            ∙ ap₂
            (λ (l : List ℕ) (q : ℕ).
            let e : Drain S = record { state = W.state; memory = W.memory; numbers = l; commits = q } in
            e)
            (goes_numbers into vs W.numbers (n * per_commit) inside
            ∙ ap₂ (λ (q : ℕ) (l : List ℕ). take q l ++ W.numbers) (sym next) (sym put))
            (let e : n + suc W.commits ≡ n + 1 + W.commits = omega arith in e)
            ∙ ap (λ (q : ℕ). following (take ((n + 1) * per_commit) after) (n + 1) (finishes E program (k - (n + 1)) q Z z))
            (let e : length list - n * per_commit - per_commit ≡ length list - (n + 1) * per_commit = omega arith in e);
      }

  -- the list at the end: the numbers, and what the list held after them
  end_list : take (n * per_commit) into ++ [] ++ drop (length (take (n * per_commit) into ++ [])) list ≡ into
  end_list =
      rw (
        append-nil (take (n * per_commit) into),
        length-take-le (n * per_commit) into
            (omega (arith, remains.size, remains.room)),
      )
      (ap (λ (l : List ℕ). take (n * per_commit) into ++ l) (sym remains.rest) ∙ take-append-drop (n * per_commit) into)

-- a finish that passed its conditions and stops here
pub remains_meets : {O S : Type 0} {E : Engine O S} (R : Realization E) (program : List ℕ) (k : ℕ) (m s u : R.Machine)
    (w list v z into : List ℕ) (n : ℕ) → R.Sound m → refusal (finish_checks E program (R.plain m) w) ≡ 0
    → Remains E program k (R.plain m) w list (R.plain s) v into n
    → finishes E program (k - n) (length list - n * per_commit) (R.plain s) v ≡ drain_stopped (R.plain u) z → R.Sound u
    → Meets R program m (finish k list) w (finished n) u z into
unfolding respond
remains_meets {S = S} {E = E} R program k m s u w list v z into n sound passed remains e ends =
    accepted_meets R.Sound R.plain m (respond E program (finish k list) (R.plain m) w) w list u z into (finished n)
    (record { answer = finished n; state = R.plain u; memory = z; list = into })
    sound
    (judged_accepted (refusal (finish_checks E program (R.plain m) w)) (R.plain m) w list
    (drained list (finishes E program k (length list) (R.plain m) w))
    passed
    ∙ ap (drained list) (remains.way ∙ ap (following (take (n * per_commit) into) n) e)
    ∙ ap₂
    (λ (q : ℕ) (l : List ℕ). let r : Result S = record { answer = finished q; state = R.plain u; memory = z; list = l } in r)
    (let q : n + 0 ≡ n = omega arith in q)
    (end_list program k (R.plain m) w list (R.plain s) v into n remains))
    tt
    refl
    refl
    refl
    refl
    ends
