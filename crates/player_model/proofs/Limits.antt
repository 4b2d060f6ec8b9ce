-- A finish of a script, with limit k and room for all its commits, as finishes with a list of one commit. Of the list
-- a turn asks only whether a commit's places are left (Turn), so with those of one commit the first turn is the same, and then
-- the list is full: no commit was made, and the whole finish stops there too (told_none), or one, and the whole finish goes
-- on from there with limit k - 1 (told_one). A linked state is not refused (response), and the lines of a way with one
-- commit more begin with that commit's (telling_onward). With the machine's contract these are the steps of a player
-- that is finishing (limit_reached, finish_made).
-- Assumes nothing.
use mathlib.Core.Path.{◌≡◌, refl, sym, ap, ap₂, subst, ◌∙◌}
use mathlib.Core.Bool.{Bool, true, false, cond, ◌||◌}
use mathlib.Core.List.{List, [], ◌++◌, append_assoc}
use Prim.Native.Nat.{ℕ, zero, suc, ◌+◌, ◌-◌, ◌*◌, ◌≤◌, ◌<◌}
use native.Mathlib.Nat.{add-zero}
use native.Mathlib.Omega.{arith}
use lib.ListN.{length, drop, replicate, length-replicate}
use lib.Dec.{eqb, ltb}
use lib.Seq.{take_at}
use borrow.Author.Tests.{le-ltb, lt-ltb, ltb-true, ltb-false, eq-eqb, ne_eqb, eqb-true, eqb-false}
use Rattle.table.specs.Reference.{State}
use Rattle.engine.specs.Contract.{refused, named, executed, done, committed, finished}
use Rattle.engine.specs.Conditions.{refusal}
use Rattle.engine.proofs.Meeting.{judged_accepted}
use Rattle.machine_model.specs.declared.Machine.{Machine}
use Rattle.machine_model.specs.Over
use Rattle.machine_model.specs.Calls.{
  Plain,
  Call,
  finish,
  Answer,
  Result,
  finish_checks,
  commits,
  ready,
  program_done,
  Drain,
  per_commit,
  after_commit,
}
use Rattle.machine_model.specs.Calls.{buffered, continue_on, drain_stopped, finishes, drained, respond}
use Rattle.machine_model.specs.Contract.{plain, Meets}
use Rattle.machine_model.proofs.Finishes.{finishes_limit, finishes_short}
use Rattle.sequential.specs.Play.{recorded, commits_in, Played}
use Rattle.sequential.proofs.Owing.{Linked}
use Rattle.theorem.proofs.Buffered.{buffer_owes}
use Rattle.sequential.proofs.Links.{lent_passes}
use Rattle.sequential.proofs.Finishing.{respond_links}
use Rattle.player_model.specs.declared.Phase.{Phase}
use Rattle.player_model.specs.declared.Phase.TheVariants.{Stepping, Finishing}
use Rattle.script_model.specs.Language.{Steps, before}
use Rattle.script_model.specs.Output.{committed_lines, commit_lines, transcript}
use Rattle.player_model.specs.Playing.{count_most, one_more, first_lines, told_by, counted_by, phase_after}
use Rattle.player_model.proofs.Invariant.{standing, left_in, due, Usable, InUse, rank}
use Rattle.player_model.proofs.Phases.{Goes}
use Rattle.script_model.proofs.Telling.{told_before}

-- ---- one turn

-- wherever the places of a commit are left, the first turn stops at the same state, or makes the same commit
data Turn (program : List ℕ) (j : ℕ) (X : Plain) (w : List ℕ) : Type 0 where
  stops : (Y : Plain) → ((places : ℕ) → per_commit ≤ places → finishes program (suc j) places X w ≡ drain_stopped Y w)
      → Turn program j X w
  goes : (i c r v d : ℕ) (Z : Plain) (z : List ℕ)
      → ((places : ℕ) → per_commit ≤ places
      → finishes program (suc j) places X w ≡ after_commit i c r v d (finishes program j (places - per_commit) Z z))
      → Turn program j X w

module _ (program : List ℕ) (j : ℕ) (X : Plain) (w : List ℕ) where
  abbrev answer : Answer
  answer = (commits program (ready program X w) w).answer

  -- a turn by whether the program is over, and by the answer to its commit
  abbrev turning : Bool → Answer → ℕ → Drain
  turning t a places =
      let r = commits program (ready program X w) w in
      cond t (drain_stopped X w)
      (continue_on a (drain_stopped (ready program X w) w) (finishes program j (places - per_commit) r.state r.memory))

  unfolds : (places : ℕ) → per_commit ≤ places
      → finishes program (suc j) places X w ≡ turning (program_done X) answer places
  unfolding Over.finishes
  unfolds places room =
      ap (λ (b : Bool). turning (b || program_done X) answer places) (le-ltb places per_commit room)

  answered : (a : Answer)
      → ((places : ℕ) → per_commit ≤ places → finishes program (suc j) places X w ≡ turning false a places) → Turn program j X w
  answered (refused k) e = stops (ready program X w) e
  answered (named p) e = stops (ready program X w) e
  answered (executed v d s) e = stops (ready program X w) e
  answered done e = stops (ready program X w) e
  answered (committed i c r v d) e =
      goes i c r v d (commits program (ready program X w) w).state (commits program (ready program X w) w).memory e
  answered (finished n) e = stops (ready program X w) e

  turn : Turn program j X w
  turn = go (program_done X) refl
    where
      go : (t : Bool) → program_done X ≡ t → Turn program j X w
      go true e = stops X (λ places room. unfolds places room ∙ ap (λ (t : Bool). turning t answer places) e)
      go false e =
          answered answer (λ places room. unfolds places room ∙ ap (λ (t : Bool). turning t answer places) e)

-- ---- what a finish answers and records

-- the numbers are those of whole commits
abbrev Counted : Drain → Type 0
Counted W = length W.numbers ≡ W.commits * per_commit

all_counted : (program : List ℕ) (k places : ℕ) (X : Plain) (w : List ℕ)
    → Counted (finishes program k places X w)
all_counted program zero places X w = subst Counted (sym (finishes_limit buffered program 0 places X w refl)) refl
all_counted program (suc j) places X w =
    by_places (ltb places per_commit) refl (λ Z z. all_counted program j (places - per_commit) Z z)
  where
    by_turn : per_commit ≤ places → Turn program j X w
        → ((Z : Plain) (z : List ℕ) → Counted (finishes program j (places - per_commit) Z z))
        → Counted (finishes program (suc j) places X w)
    by_turn room (stops Y e) rest = subst Counted (sym (e places room)) refl
    by_turn room (goes i c r v d Z z e) rest =
        subst Counted (sym (e places room)) (let h = rest Z z in omega arith)

    by_places : (t : Bool) → ltb places per_commit ≡ t
        → ((Z : Plain) (z : List ℕ) → Counted (finishes program j (places - per_commit) Z z))
        → Counted (finishes program (suc j) places X w)
    by_places true e rest =
        subst Counted (sym (finishes_short buffered program (suc j) places X w (ltb-true places per_commit e))) refl
    by_places false e rest = by_turn (ltb-false places per_commit e) (turn program j X w) rest

-- a linked state is not refused
response : (program : List ℕ) (X : Plain) (w : List ℕ) → Linked buffer_owes program X w → (k : ℕ) (list : List ℕ)
    → respond program (finish k list) X w ≡ drained list (finishes program k (length list) X w)
unfolding Over.respond
response program X w linked k list =
    judged_accepted (refusal (finish_checks program X w)) X w list (drained list (finishes program k (length list) X w))
    (lent_passes buffer_owes program X w linked [])

-- ---- what is told

-- nothing recorded yet
abbrev at : Plain → List ℕ → ℕ → Played State
at X w n = record { state = X; memory = w; record' = []; commits = n }

-- a finish as a script has it: with room for all of its commits
abbrev whole : ℕ → Call
whole k = finish k (replicate (k * per_commit) 0)

-- the lines of a way's numbers, and what is told from its end
abbrev telling : List ℕ → ℕ → Steps → Drain → List ℕ
telling program n more W = commit_lines W.numbers ++ transcript program (at W.state W.memory (n + W.commits)) more

whole_told : (program : List ℕ) (X : Plain) (w : List ℕ) → Linked buffer_owes program X w → (k n : ℕ) (more : Steps)
    → transcript program (at X w n) (before (whole k) more) ≡ telling program n more (finishes program k (k * per_commit) X w)
whole_told program X w linked k n more =
    let list : List ℕ = replicate (k * per_commit) 0 in
    let W = finishes program k (length list) X w in
    let h : Counted W = all_counted program k (length list) X w in
    told_before program (at X w n) (whole k) more W.numbers W.state W.memory (n + W.commits)
    (ap
    (λ (r : Result).
    let x : Played State =
    record {
      state = r.state;
      memory = r.memory;
      record' = recorded r.answer r.list;
      commits = n + commits_in r.answer;
    } in
    x)
    (response program X w linked k list)
    ∙ ap
    (λ (l : List ℕ).
    let x : Played State = record { state = W.state; memory = W.memory; record' = l; commits = n + W.commits } in
    x)
    (take_at W.numbers (drop (length W.numbers) list) (W.commits * per_commit) h))
    (omega arith)
    ∙ ap (λ (places : ℕ). telling program n more (finishes program k places X w)) (length-replicate (k * per_commit) 0)

-- a way that stopped at once tells nothing
telling_stopped : (program : List ℕ) (n : ℕ) (more : Steps) (Y : Plain) (w : List ℕ)
    → telling program n more (drain_stopped Y w) ≡ transcript program (at Y w n) more
unfolding commit_lines
telling_stopped program n more Y w = rw (add-zero n)

-- a way with one commit more tells that commit first
telling_onward : (program : List ℕ) (n : ℕ) (more : Steps) (i c r v d : ℕ) (W : Drain)
    → telling program n more (after_commit i c r v d W) ≡ committed_lines i c r v d ++ telling program (suc n) more W
unfolding commit_lines
telling_onward program n more i c r v d W =
    append_assoc (committed_lines i c r v d) (commit_lines W.numbers)
    (transcript program (at W.state W.memory (n + suc W.commits)) more)
    ∙ ap
    (λ (q : ℕ).
    committed_lines i c r v d ++ (commit_lines W.numbers ++ transcript program (at W.state W.memory q) more))
    (let q : n + suc W.commits ≡ suc n + W.commits = omega arith in q)

-- a limit of 0 does nothing
pub told_nothing : (program : List ℕ) (X : Plain) (w : List ℕ) → Linked buffer_owes program X w → (n : ℕ) (more : Steps)
    → transcript program (at X w n) (before (whole 0) more) ≡ transcript program (at X w n) more
told_nothing program X w linked n more =
    whole_told program X w linked 0 n more
    ∙ ap (telling program n more) (finishes_limit buffered program 0 0 X w refl)
    ∙ telling_stopped program n more X w

-- a finish with a list of one commit, by its first turn
module _ (program : List ℕ) (X : Plain) (w : List ℕ) (linked : Linked buffer_owes program X w) (j : ℕ) (list : List ℕ)
    (room : length list ≡ per_commit) (n : ℕ) (more : Steps) where
  abbrev short : Result
  short = respond program (finish (suc j) list) X w

  abbrev None : Result → Type 0
  None r = transcript program (at X w n) (before (whole (suc j)) more) ≡ transcript program (at r.state r.memory n) more

  abbrev One : Result → Type 0
  One r =
      transcript program (at X w n) (before (whole (suc j)) more)
      ≡ first_lines r.list ++ transcript program (at r.state r.memory (suc n)) (before (whole j) more)

  -- the long finish, by its first turn
  first_told : (W : Drain) → finishes program (suc j) (suc j * per_commit) X w ≡ W
      → transcript program (at X w n) (before (whole (suc j)) more) ≡ telling program n more W
  first_told W e = whole_told program X w linked (suc j) n more ∙ ap (telling program n more) e

  stops_short : (Y : Plain) → ((places : ℕ) → per_commit ≤ places → finishes program (suc j) places X w ≡ drain_stopped Y w)
      → short ≡ drained list (drain_stopped Y w)
  stops_short Y e =
      response program X w linked (suc j) list ∙ ap (drained list) (e (length list) (omega (arith, room)))

  goes_short : (i c r v d : ℕ) (Z : Plain) (z : List ℕ)
      → ((places : ℕ) → per_commit ≤ places
      → finishes program (suc j) places X w ≡ after_commit i c r v d (finishes program j (places - per_commit) Z z))
      → short ≡ drained list (after_commit i c r v d (drain_stopped Z z))
  goes_short i c r v d Z z e =
      response program X w linked (suc j) list
      ∙ ap (drained list)
      (e (length list) (omega (arith, room))
      ∙ ap (after_commit i c r v d) (finishes_short buffered program j (length list - per_commit) Z z (omega (arith, room))))

  none_told : commits_in short.answer ≡ 0 → None short
  none_told h = go (turn program j X w)
    where
      go : Turn program j X w → None short
      go (stops Y e) =
          subst None (sym (stops_short Y e))
          (first_told (drain_stopped Y w) (e (suc j * per_commit) (omega arith)) ∙ telling_stopped program n more Y w)
      go (goes i c r v d Z z e) =
          let made = ap (λ (r : Result). commits_in r.answer) (goes_short i c r v d Z z e) in
          absurd (let q : 1 ≡ 0 = sym made ∙ h in omega arith)

  one_told : (commits_in short.answer ≡ 0 → ⊥) → One short
  one_told h = go (turn program j X w)
    where
      go : Turn program j X w → One short
      go (stops Y e) = absurd (h (ap (λ (r : Result). commits_in r.answer) (stops_short Y e)))
      go (goes i c r v d Z z e) =
          let is = goes_short i c r v d Z z e in
          let again : Linked buffer_owes program Z z =
          subst (λ (r : Result). Linked buffer_owes program r.state r.memory) is
          (respond_links buffer_owes program (finish (suc j) list) X w linked).linked in
          subst One (sym is)
          (first_told (after_commit i c r v d (finishes program j (suc j * per_commit - per_commit) Z z))
          (e (suc j * per_commit) (omega arith))
          ∙ telling_onward program n more i c r v d (finishes program j (suc j * per_commit - per_commit) Z z)
          ∙ ap (λ (l : List ℕ). committed_lines i c r v d ++ l)
          (ap (λ (places : ℕ). telling program (suc n) more (finishes program j places Z z))
          (let q : suc j * per_commit - per_commit ≡ j * per_commit = omega arith in q)
          ∙ sym (whole_told program Z z again j (suc n) more)))

-- The same by the limit k. No commit was made:
pub told_none : (program : List ℕ) (X : Plain) (w : List ℕ) → Linked buffer_owes program X w → (k : ℕ) → (k ≡ 0 → ⊥)
    → (list : List ℕ) → length list ≡ per_commit → (n : ℕ) (more : Steps)
    → let r = respond program (finish k list) X w in
    commits_in r.answer ≡ 0
    → transcript program (at X w n) (before (whole k) more) ≡ transcript program (at r.state r.memory n) more
told_none program X w linked zero some list room n more h = absurd (some refl)
told_none program X w linked (suc j) some list room n more h = none_told program X w linked j list room n more h

-- or one:
pub told_one : (program : List ℕ) (X : Plain) (w : List ℕ) → Linked buffer_owes program X w → (k : ℕ) → (k ≡ 0 → ⊥)
    → (list : List ℕ) → length list ≡ per_commit → (n : ℕ) (more : Steps)
    → let r = respond program (finish k list) X w in
    (commits_in r.answer ≡ 0 → ⊥)
    → transcript program (at X w n) (before (whole k) more)
    ≡ first_lines r.list ++ transcript program (at r.state r.memory (suc n)) (before (whole (k - 1)) more)
told_one program X w linked zero some list room n more h = absurd (some refl)
told_one program X w linked (suc j) some list room n more h =
    let r = respond program (finish (suc j) list) X w in
    one_told program X w linked j list room n more h
    ∙ ap (λ (q : ℕ). first_lines r.list ++ transcript program (at r.state r.memory (suc n)) (before (whole q) more))
    (let q : j ≡ suc j - 1 = omega arith in q)

-- ---- the player

-- a limit of 0: the next step comes
pub limit_reached : (program : List ℕ) (m : Machine) (n k : ℕ) (memory : List ℕ) → k ≡ 0
    → Goes program (Finishing k) m memory n [] Stepping m memory n
limit_reached program m n k memory e =
    record {
      lent = refl;
      falls = omega arith;
      plays = λ _. refl;
      goes = λ usable few. (
        λ more. ap (λ (k : ℕ). transcript program (standing m memory n) (before (whole k) more)) e
            ∙ told_nothing program (plain m) memory usable.linked n more,
        usable,
        omega arith,
      );
    }

-- A finish with a list of one commit. No commit was made: the end of the program or a fault, so the whole finish ends here. Or
-- one, which is printed: the finish goes on with one commit less.
module _ (program : List ℕ) (m u : Machine) (n k : ℕ) (memory after list left : List ℕ) (said : Answer)
    (some : k ≡ 0 → ⊥) (room : length list ≡ per_commit) (meets : Meets program m (finish k list) memory said u after left)
    (lent : length after ≡ length memory) where
  -- where the machine's finish left this machine and memory
  abbrev made : Result
  made = respond program (finish k list) (plain m) memory

  used : Usable program m memory → Usable program u after
  used usable =
      record {
        sound = meets.lawful usable.sound;
        linked = subst (λ (X : Plain). Linked buffer_owes program X after) (sym (meets.state usable.sound))
            (subst (λ (w : List ℕ). Linked buffer_owes program made.state w) (sym (meets.memory usable.sound))
            (respond_links buffer_owes program (finish k list) (plain m) memory usable.linked).linked);
      }

  -- it answers how many commits were made
  answers : Usable program m memory → (x : ℕ) × (said ≡ finished x)
  answers usable =
      let W = finishes program k (length list) (plain m) memory in (
        W.commits,
        meets.answer usable.sound
            ∙ ap (λ (r : Result). r.answer) (response program (plain m) memory usable.linked k list),
      )

  abbrev phased : Bool → Phase
  phased t = cond t Stepping (Finishing (k - 1))

  by_commits : (t : Bool) → eqb (commits_in said) 0 ≡ t → Usable program m memory → n < count_most
      → ((more : Steps)
      → transcript program (standing m memory n) (before (whole k) more)
      ≡ told_by said left ++ left_in program (phased t) more (standing u after (cond t n (one_more n))))
      × InUse (phased t) program u after
      × (cond t n (one_more n) + due (phased t) ≤ n + k)
  by_commits true e usable few =
      let x = answers usable in
      let none : commits_in said ≡ 0 = eqb-true (commits_in said) 0 e in
      let silent : told_by said left ≡ [] =
      ap (λ (a : Answer). told_by a left) x.1
      ∙ ap (λ (b : Bool). cond b [] (first_lines left)) (eq-eqb x.0 0 (sym (ap commits_in x.1) ∙ none)) in (
        λ more.
            told_none program (plain m) memory usable.linked k some list room n more
            (ap commits_in (sym (meets.answer usable.sound)) ∙ none)
            ∙ ap₂ (λ (X : Plain) (w : List ℕ). transcript program (at X w n) more)
            (sym (meets.state usable.sound))
            (sym (meets.memory usable.sound))
            ∙ ap (λ (l : List ℕ). l ++ transcript program (standing u after n) more) (sym silent),
        used usable,
        omega arith,
      )
  by_commits false e usable few =
      let x = answers usable in
      let one : commits_in said ≡ 0 → ⊥ = eqb-false (commits_in said) 0 e in
      let next : suc n ≡ one_more n = ap (λ (b : Bool). cond b (suc n) n) (sym (lt-ltb n count_most few)) in
      let spoken : told_by said left ≡ first_lines left =
      ap (λ (a : Answer). told_by a left) x.1
      ∙ ap (λ (b : Bool). cond b [] (first_lines left)) (ne_eqb x.0 0 (λ z. one (ap commits_in x.1 ∙ z))) in (
        λ more.
            told_one program (plain m) memory usable.linked k some list room n more
            (λ z. one (ap commits_in (meets.answer usable.sound) ∙ z))
            ∙ ap₂
            (λ (l : List ℕ) (q : ℕ).
            first_lines l ++ transcript program (at made.state made.memory q) (before (whole (k - 1)) more))
            (sym (meets.list usable.sound))
            next
            ∙ ap₂
            (λ (X : Plain) (w : List ℕ).
            first_lines left ++ transcript program (at X w (one_more n)) (before (whole (k - 1)) more))
            (sym (meets.state usable.sound))
            (sym (meets.memory usable.sound))
            ∙ ap (λ (l : List ℕ). l ++ transcript program (standing u after (one_more n)) (before (whole (k - 1)) more))
            (sym spoken),
        used usable,
        omega (arith, some, next),
      )

  falling : (t : Bool) → rank (length memory) (phased t) < rank (length memory) (Finishing k)
  falling true = omega arith
  falling false = omega (arith, some)

  pub finish_made : Goes program (Finishing k) m memory n (told_by said left) (phase_after (finish k list) said) u after
      (counted_by said n)
  finish_made =
      record {
        lent = lent;
        falls = falling (eqb (commits_in said) 0);
        plays = λ _. refl;
        goes = λ usable few. by_commits (eqb (commits_in said) 0) refl usable (few refl);
      }
