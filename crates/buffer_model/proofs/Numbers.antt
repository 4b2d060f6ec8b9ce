-- What the calls do to the window's stages and issue numbers, over the plain state.
-- A call keeps a prefix of the live references under their numbers, adds one under the next number, or retires the
-- oldest (Moves, moves). So a live position after it is one from before with its stage and number, or the new youngest
-- (kept_holds, issued_holds, retired_holds). A ticket is dead when whatever is live at its stage was issued j issues after it,
-- 1 ≤ j ≤ k, where k issues came after it (Dead). Every call moves a ticket's reference as specs/Life.antt says, or leaves the
-- ticket dead, and a dead one stays dead (tracked_on). While k < 2 ^ 32 a dead ticket names nothing (dead_unnamed).
-- Assumes nothing.
use mathlib.Core.Bool.{Bool, true, false, cond, ◌&&◌, and-eq-true_iff}
use mathlib.Core.List.{List, [], ◌∷◌}
use mathlib.Core.Logic.{◌⊎◌, inl, inr, ⊎_elim}
use mathlib.Core.Option.{Option, none, some}
use mathlib.Core.Path.{◌≡◌, refl, sym, ap, ap₂, subst, ◌∙◌}
use Prim.Native.Nat.{ℕ, zero, suc, ◌+◌, ◌%◌, ◌^◌, ◌≤◌, ◌<◌}
use native.Mathlib.Nat.{eq-or-lt_of_le, le_of_suc-le-suc, le_refl}
use native.Mathlib.Omega.{arith}
use lib.Dec.{eqb, ltb}
use lib.ListN.{length, take, set, length-append, length-take, length-drop, length-set, get_or-append}
use lib.Seq.{get_or_at, get_or-take, get_or-drop, get_or-set_same, get_or-set_other}
use borrow.Author.Tests.{ltb-true, ltb-false, lt-ltb, eqb-true, eqb-false, eq-eqb}
use Rattle.marks.specs.Circle.{stage, position}
use Rattle.marks.proofs.Turns.{stage_lt, position_stage, stage_position, stage_from}
use Rattle.table.specs.declared.Ticket.{Ticket}
use Rattle.table.specs.Reference.{Fate, waiting, Ref, ref, number_of, blank, at, State}
use Rattle.table.specs.Moves.{issued, squash_to, retire}
use Rattle.lookup.specs.Outcome.{survivors, executes}
use Rattle.engine.specs.Contract.{refused}
use Rattle.engine.specs.Opening.{opening}
use Rattle.engine.proofs.Meeting.{turned}
use Rattle.buffer_model.specs.Answers.{Answer}
use Rattle.buffer_model.specs.Refusals.{place, names}
use Rattle.buffer_model.specs.Calls.{Call, issue, execute, squash, commit, comes_to}
use Rattle.buffer_model.specs.Calls.{Result, accepted_result, refusal_of, respond}
use Rattle.buffer_model.specs.Life.{Event, event, with_issue, unless_squashed, unless_committed, moved_to, onward}

-- the issue number of the reference at position p
abbrev pub number_at : State → ℕ → ℕ
number_at P p = number_of (at P.refs p)

-- the window fits the circle
pub record Fits (P : State) : Type 0 where
  pub start : P.oldest < P.stages
  pub live_bounded : length P.refs ≤ P.stages

-- the reference at position p is live, and its stage is s
pub record Holds (P : State) (s p : ℕ) : Type 0 where
  pub live : p < length P.refs
  pub stage : stage P.oldest P.stages p ≡ s

-- Q has the oldest references of P, under their numbers
pub record Keeps (P Q : State) : Type 0 where
  pub stages : Q.stages ≡ P.stages
  pub oldest : Q.oldest ≡ P.oldest
  pub next : Q.next ≡ P.next
  pub fewer : length Q.refs ≤ length P.refs
  pub numbers : (p : ℕ) → p < length Q.refs → number_at Q p ≡ number_at P p

-- the event of a call with this answer that left Q
abbrev pub leaving : Call → Answer → State → Event
leaving c said Q = event c said (length Q.refs)

-- What the call c with this answer makes of P, how many issues that adds to n, and where it moves position p.
pub data Moves (c : Call) (said : Answer) (P : State) : State → Type 0 where
  keeps : {Q : State} → Keeps P Q → ((n : ℕ) → with_issue (leaving c said Q) n ≡ n)
      → ((p : ℕ) → moved_to (leaving c said Q) p ≡ unless_squashed (length Q.refs) p) → Moves c said P Q
  grows : ((n : ℕ) → with_issue (leaving c said (issued P)) n ≡ suc n)
      → ((p : ℕ) → moved_to (leaving c said (issued P)) p ≡ unless_squashed (length (issued P).refs) p)
      → Moves c said P (issued P)
  retires : ((n : ℕ) → with_issue (leaving c said (retire P)) n ≡ n)
      → ((p : ℕ) → moved_to (leaving c said (retire P)) p ≡ unless_committed p) → Moves c said P (retire P)

keeps_all : (P : State) → Keeps P P
keeps_all P =
    record { stages = refl; oldest = refl; next = refl; fewer = le_refl (length P.refs); numbers = λ p h. refl }

keeps_first : (P : State) (k : ℕ) → Keeps P (squash_to P k)
keeps_first P k =
    record {
      stages = refl;
      oldest = refl;
      next = refl;
      fewer = omega (arith, length-take k P.refs);
      numbers = λ p h. ap number_of (get_or-take k P.refs p blank (omega (arith, length-take k P.refs)));
    }

-- a fate set at position p leaves every number
fate_number : (l : List Ref) (p q : ℕ) (f : Fate) → q < length l
    → number_of (at (set l p (ref (number_of (at l p)) f)) q) ≡ number_of (at l q)
fate_number l p q f h = go (eqb q p) refl
  where
    go : (t : Bool) → eqb q p ≡ t → number_of (at (set l p (ref (number_of (at l p)) f)) q) ≡ number_of (at l q)
    go true e =
        let same : q ≡ p = eqb-true q p e in
        ap (λ (k : ℕ). number_of (at (set l p (ref (number_of (at l p)) f)) k)) same
        ∙ ap number_of (get_or-set_same l p (ref (number_of (at l p)) f) blank (omega arith))
        ∙ ap (λ (k : ℕ). number_of (at l k)) (sym same)
    go false e = ap number_of (get_or-set_other l p q (ref (number_of (at l p)) f) blank (eqb-false q p e))

keeps_executes : (P : State) (p : ℕ) (f : Fate) → Keeps P (executes P p f)
keeps_executes P p f =
    let k = survivors P p f in
    let l = take k P.refs in
    let held = keeps_first P k in
    let long = length-set l p (ref (number_of (at l p)) f) in
    record {
      stages = refl;
      oldest = refl;
      next = refl;
      fewer = omega arith;
      numbers = λ q h. fate_number l p q f (omega arith) ∙ held.numbers q (omega arith);
    }

-- a refusal counts no issue and drops nothing
refused_moves : (c : Call) (k : ℕ) (P : State) → Moves c (refused k) P P
refused_moves issue k P = keeps (keeps_all P) (λ n. refl) (λ p. refl)
refused_moves (execute τ act) k P = keeps (keeps_all P) (λ n. refl) (λ p. refl)
refused_moves (squash τ) k P = keeps (keeps_all P) (λ n. refl) (λ p. refl)
refused_moves commit k P = keeps (keeps_all P) (λ n. refl) (λ p. refl)

accepted_moves : (c : Call) (P : State) (m : List ℕ) → Moves c (accepted_result c P m).answer P (accepted_result c P m).state
accepted_moves issue P m = grows (λ n. refl) (λ p. refl)
accepted_moves (execute τ act) P m = keeps (keeps_executes P (place P τ) (comes_to P m τ act)) (λ n. refl) (λ p. refl)
accepted_moves (squash τ) P m = keeps (keeps_first P (place P τ)) (λ n. refl) (λ p. refl)
accepted_moves commit P m = retires (λ n. refl) (λ p. refl)

pub moves : (c : Call) (P : State) (m : List ℕ) → Moves c (respond c P m).answer P (respond c P m).state
unfolding respond
moves c P m = go (eqb (refusal_of c P m) 0)
  where
    go : (b : Bool)
        → Moves c (cond {A = Result} b (accepted_result c P m) (turned (refusal_of c P m) P m [])).answer P
        (cond {A = Result} b (accepted_result c P m) (turned (refusal_of c P m) P m [])).state
    go true = accepted_moves c P m
    go false = refused_moves c (refusal_of c P m) P

-- the stages held after a move were held before it, or the youngest is new
kept_holds : {P Q : State} {s p : ℕ} → Keeps P Q → Holds Q s p → Holds P s p
kept_holds {P} {Q} {s} {p} k h =
    record { live = omega arith; stage = rw (k.oldest, k.stages) at h.stage }

issued_holds : (P : State) (s p : ℕ) → Holds (issued P) s p
    → (Holds P s p × (number_at (issued P) p ≡ number_at P p)) ⊎ (number_at (issued P) p ≡ P.next)
issued_holds P s p h =
    ⊎_elim
    (λ (e : p ≡ length P.refs). inr (ap number_of (get_or_at P.refs new [] blank p (sym e))))
    (λ (l : p < length P.refs).
    inl (record { live = l; stage = h.stage }, ap number_of (get_or-append P.refs (new ∷ []) blank p l)))
    (eq-or-lt_of_le (le_of_suc-le-suc (omega (arith, length-append P.refs (new ∷ [])))))
  where
    new : Ref
    new = ref P.next waiting

retired_holds : (P : State) (s p : ℕ) → Fits P → Holds (retire P) s p
    → Holds P s (1 + p) × (number_at (retire P) p ≡ number_at P (1 + p))
retired_holds P s p f h =
    let l : 1 + p < length P.refs = omega (arith, length-drop 1 P.refs) in (
      record {
        live = l;
        stage = sym (stage_from P.oldest P.stages f.start 1 p (omega arith)) ∙ h.stage;
      },
      ap number_of (get_or-drop 1 P.refs p blank),
    )

-- "The first issue number is 0, and each successful issue adds one, wrapping from 4,294,967,295 to 0."
pub first_number : (banks rows stages words : ℕ) → (opening banks rows stages words).next ≡ 0
first_number banks rows stages words = refl

pub next_number : (P : State) → P.next < 4294967295 → (issued P).next ≡ P.next + 1
next_number P h = omega (arith, h)

pub last_number : (P : State) → P.next ≡ 4294967295 → (issued P).next ≡ 0
last_number P h = omega (arith, h)

-- a ticket names the reference at its stage that has its number
named_holds : (P : State) (τ : Ticket) → Fits P → names P τ ≡ true
    → Holds P τ.stage (place P τ) × (number_at P (place P τ) ≡ τ.number)
named_holds P τ f e =
    let p = place P τ in
    let live : Bool = ltb p (length P.refs) in
    let right : Bool = eqb (number_at P p) τ.number in
    let outer = (and-eq-true_iff (ltb τ.stage P.stages) (live && right)).0 e in
    let inner = (and-eq-true_iff live right).0 outer.1 in (
      record {
        live = ltb-true p (length P.refs) inner.0;
        stage =
            stage_position P.oldest P.stages f.start τ.stage (ltb-true τ.stage P.stages outer.0);
      },
      eqb-true (number_at P p) τ.number inner.1,
    )

pub holds_place : (P : State) (τ : Ticket) (p : ℕ) → Fits P → Holds P τ.stage p → place P τ ≡ p
holds_place P τ p f h =
    ap (position P.oldest P.stages) (sym h.stage)
    ∙ position_stage P.oldest P.stages f.start p (omega arith)

pub holds_named : (P : State) (τ : Ticket) (p : ℕ) → Fits P → Holds P τ.stage p → number_at P p ≡ τ.number
    → names P τ ≡ true
holds_named P τ p f h e =
    let q : place P τ ≡ p = holds_place P τ p f h in
    let l : τ.stage < P.stages = rw h.stage at (stage_lt P.oldest P.stages f.start p (omega arith)) in
    let live = lt-ltb (place P τ) (length P.refs) (omega arith) in
    let right = eq-eqb (number_at P (place P τ)) τ.number (ap (number_at P) q ∙ e) in
    ap₂ ◌&&◌ (lt-ltb τ.stage P.stages l) (ap₂ ◌&&◌ live right)

pub unnamed : (P : State) (τ : Ticket) → Fits P → ((p : ℕ) → Holds P τ.stage p → number_at P p ≡ τ.number → ⊥)
    → names P τ ≡ false
unnamed P τ f free = go (names P τ) refl
  where
    go : (t : Bool) → names P τ ≡ t → t ≡ false
    go true e = let h = named_holds P τ f e in absurd (free (place P τ) h.0 h.1)
    go false e = refl

-- k issues came after the ticket's own
abbrev pub Since : Ticket → ℕ → State → Type 0
Since τ k P = P.next ≡ (τ.number + 1 + k) % 2 ^ 32

-- x is the number of one of the k issues after the ticket's own
abbrev pub Later : Ticket → ℕ → ℕ → Type 0
Later τ k x = (j : ℕ) × (0 < j) × (j ≤ k) × (x ≡ (τ.number + j) % 2 ^ 32)

-- k issues came after the ticket's own, and what is at its stage is of one of them
pub record Dead (τ : Ticket) (k : ℕ) (P : State) : Type 0 where
  pub since : Since τ k P
  pub later : (p : ℕ) → Holds P τ.stage p → Later τ k (number_at P p)

-- k issues came after the ticket's own, and its reference is at position p
pub record Held (τ : Ticket) (k p : ℕ) (P : State) : Type 0 where
  pub since : Since τ k P
  pub holds : Holds P τ.stage p
  pub number : number_at P p ≡ τ.number

-- the ticket's reference is at this position, or the ticket is dead
abbrev pub Tracked : Ticket → ℕ → Option ℕ → State → Type 0
Tracked τ k none P = Dead τ k P
Tracked τ k (some p) P = Held τ k p P

-- one position has the ticket's stage
the_place : (P : State) (τ : Ticket) (p q : ℕ) → Fits P → Holds P τ.stage p → Holds P τ.stage q → p ≡ q
the_place P τ p q f h g = sym (holds_place P τ p f h) ∙ holds_place P τ q f g

module _ (τ : Ticket) (n : ℕ) {c : Call} {said : Answer} {P : State} (f : Fits P) where
  since_on : {Q : State} → Moves c said P Q → Since τ n P → Since τ (with_issue (leaving c said Q) n) Q
  since_on (keeps held count to) s = omega (arith, count n)
  since_on (grows count to) s = omega (arith, count n)
  since_on (retires count to) s = omega (arith, count n)

  later_on : {Q : State} → Moves c said P Q → Dead τ n P → (p : ℕ) → Holds Q τ.stage p
      → Later τ (with_issue (leaving c said Q) n) (number_at Q p)
  later_on (keeps held count to) d p h =
      let l = d.later p (kept_holds held h) in
      (l.0, l.1, omega (arith, count n), held.numbers p h.live ∙ l.3)
  later_on (grows count to) d p h =
      ⊎_elim
      (λ w. let l = d.later p w.0 in (l.0, l.1, omega (arith, count n), w.1 ∙ l.3))
      (λ w. (suc n, omega arith, omega (arith, count n), omega arith))
      (issued_holds P τ.stage p h)
  later_on (retires count to) d p h =
      let old = retired_holds P τ.stage p f h in
      let l = d.later (1 + p) old.0 in
      (l.0, l.1, omega (arith, count n), old.1 ∙ l.3)

  held_on : {Q : State} (move : Moves c said P Q) (p : ℕ) → Held τ n p P
      → Tracked τ (with_issue (leaving c said Q) n) (moved_to (leaving c said Q) p) Q
  held_on {Q} (keeps held count to) p h =
      subst (λ (x : Option ℕ). Tracked τ k x Q) (sym (to p)) (go (ltb p (length Q.refs)) refl)
    where
      k : ℕ
      k = with_issue (leaving c said Q) n

      go : (b : Bool) → ltb p (length Q.refs) ≡ b → Tracked τ k (cond b (some p) none) Q
      go true e =
          let l = ltb-true p (length Q.refs) e in
          record {
            since = since_on (keeps held count to) h.since;
            holds = record { live = l; stage = rw (held.oldest, held.stages) h.holds.stage };
            number = held.numbers p l ∙ h.number;
          }
      go false e =
          record {
            since = since_on (keeps held count to) h.since;
            later = λ q g.
                let same = the_place P τ q p f (kept_holds held g) h.holds in
                absurd (omega (arith, g.live, ltb-false p (length Q.refs) e, same));
          }
  held_on (grows count to) p h =
      let new = ref P.next waiting in
      let l : p < length (issued P).refs = omega (arith, h.holds.live, length-append P.refs (new ∷ [])) in
      subst (λ (x : Option ℕ). Tracked τ (with_issue (leaving c said (issued P)) n) x (issued P))
      (sym (to p ∙ ap (λ (b : Bool). cond b (some p) none) (lt-ltb p (length (issued P).refs) l)))
      (record {
        since = since_on (grows count to) h.since;
        holds = record { live = l; stage = h.holds.stage };
        number = ap number_of (get_or-append P.refs (new ∷ []) blank p h.holds.live) ∙ h.number;
      })
  held_on (retires count to) p h =
      subst (λ (x : Option ℕ). Tracked τ k x (retire P)) (sym (to p)) (go p h)
    where
      k : ℕ
      k = with_issue (leaving c said (retire P)) n

      go : (p : ℕ) → Held τ n p P → Tracked τ k (unless_committed p) (retire P)
      go zero h =
          record {
            since = since_on (retires count to) h.since;
            later = λ q g.
                absurd (omega (arith, the_place P τ (1 + q) 0 f (retired_holds P τ.stage q f g).0 h.holds));
          }
      go (suc p) h =
          let one : 1 + p ≡ suc p = omega arith in
          record {
            since = since_on (retires count to) h.since;
            holds = record {
              live = omega (arith, h.holds.live, length-drop 1 P.refs);
              stage = stage_from P.oldest P.stages f.start 1 p (omega (arith, h.holds.live, f.live_bounded))
                  ∙ ap (stage P.oldest P.stages) one ∙ h.holds.stage;
            };
            number = ap number_of (get_or-drop 1 P.refs p blank) ∙ ap (number_at P) one ∙ h.number;
          }

  pub tracked_on : {Q : State} → Moves c said P Q → (x : Option ℕ) → Tracked τ n x P
      → Tracked τ (with_issue (leaving c said Q) n) (onward (leaving c said Q) x) Q
  tracked_on move none d = record { since = since_on move d.since; later = later_on move d }
  tracked_on move (some p) h = held_on move p h

pub dead_unnamed : (P : State) (τ : Ticket) (k : ℕ) → Fits P → Dead τ k P → k < 2 ^ 32 → names P τ ≡ false
dead_unnamed P τ k f d h = unnamed P τ f (λ p held e. let l = d.later p held in omega arith)
