-- The ticket theorem (specs/Tickets.antt), of the concrete calls through their contract. The calls move the ticket's reference,
-- or leave its ticket dead, one by one (life_tracked, by the laws of Numbers). A dead ticket names nothing while fewer than
-- 2 ^ 32 issues came after it, and a call with a ticket that names nothing is refused (unnamed_call).
-- Assumes nothing.
use mathlib.Core.Bool.{Bool, true, false, cond, not, true≢false}
use mathlib.Core.List.{List, [], ◌∷◌}
use mathlib.Core.Option.{Option, some}
use mathlib.Core.Path.{◌≡◌, refl, sym, ap, subst, ◌∙◌}
use Prim.Native.Nat.{ℕ}
use native.Mathlib.Omega.{arith}
use lib.Dec.{eqb}
use lib.ListN.{length, length-append}
use lib.Seq.{get_or_at}
use Rattle.marks.specs.Circle.{stage}
use Rattle.table.specs.declared.Ticket.{Ticket}
use Rattle.table.specs.declared.Table.{Table}
use Rattle.table.specs.Reference.{waiting, ref, number_of, blank, State}
use Rattle.table.specs.Moves.{issued, squash_to}
use Rattle.table.specs.View.{view}
use Rattle.table.specs.Rules.{Rules}
use Rattle.table.proofs.Fates.{length_refs}
use Rattle.engine.specs.Contract.{refused, done, named, judged}
use Rattle.engine.proofs.Meeting.{judged_accepted}
use Rattle.engine.proofs.Deciding.{accepted_passes}
use Rattle.buffer_model.specs.Answers.{Answer}
use Rattle.buffer_model.specs.Refusals.{open_checks, names}
use Rattle.buffer_model.specs.Calls.{Call, issue, squash, Result, accepted_result, refusal_of, respond}
use Rattle.buffer_model.specs.Contract.{Meets, Opens}
use Rattle.buffer_model.specs.Life.{Event, TableLife, born, lived, issues_in, followed, Uses, to_execute, to_squash}
use Rattle.buffer_model.specs.Tickets.{stale_number, TicketTruth}
use Rattle.buffer_model.proofs.Ordered.{decides}
use Rattle.buffer_model.proofs.Numbers.{Fits, Moves, moves, holds_named, holds_place, Dead, Held, Tracked}
use Rattle.buffer_model.proofs.Numbers.{tracked_on, dead_unnamed}

-- a table that keeps the rules fits the circle
pub fits : {t : Table} → Rules t → Fits (view t)
fits {t} rules = record { start = rules.start; live_bounded = omega (arith, rules.live_bounded, length_refs t) }

-- what a call that meets its contract did to the window
moved : {t u : Table} {c : Call} {m v : List ℕ} {said : Answer} → Rules t → Meets t c m said u v
    → Moves c said (view t) (view u)
moved {t} {u} {c} {m} {v} {said} rules meets =
    subst (λ (Q : State). Moves c said (view t) Q) (sym (meets.state rules))
    (subst (λ (a : Answer). Moves c a (view t) (respond c (view t) m).state) (sym (meets.answer rules))
    (moves c (view t) m))

-- every call keeps the rules
pub life_rules : {t u : Table} {es : List Event} → Rules t → TableLife t es u → Rules u
life_rules rules born = rules
life_rules rules (lived life meets) = meets.lawful (life_rules rules life)

-- an issue on P answered τ and left Q
record Issued (P : State) (τ : Ticket) (Q : State) : Type 0 where
  pub stage : τ.stage ≡ stage P.oldest P.stages (length P.refs)
  pub number : τ.number ≡ P.next
  pub state : Q ≡ issued P

was_issued : {t u : Table} {m v : List ℕ} {τ : Ticket} → Meets t issue m (named τ) u v → Issued (view t) τ (view u)
was_issued {t} {u} {m} {v} {τ} meets =
    let came = (decides t issue m meets).accepted tt in
    let e = came.answer in
    let ticket : τ ≡ record { stage = stage t.oldest t.stages (length (view t).refs); number = t.next } = cc in
    record {
      stage = ap (λ (ρ : Ticket). ρ.stage) ticket;
      number = ap (λ (ρ : Ticket). ρ.number) ticket;
      state = came.state;
    }

-- a ticket that names nothing is refused with 7, or a wrong memory length before it with 3
unnamed_judged : (long is_named : Bool) (others : ℕ) (P : State) (m : List ℕ) (r : Result) → is_named ≡ false
    → (judged (cond (not long) 3 (cond (not is_named) 7 others)) P m [] r).answer ≡ refused (cond long 7 3)
unnamed_judged true true others P m r e = absurd (true≢false e)
unnamed_judged true false others P m r e = refl
unnamed_judged false is_named others P m r e = refl

unnamed_call : (P : State) (m : List ℕ) (τ : Ticket) (c : Call) → names P τ ≡ false → (uses : Uses τ c)
    → (respond c P m).answer ≡ refused (stale_number uses P.words m)
unfolding respond
unnamed_call P m τ c e (to_execute {act = act}) = unnamed_judged (eqb (length m) P.words) (names P τ) _ P m _ e
unnamed_call P m τ c e to_squash = unnamed_judged true (names P τ) 0 P m _ e

-- a ticket whose reference was at position p is tracked through a life
life_tracked : {t u : Table} {es : List Event} (τ : Ticket) (p : ℕ) → Rules t → Tracked τ 0 (some p) (view t)
    → TableLife t es u → Tracked τ (issues_in es) (followed es p) (view u)
unfolding issues_in followed
life_tracked τ p rules now born = now
life_tracked τ p rules now (lived {es = es} life meets) =
    let before = life_rules rules life in
    tracked_on τ (issues_in es) (fits before) (moved before meets) (followed es p) (life_tracked τ p rules now life)

-- an opening that was done made a table that keeps the rules
pub opened : {banks rows stages words : ℕ} {m : List ℕ} {t : Table} → Opens banks rows stages words m done t → Rules t
opened {banks} {rows} {stages} {words} {m} {t} opens =
    (opens.state
    (accepted_passes (open_checks banks rows stages words m) done tt (λ some. (opens.refuses _ some refl).0))).0

module _ {banks rows stages words : ℕ} {m₀ m₁ m₂ : List ℕ} {t u v w : Table} {earlier later : List Event} {τ : Ticket}
    -- in the life of an opened table an issue answered τ: its reference is the youngest,
    (opens : Opens banks rows stages words m₀ done t) (life : TableLife t earlier u) (start : Meets u issue m₁ (named τ) v m₂)
    -- and any further calls came after it
    (life' : TableLife v later w) where
  rules_w : Rules w
  rules_w = life_rules (start.lawful (life_rules (opened opens) life)) life'

  tracked : Tracked τ (issues_in later) (followed later (length (view u).refs)) (view w)
  tracked =
      let rules-u = life_rules (opened opens) life in
      let new = was_issued start in
      let refs = (view u).refs in
      let youngest = ref (view u).next waiting in
      life_tracked τ (length refs) (start.lawful rules-u)
      (subst (λ (P : State). Tracked τ 0 (some (length refs)) P) (sym new.state)
      (record {
        since = omega (arith, new.number);
        holds = record { live = omega (arith, length-append refs (youngest ∷ [])); stage = sym new.stage };
        number = ap number_of (get_or_at refs youngest [] blank (length refs) refl) ∙ sym new.number;
      }))
      life'

  pub ticket_theorem : TicketTruth τ (length (view u).refs) later w
  ticket_theorem =
      record {
        still_named = λ q e.
            let held : Held τ (issues_in later) q (view w) =
            subst (λ (x : Option ℕ). Tracked τ (issues_in later) x (view w)) e tracked in (
              holds_named (view w) τ q (fits rules_w) held.holds held.number,
              holds_place (view w) τ q (fits rules_w) held.holds,
            );
        stale = λ e few {c} {m} {m'} {x} {said} uses meets.
            let dead : Dead τ (issues_in later) (view w) =
            subst (λ (x : Option ℕ). Tracked τ (issues_in later) x (view w)) e tracked in
            let free = dead_unnamed (view w) τ (issues_in later) (fits rules_w) dead (omega (arith, few)) in
            let kept = meets.refuses rules_w (stale_number uses w.words m) (unnamed_call (view w) m τ c free uses) in
            (kept.0, kept.1, kept.2);
      }

-- what a ticket that still names its reference does: a squash that is given it is done, and the older references stay
pub squashes_from : {τ : Ticket} {p : ℕ} {later : List Event} {w x : Table} {m m' : List ℕ} {said : Answer} → Rules w
    → TicketTruth τ p later w → (q : ℕ) → followed later p ≡ some q → Meets w (squash τ) m said x m'
    → (said ≡ done) × (view x ≡ squash_to (view w) q)
unfolding respond
squashes_from {τ} {p} {later} {w} {x} {m} rules truth q e meets =
    let now = truth.still_named q e in
    let r : Result = accepted_result (squash τ) (view w) m in
    let same : respond (squash τ) (view w) m ≡ r =
    judged_accepted (refusal_of (squash τ) (view w) m) (view w) m [] r (ap (λ (t : Bool). cond (not t) 7 0) now.0) in (
      meets.answer rules ∙ ap (λ (s : Result). s.answer) same,
      meets.state rules ∙ ap (λ (s : Result). s.state) same ∙ ap (squash_to (view w)) now.1,
    )
