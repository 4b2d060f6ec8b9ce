-- 01's sentences of an execution's answer, through the contract: the engine's laws of them (its proofs/Outcomes.antt) at the
-- position that the ticket names. It answers 10 exactly where none of the conditions before holds and the plain list has no row
-- for its address (ten_answered, answers_ten). One that is not refused names a squashed reference exactly where the list requires
-- a squash, the one there (ticket_there), and the references before it stay (squash_comes, squash_only, squash_none). So an
-- execution without memory and a load of an address with a row squash nothing. A load of an address of W or more takes 0 where
-- no older live reference has stored there.
-- Assumes nothing.
use mathlib.Core.Bool.{true, and-eq-true_iff}
use mathlib.Core.List.{List}
use mathlib.Core.Option.{Option, none, some}
use mathlib.Core.Path.{◌≡◌, refl, ap, ◌∙◌}
use Prim.Native.Nat.{ℕ, min, ◌≤◌, ◌<◌}
use native.Mathlib.Omega.{arith}
use lib.Dec.{ltb}
use lib.ListN.{length, take, length-take, length-set}
use borrow.Author.Tests.{ltb-true, not-false}
use Rattle.table.specs.declared.Table.{Table}
use Rattle.table.specs.declared.Ticket.{Ticket}
use Rattle.table.specs.Reference.{Side, holds, Fate, accessed, ref, at, State}
use Rattle.table.specs.View.{view}
use Rattle.table.specs.Rules.{Rules}
use Rattle.lookup.specs.Forwarding.{forwarded}
use Rattle.lookup.specs.Outcome.{survivors}
use Rattle.lookup.specs.Rows.{touches, touched}
use Rattle.lookup.proofs.Eviction.{Stalled}
use Rattle.lookup.proofs.Sentences.{forwarded_outside}
use Rattle.lookup.proofs.Squashes.{Squashes, other_keeps, row_keeps}
use Rattle.engine.specs.declared.Action.{Action}
use Rattle.engine.specs.declared.Action.TheVariants.{Compute, LoadAt}
use Rattle.engine.specs.Conditions.{Check}
use Rattle.engine.specs.Contract.{refused, executed}
use Rattle.engine.proofs.Deciding.{Holds, NoneBefore}
use Rattle.engine.proofs.Outcomes
use Rattle.engine.proofs.Outcomes.{Executing, Execution, execution}
use Rattle.buffer_model.specs.Answers.{Answer}
use Rattle.buffer_model.specs.Refusals.{place, names}
use Rattle.buffer_model.specs.Calls.{execute, ticket_at, squash_from, comes_to, accepted_result, checks_of}
use Rattle.buffer_model.specs.Contract.{Meets}
use Rattle.buffer_model.proofs.Ordered.{decides}
use Rattle.buffer_model.proofs.Numbers
use Rattle.buffer_model.proofs.Numbers.{holds_place, holds_named}
use Rattle.buffer_model.proofs.Tickets.{fits}

-- the ticket of a live reference names it, at its position
pub ticket_there : {t : Table} → Rules t → (k : ℕ) → k < length (view t).refs
    → (names (view t) (ticket_at (view t) k) ≡ true) × (place (view t) (ticket_at (view t) k) ≡ k)
ticket_there {t} rules k h =
    let here : Numbers.Holds (view t) (ticket_at (view t) k).stage k = record { live = h; stage = refl } in (
      holds_named (view t) (ticket_at (view t) k) k (fits rules) here refl,
      holds_place (view t) (ticket_at (view t) k) k (fits rules) here,
    )

-- the position that a ticket names is live
named_live : (P : State) (τ : Ticket) → names P τ ≡ true → place P τ < length P.refs
named_live P τ e =
    let outer = (and-eq-true_iff (ltb τ.stage P.stages) _).0 e in
    let inner = (and-eq-true_iff (ltb (place P τ) (length P.refs)) _).0 outer.1 in
    ltb-true (place P τ) (length P.refs) inner.0

module _ (t : Table) (τ : Ticket) (act : Action) (m : List ℕ) where
  abbrev checks : List Check
  checks = checks_of (execute τ act) (view t) m

  abbrev p : ℕ
  p = place (view t) τ

  abbrev fate : Fate
  fate = comes_to (view t) m τ act

  does : Executing checks m (view t) p fate
  does = record { three = refl; seven = λ e. named_live (view t) τ (not-false (names (view t) τ) e); ten = refl }

  -- none of its conditions with a number below k holds, 2 among them
  abbrev pub Unrefused : ℕ → Type 0
  Unrefused = NoneBefore (Holds Rules t checks)

  module _ {said : Answer} {u : Table} {v : List ℕ} (meets : Meets t (execute τ act) m said u v) where
    pub ten_answered : said ≡ refused 10 → Unrefused 10 × ((a : ℕ) × (touches a fate ≡ true) × Stalled (view t) p a)
    ten_answered = Outcomes.ten_answered (decides t (execute τ act) m meets) does

    pub answers_ten : Unrefused 10 → (a : ℕ) → touches a fate ≡ true → Stalled (view t) p a → said ≡ refused 10
    answers_ten = Outcomes.answers_ten (decides t (execute τ act) m meets) does

  -- the list requires that the execution squashes from position k on
  abbrev pub Required : ℕ → Type 0
  Required k = Squashes (view t) p fate k

  module _ {u : Table} {v : List ℕ} {value d : ℕ} {gone : Option Ticket}
      (meets : Meets t (execute τ act) m (executed value d gone) u v) where
    did : Execution m (view t) p fate (accepted_result (execute τ act) (view t) m) (executed value d gone) (view u)
    did = execution (decides t (execute τ act) m meets) does tt

    -- what the answer names
    names_gone : gone ≡ squash_from (view t) (survivors (view t) p fate)
    names_gone = let e = did.answer in cc

    -- how many references the table has
    stay : length (view u).refs ≡ min (survivors (view t) p fate) (length (view t).refs)
    stay =
        let left = survivors (view t) p fate in
        ap (λ (P : State). length P.refs) did.state ∙ length-set (take left (view t).refs) p _
        ∙ length-take left (view t).refs

    pub squash_comes : (k : ℕ) → Required k → (gone ≡ some (ticket_at (view t) k)) × (length (view u).refs ≡ k)
    squash_comes = Outcomes.squash_comes did (ticket_at (view t)) names_gone stay

    pub squash_only : (ρ : Ticket) → gone ≡ some ρ → (k : ℕ) × Required k × (ρ ≡ ticket_at (view t) k)
    squash_only = Outcomes.squash_only did (ticket_at (view t)) names_gone stay

    pub squash_none : ((k : ℕ) → Required k → ⊥) → (gone ≡ none) × (length (view u).refs ≡ length (view t).refs)
    squash_none = Outcomes.squash_none did (ticket_at (view t)) names_gone stay

module _ (t : Table) (τ : Ticket) (m : List ℕ) {u : Table} {v : List ℕ} {value d : ℕ} {gone : Option Ticket} where
  -- an execution without memory squashes nothing,
  pub computing_keeps : (w : ℕ) → Meets t (execute τ (Compute w)) m (executed value d gone) u v
      → (gone ≡ none) × (length (view u).refs ≡ length (view t).refs)
  computing_keeps w meets = squash_none t τ (Compute w) m meets (other_keeps (view t) (place (view t) τ))

  -- nor does a load of an address with a row
  pub row_load_keeps : (a : ℕ) → touched a (view t).refs ≡ true → Meets t (execute τ (LoadAt a)) m (executed value d gone) u v
      → (gone ≡ none) × (length (view u).refs ≡ length (view t).refs)
  row_load_keeps a row meets = squash_none t τ (LoadAt a) m meets (λ k. row_keeps (view t) (place (view t) τ) a k _ row)

  -- "or 0 when the address is W or more", where no older live reference is an executed store to it
  pub load_outside : (a : ℕ) → t.words ≤ a
      → ((k n w : ℕ) (l : Side) → k < place (view t) τ → at (view t).refs k ≡ ref n (accessed a l (holds w)) → ⊥)
      → Meets t (execute τ (LoadAt a)) m (executed value d gone) u v → value ≡ 0
  load_outside a out free meets =
      let came = did t τ (LoadAt a) m meets in
      let e = came.answer in
      let is : value ≡ forwarded (view t) m (place (view t) τ) a = cc in
      is
      ∙ forwarded_outside (view t) m (place (view t) τ) a (omega (arith, came.live)) (omega (arith, came.lent)) free
