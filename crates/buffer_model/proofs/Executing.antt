-- What an execution comes to on a table that keeps its rules, whatever is executed. The conditions that the code tests before
-- it looks for a row are the first three of the plain refusal (checks_early): a ticket is named alike (named_names), and a
-- named reference has executed where its stage has (executed_here). Where none of them holds (Ready), what is left decides:
-- with nothing left the execution stalls; else the table with the effect applied is what the engine's law says of it.
-- Assumes nothing.
use Rattle.std.specs.Prelude.{Option}
use mathlib.Core.Path.{◌≡◌, refl, sym, ap, ap₂, subst, ◌∙◌}
use mathlib.Core.Bool.{Bool, true, false, cond, not, ◌&&◌, and-eq-true_iff}
use mathlib.Core.List.{List}
use Prim.Native.Nat.{ℕ, ◌<◌}
use native.Mathlib.Omega.{arith}
use lib.Dec.{eqb, ltb}
use lib.ListN.{length, get_or}
use borrow.Author.Tests.{ltb-true, eqb-true, eq-eqb, ne_eqb}
use Rattle.marks.specs.Stages.{has}
use Rattle.marks.proofs.Turns.{stage_position}
use Rattle.table.specs.declared.Table.{Table}
use Rattle.table.specs.declared.Ticket.{Ticket}
use Rattle.table.specs.Reference.{Fate, idle, fate_of, at}
use Rattle.table.specs.View.{stage_of, view}
use Rattle.table.specs.Rules.{Rules}
use Rattle.table.proofs.Fates.{length_refs}
use Rattle.table.specs.Fits.{Lengths}
use Rattle.lookup.specs.Outcome.{survivors}
use Rattle.engine.specs.declared.Action.{Action}
use Rattle.engine.specs.declared.Effect.{Effect}
use Rattle.engine.specs.Conditions.{refusal}
use Rattle.engine.specs.Contract.{refused, executed}
use Rattle.engine.specs.Computed.Effect.{effect_at, answered, apply_effect}
use Rattle.engine.proofs.Fated.{executed_at}
use Rattle.engine.proofs.Effects.{effect_left, effect_value, effect_distance, effect_view, effect_rules}
use Rattle.engine.specs.Answers.{as_option}
use Rattle.buffer_model.specs.Refusals.{place, names, execute_checks}
use Rattle.buffer_model.specs.Calls.{execute, squash_from, comes_to}
use Rattle.buffer_model.specs.Contract.{Meets}
use Rattle.table.specs.Computed.Naming.{named_by}
use Rattle.buffer_model.specs.Computed.Parts.{execute_refusal, cut_from}
use Rattle.buffer_model.proofs.MeetingContract.{refused_meets, accepted_meets}
use Rattle.buffer_model.proofs.TestsAreTheView.{named_names, squash_from_lem}

-- the code's refusal before a row is looked for
abbrev pub early_by : Table → Ticket → List ℕ → ℕ
early_by t τ m =
    execute_refusal t.words (length m)
    (named_by t.oldest t.stages t.live t.numbers τ.stage τ.number)
    (has t.executed τ.stage)

-- the ticket names a reference that has not executed, and memory has its length
pub record Ready (t : Table) (τ : Ticket) (m : List ℕ) : Type 0 where
  pub lent : length m ≡ t.words
  pub stage : τ.stage < t.stages
  pub live : place (view t) τ < t.live
  pub here : stage_of t (place (view t) τ) ≡ τ.stage
  pub idle : has t.executed (stage_of t (place (view t) τ)) ≡ false

-- the three conditions in their order, and what follows where none holds
abbrev three : Bool → Bool → Bool → ℕ → ℕ
three fits is_named done rest = cond (not fits) 3 (cond (not is_named) 7 (cond done 8 rest))

-- with conditions that agree, what follows decides only where none holds
chained : (a n n' x x' : Bool) (rest : ℕ) → n ≡ n' → (n' ≡ true → x ≡ x')
    → three a n' x' rest ≡ cond (eqb (three a n x 0) 0) rest (three a n x 0)
chained false n n' x x' rest e f = refl
chained true n false x x' rest e f = rw e
chained true n true x true rest e f = rw (e, f refl)
chained true n true x false rest e f = rw (e, f refl)

-- none of them holds
none_holds : (a s l n x : Bool) → three a (s && (l && n)) x 0 ≡ 0 → (a ≡ true) × (s ≡ true) × (l ≡ true) × (x ≡ false)
none_holds false s l n x e = absurd (omega arith)
none_holds true false l n x e = absurd (omega arith)
none_holds true true false n x e = absurd (omega arith)
none_holds true true true false x e = absurd (omega arith)
none_holds true true true true true e = absurd (omega arith)
none_holds true true true true false e = (refl, refl, refl, refl)

both_true : (a b : Bool) → (a && b) ≡ true → (a ≡ true) × (b ≡ true)
both_true a b e = (and-eq-true_iff a b).0 e

module _ (t : Table) (rules : Rules t) (τ : Ticket) (m : List ℕ) where
  abbrev p : ℕ
  p = place (view t) τ

  here_at : τ.stage < t.stages → stage_of t p ≡ τ.stage
  here_at h = stage_position t.oldest t.stages rules.start τ.stage h

  pub ready : early_by t τ m ≡ 0 → Ready t τ m
  ready e =
      let w = none_holds (eqb (length m) t.words) (ltb τ.stage t.stages) (ltb p t.live)
      (eqb (get_or t.numbers τ.stage 0) τ.number) (has t.executed τ.stage) e in
      let here = here_at (ltb-true τ.stage t.stages w.1) in
      record {
        lent = eqb-true (length m) t.words w.0;
        stage = ltb-true τ.stage t.stages w.1;
        live = ltb-true p t.live w.2;
        here = here;
        idle = ap (has t.executed) here ∙ w.3;
      }

  -- a named reference has executed where its stage has
  executed_here : names (view t) τ ≡ true → has t.executed τ.stage ≡ not (idle (fate_of (at (view t).refs p)))
  executed_here e =
      let w = both_true (ltb τ.stage t.stages) _ e in
      let l = both_true (ltb p (length (view t).refs)) _ w.1 in
      let h = ltb-true τ.stage t.stages w.0 in
      let b = ltb-true p (length (view t).refs) l.0 in
      ap (has t.executed) (sym (here_at h)) ∙ sym (executed_at t p (rw (length_refs t) at b))

  -- what is left decides where none of the three conditions holds
  abbrev stalling : Fate → ℕ
  stalling f = cond (eqb (survivors (view t) p f) 0) 10 0

  checks_early : (f : Fate)
      → refusal (execute_checks (view t) m τ f) ≡ cond (eqb (early_by t τ m) 0) (stalling f) (early_by t τ m)
  checks_early f =
      chained (eqb (length m) t.words)
      (named_by t.oldest t.stages t.live t.numbers τ.stage τ.number)
      (names (view t) τ)
      (has t.executed τ.stage)
      (not (idle (fate_of (at (view t).refs p))))
      (stalling f) (named_names t rules τ) executed_here

  module _ (act : Action) where
    abbrev fate : Fate
    fate = comes_to (view t) m τ act

    -- the code's early refusal
    pub early_refused : (k : ℕ) → k ≡ early_by t τ m → (k ≡ 0 → ⊥) → Meets t (execute τ act) m (refused k) t m
    early_refused k e some =
        refused_meets t (execute τ act) m rules k
        (checks_early fate
        ∙ ap (λ (b : Bool). cond b (stalling fate) (early_by t τ m))
        (ne_eqb (early_by t τ m) 0 (λ z. some (e ∙ z)))
        ∙ sym e)
        some

    module _ (early : early_by t τ m ≡ 0) (q : Effect) (found : q ≡ effect_at t p m act) where
      left_is : q.left ≡ survivors (view t) p fate
      left_is = ap (λ (x : Effect). x.left) found ∙ effect_left t rules p (ready early).live m act

      -- where the code refuses nothing yet, what is left decides
      left_decides : refusal (execute_checks (view t) m τ fate) ≡ cond (eqb q.left 0) 10 0
      left_decides =
          checks_early fate
          ∙ ap (λ (b : Bool). cond b (stalling fate) (early_by t τ m)) (eq-eqb (early_by t τ m) 0 early)
          ∙ ap (λ (k : ℕ). cond (eqb k 0) 10 0) (sym left_is)

      -- refusal 10: no row is to be had
      pub stalls : q.left ≡ 0 → Meets t (execute τ act) m (refused 10) t m
      stalls none =
          refused_meets t (execute τ act) m rules 10
          (left_decides ∙ ap (λ (b : Bool). cond b 10 0) (eq-eqb q.left 0 none))
          (λ z. omega arith)

      pub executes_meets : Lengths t → (q.left ≡ 0 → ⊥) → (v : ℕ) → v ≡ answered q.load q.store q.value
          → (gone : Option Ticket) → gone ≡ cut_from t.oldest t.stages t.live q.left t.numbers
          → (u : Table) → u ≡ apply_effect t q τ.stage
          → Meets t (execute τ act) m (executed v q.distance (as_option gone)) u m
      executes_meets lengths some v hv gone hg u hu =
          let now = ready early in
          let stays : (effect_at t p m act).left ≡ 0 → ⊥ = λ z. some (ap (λ (x : Effect). x.left) found ∙ z) in
          let is : u ≡ apply_effect t (effect_at t p m act) (stage_of t p) =
          hu ∙ ap₂ (apply_effect t) found (sym now.here) in
          accepted_meets t (execute τ act) m rules
          (left_decides ∙ ap (λ (b : Bool). cond b 10 0) (ne_eqb q.left 0 some))
          (executed v q.distance (as_option gone))
          u
          m
          (ap (executed v q.distance)
          (ap as_option hg ∙ squash_from_lem t rules q.left ∙ ap (squash_from (view t)) left_is)
          ∙ ap₂ (λ (x d : ℕ). executed x d (squash_from (view t) (survivors (view t) p fate)))
          (hv
          ∙ ap (λ (x : Effect). answered x.load x.store x.value) found
          ∙ effect_value t rules p now.live m act stays)
          (ap (λ (x : Effect). x.distance) found ∙ effect_distance t rules p now.live m act stays))
          (ap view is ∙ effect_view t rules p now.live m lengths now.idle act stays)
          refl
          refl
          (subst Rules (sym is) (effect_rules t rules p now.live m lengths now.idle act stays))
