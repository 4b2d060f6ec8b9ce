-- The socket holds more than the buffer: a second engine that keeps nothing beside the window and executes in program order, an
-- entry only once every older one has executed. It meets what an engine owes (in_order_owes): an entry that has not executed has
-- only such entries behind it (Ordered), so a store has no executed load behind it to spare, and nothing is ever squashed. The
-- buffer, out of order and with a violation and an eviction behind it, and this engine then have one outcome (agree_there). No
-- call of the machine in code is over this engine.
-- Assumes nothing.
use mathlib.Core.Bool.{Bool, true, false, cond, not, ◌&&◌, true≢false, and-eq-true_iff}
use mathlib.Core.List.{List, [], ◌∷◌, ◌++◌, map}
use mathlib.Core.Logic.{inr}
use mathlib.Core.Path.{◌≡◌, refl, sym, ap, ap₂, ◌∙◌}
use Prim.Native.Nat.{ℕ, zero, suc, ◌-◌, ◌<◌}
use native.Mathlib.Nat.{not-suc-le-zero, le_of_suc-le-suc, le_refl}
use native.Mathlib.Omega.{arith}
use lib.Dec.{eqb}
use lib.ListN.{length, get_or, take, drop, set, replicate}
use borrow.Author.Tests.{ne_eqb, eqb-false, not-true}
use Rattle.table.specs.Limits.{sizes_fit}
use Rattle.lookup.proofs.Faithfully.{clear_by, clear, Spares}
use Rattle.engine.specs.Part.{word_of}
use Rattle.machine_model.specs.declared.Instruction.{Instruction}
use Rattle.machine_model.specs.declared.Kind.{Kind}
use Rattle.machine_model.specs.declared.Kind.TheVariants.{Computing, Loading, Storing, Merging}
use Rattle.machine_model.specs.declared.Fate.{Fate}
use Rattle.machine_model.specs.declared.Fate.TheVariants.{Waiting, Executed}
use Rattle.machine_model.specs.declared.Entry.{Entry}
use Rattle.machine_model.specs.Program.{kind}
use Rattle.machine_model.specs.Window.{entry_at, entry_with, pending, access_by, reference_by, untold, reference}
use Rattle.machine_model.specs.Over.{Engine, finish, opened}
use Rattle.machine_model.specs.Calls.{banked}
use Rattle.sequential.specs.Play.{without, Played, play, start}
use Rattle.sequential.proofs.Core.{seen_by}
use Rattle.sequential.proofs.Owing.{Spared, Owes}
use Rattle.theorem.proofs.Outcome.{engines_agree}
use Rattle.theorem.proofs.Buffered.{buffer_owes}
use Rattle.sequential.proofs.Cases.{computing}
use Rattle.theorem.proofs.Witness
use Rattle.theorem.proofs.Witness.{program, memory}

-- what it is opened on, and all of its state
pub record Sizes : Type 0 where
  pub stages : ℕ
  pub words : ℕ

-- all of these have executed; none of them has
abbrev all_run : List Entry → Bool
all_run [] = true
all_run (e ∷ es) = not (pending e.fate) && all_run es

unfoldable none_run : List Entry → Bool
none_run [] = true
none_run (e ∷ es) = pending e.fate && none_run es

abbrev pub in_order : Engine Sizes Sizes
in_order =
    record {
      fits = λ o. not (eqb o.stages 0);
      opening = λ o. o;
      words = λ Q. Q.words;
      full = λ Q es. eqb (length es) Q.stages;
      sees = λ Q es memory p a. seen_by (take p es) a (get_or memory a 0);
      far = λ Q es p a. 0;
      leaves = λ Q es p f. cond (all_run (take p es)) (length es) 0;
      first = λ Q es. reference (entry_at es 0);
      issued = λ Q. Q;
      executed = λ Q p f. Q;
      squashed = λ Q p. Q;
      retired = λ Q. Q;
    }

-- behind an entry that has not executed none has
abbrev Ordered : List Entry → Type 0
Ordered [] = Unit {0}
Ordered (e ∷ es) = (pending e.fate ≡ true → none_run es ≡ true) × Ordered es

-- ---- the order is kept

none_next : (es : List Entry) (e : Entry) → pending e.fate ≡ true → none_run es ≡ true → none_run (es ++ (e ∷ [])) ≡ true
unfolding none_run
none_next [] e i h = ap (λ (b : Bool). b && true) i
none_next (x ∷ es) e i h =
    let both = (and-eq-true_iff (pending x.fate) (none_run es)).0 h in
    ap₂ ◌&&◌ both.0 (none_next es e i both.1)

none_take : (k : ℕ) (es : List Entry) → none_run es ≡ true → none_run (take k es) ≡ true
unfolding none_run
none_take zero es h = refl
none_take (suc k) [] h = refl
none_take (suc k) (e ∷ es) h =
    let both = (and-eq-true_iff (pending e.fate) (none_run es)).0 h in
    ap₂ ◌&&◌ both.0 (none_take k es both.1)

ordered_next : (es : List Entry) (e : Entry) → pending e.fate ≡ true → Ordered es → Ordered (es ++ (e ∷ []))
unfolding none_run
ordered_next [] e i h = (λ v. refl, tt)
ordered_next (x ∷ es) e i h = (λ v. none_next es e i (h.0 v), ordered_next es e i h.1)

ordered_take : (k : ℕ) (es : List Entry) → Ordered es → Ordered (take k es)
ordered_take zero es h = tt
ordered_take (suc k) [] h = tt
ordered_take (suc k) (e ∷ es) h = (λ v. none_take k es (h.0 v), ordered_take k es h.1)

ordered_drop : (k : ℕ) (es : List Entry) → Ordered es → Ordered (drop k es)
ordered_drop zero es h = h
ordered_drop (suc k) [] h = tt
ordered_drop (suc k) (e ∷ es) h = ordered_drop k es h.1

-- the entry at position p executes, where all older ones have
ordered_set : (p : ℕ) (es : List Entry) (e : Entry) → all_run (take p es) ≡ true → Ordered es
    → (pending e.fate ≡ true → none_run (drop (suc p) es) ≡ true)
    → Ordered (set es p e)
ordered_set p [] e ran h last = h
ordered_set zero (x ∷ es) e ran h last = (last, h.1)
ordered_set (suc p) (x ∷ es) e ran h last =
    let both = (and-eq-true_iff (not (pending x.fate)) (all_run (take p es))).0 ran in
    (λ v. absurd (true≢false (sym both.0 ∙ ap not v)), ordered_set p es e both.1 h.1 last)

-- none behind a position that has not executed has
behind : (p : ℕ) (es : List Entry) → p < length es → Ordered es → pending (entry_at es p).fate ≡ true
    → none_run (drop (suc p) es) ≡ true
behind p [] l h i = absurd (not-suc-le-zero l)
behind zero (e ∷ es) l h i = h.0 i
behind (suc p) (e ∷ es) l h i = behind p es (le_of_suc-le-suc l) h.1 i

-- ---- what a store spares

-- one that has not executed has loaded nothing
idle_clear : (i : Instruction) (f : Fate) (a : ℕ) (rest : Bool) → pending f ≡ true → rest ≡ true
    → clear_by (reference_by untold i f) a rest ≡ true
idle_clear i Waiting a rest p r = r
idle_clear i (Executed v b) a rest p r = absurd (true≢false (sym p))

none_clear : (es : List Entry) (a : ℕ) → none_run es ≡ true → clear a (map reference es) ≡ true
unfolding clear none_run
none_clear [] a h = refl
none_clear (e ∷ es) a h =
    let both = (and-eq-true_iff (pending e.fate) (none_run es)).0 h in
    idle_clear e.instruction e.fate a (clear a (map reference es)) both.0 (none_clear es a both.1)

none_spares : (μ : ℕ → ℕ) (i : Instruction) (x : Fate) (es : List Entry) → none_run es ≡ true
    → Spares μ (reference_by untold i x) (map reference es)
none_spares μ i Waiting es h = tt
none_spares μ i (Executed v a) es h = go (kind i)
  where
    go : (k : Kind) → Spares μ (access_by untold k v a) (map reference es)
    go Computing = tt
    go Loading = tt
    go Storing = inr (none_clear es a h)
    go Merging = inr (none_clear es (word_of a) h)

-- ---- what it owes

-- there is a stage at least, and entries executed in order
record Bound (Q : Sizes) (es : List Entry) (w : List ℕ) : Type 0 where
  some_stage : Q.stages ≡ 0 → ⊥
  ordered : Ordered es

module _ (Q : Sizes) (es : List Entry) (w : List ℕ) (b : Bound Q es w) where
  executed_bound : (p : ℕ) → p < length es → pending (entry_at es p).fate ≡ true → (x : Fate) (d : ℕ)
      → (cond (all_run (take p es)) (length es) 0 ≡ 0 → ⊥)
      → Spared es w p (cond (all_run (take p es)) (length es) 0) x
      × Bound Q (take (cond (all_run (take p es)) (length es) 0) (set es p (entry_with (entry_at es p) x d))) w
  executed_bound p live idle x d = go (all_run (take p es)) refl
    where
      none : none_run (drop (suc p) es) ≡ true
      none = behind p es live b.ordered idle

      go : (t : Bool) → all_run (take p es) ≡ t → (cond t (length es) 0 ≡ 0 → ⊥)
          → Spared es w p (cond t (length es) 0) x
          × Bound Q (take (cond t (length es) 0) (set es p (entry_with (entry_at es p) x d))) w
      go true ran runs = (
        record {
          after = live;
          within = le_refl (length es);
          spares = none_spares _ (entry_at es p).instruction x (take (length es - suc p) (drop (suc p) es))
              (none_take (length es - suc p) (drop (suc p) es) none);
        },
        record {
          some_stage = b.some_stage;
          ordered = ordered_take (length es) (set es p (entry_with (entry_at es p) x d))
              (ordered_set p es (entry_with (entry_at es p) x d) ran b.ordered (λ v. none));
        },
      )
      go false ran runs = absurd (runs refl)

pub in_order_owes : Owes in_order
in_order_owes =
    record {
      Bound = Bound;
      bound_opened = λ o fit w.
          record { some_stage = eqb-false o.stages 0 (not-true (eqb o.stages 0) fit); ordered = tt };
      words_issued = λ Q. refl;
      words_executed = λ Q p f. refl;
      words_squashed = λ Q p. refl;
      words_retired = λ Q. refl;
      sees = λ Q es w b p a. refl;
      bound_issued = λ Q es w b full e idle.
          record { some_stage = b.some_stage; ordered = ordered_next es e (ap pending idle) b.ordered };
      bound_squashed = λ Q es w b p. record { some_stage = b.some_stage; ordered = ordered_take p es b.ordered };
      executes = executed_bound;
      commits = λ Q es w b live clean.
          (refl, record { some_stage = b.some_stage; ordered = ordered_drop 1 es b.ordered });
      room = λ Q es w b empty. ne_eqb (length es) Q.stages (λ full. b.some_stage (sym full ∙ empty));
      oldest_runs = λ Q es w b live idle f none. omega (arith, live, none);
    }

-- ---- beside the buffer

-- the program of Witness.antt finished in order, on one stage
abbrev z : Played Sizes
z = play in_order program (start (opened in_order (record { stages = 1; words = 8 }) program) memory) (finish 9 (replicate 20 0) ∷ [])

as_many : (Witness.x).commits ≡ z.commits
unfolding computing
as_many = refl

pub agree_there : (without (Witness.x).record' ≡ without z.record')
    × ((Witness.x).state.registers ≡ z.state.registers)
    × ((Witness.x).memory ≡ z.memory)
unfolding computing sizes_fit
agree_there =
    engines_agree buffer_owes in_order_owes (banked 1 1 3 8) (record { stages = 1; words = 8 }) program memory refl refl
    Witness.calls
    (finish 9 (replicate 20 0) ∷ []) as_many
