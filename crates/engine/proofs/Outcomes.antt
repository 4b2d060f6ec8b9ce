-- 01's sentences of an execution's answer, through the contract of any engine: of the reference at position p of the plain table
-- Q to fate f, lent memory w, as its conditions 3, 7 and 10 tell (Executing). "Without such a row the answer is refusal 10", both
-- ways (ten_answered, answers_ten). "a squash nobody called for comes when the list requires it and at no other time": an answer
-- that is no refusal names a reference exactly where the plain list requires a squash, the one there, and the references before
-- it stay (squash_comes, squash_only, squash_none).
-- Assumes nothing.
use mathlib.Core.Bool.{Bool, true, false, not}
use mathlib.Core.List.{List}
use mathlib.Core.Option.{Option, none, some}
use mathlib.Core.Path.{◌≡◌, refl, sym, ◌∙◌}
use Prim.Native.Nat.{ℕ, min, ◌<◌}
use native.Mathlib.Omega.{arith}
use lib.Dec.{eqb, ltb}
use lib.ListN.{length}
use borrow.Author.Tests.{eqb-true, eqb-false, eq-eqb, ltb-true, ltb-false, not-false}
use Rattle.table.specs.Reference.{Fate, State}
use Rattle.lookup.specs.Outcome.{survivors}
use Rattle.lookup.specs.Rows.{touches}
use Rattle.lookup.proofs.Eviction.{Stalled, stalls, stalls_only}
use Rattle.lookup.proofs.Squashes.{Squashes, required, only_required, first_squashed, names_required, names_only, names_none}
use Rattle.engine.specs.Conditions.{Check}
use Rattle.engine.specs.Contract.{Answer, refused, Result}
use Rattle.engine.proofs.Meeting.{Accepts}
use Rattle.engine.proofs.Refusing.{condition_of}
use Rattle.engine.proofs.Deciding.{NoneBefore, Holds, Decides, unmet_before, answered, answers}

-- the conditions of such an execution: the memory's length, that the reference is live, and that no row is to be had
pub record Executing (checks : List Check) (w : List ℕ) (Q : State) (p : ℕ) (f : Fate) : Type 0 where
  pub three : condition_of 3 checks ≡ not (eqb (length w) Q.words)
  pub seven : condition_of 7 checks ≡ false → p < length Q.refs
  pub ten : condition_of 10 checks ≡ eqb (survivors Q p f) 0

-- one that was not refused, and came to r
pub record Execution {P N : Type 0} (w : List ℕ) (Q : State) (p : ℕ) (f : Fate) (r : Result P N) (said : Answer N) (X : P)
    : Type 0 where
  pub lent : length w ≡ Q.words
  pub live : p < length Q.refs
  pub stays : survivors Q p f ≡ 0 → ⊥
  pub answer : said ≡ r.answer
  pub state : X ≡ r.state

module _ {S P N : Type 0} {Lawful : S → Type 0} {view : S → P} {t : S} {checks : List Check} {r : Result P N} {said : Answer N}
    {u : S} {v kept : List ℕ} (decided : Decides Lawful view t checks r said u v kept)
    {w : List ℕ} {Q : State} {p : ℕ} {f : Fate} (does : Executing checks w Q p f) where
  pub ten_answered : said ≡ refused 10
      → NoneBefore (Holds Lawful t checks) 10 × ((a : ℕ) × (touches a f ≡ true) × Stalled Q p a)
  ten_answered e =
      let met = answered decided 10 (omega arith) e in (
        met.0,
        stalls_only Q p f (does.seven (unmet_before decided 10 met.0 7 (omega arith)))
            (eqb-true (survivors Q p f) 0 (sym does.ten ∙ met.1)),
      )

  pub answers_ten : NoneBefore (Holds Lawful t checks) 10 → (a : ℕ) → touches a f ≡ true → Stalled Q p a → said ≡ refused 10
  answers_ten low a access stall =
      answers decided 10 low (does.ten ∙ eq-eqb (survivors Q p f) 0 (stalls Q p a f access stall))

  pub execution : Accepts said → Execution w Q p f r said (view u)
  execution is-accepted =
      let came = decided.accepted is-accepted in
      record {
        lent = eqb-true (length w) Q.words (not-false _ (sym does.three ∙ came.unmet 3));
        live = does.seven (came.unmet 7);
        stays = eqb-false (survivors Q p f) 0 (sym does.ten ∙ came.unmet 10);
        answer = came.answer;
        state = came.state;
      }

-- what it names, where `name` names the reference at a position, and how many references are left
module _ {P N : Type 0} {w : List ℕ} {Q : State} {p : ℕ} {f : Fate} {r : Result P N} {said : Answer N} {X : P}
    (did : Execution w Q p f r said X) (name : ℕ → N) {gone : Option N} (names : gone ≡ first_squashed Q p name f)
    {left : ℕ} (stay : left ≡ min (survivors Q p f) (length Q.refs)) where
  -- the squash comes when the list requires it, and the references before it stay;
  pub squash_comes : (k : ℕ) → Squashes Q p f k → (gone ≡ some (name k)) × (left ≡ k)
  squash_comes k x =
      let w = required Q p x in
      (names ∙ names_required Q p name f k x, omega (arith, stay, w.0, w.2))

  -- it comes at no other time;
  pub squash_only : (ρ : N) → gone ≡ some ρ → (k : ℕ) × Squashes Q p f k × (ρ ≡ name k)
  squash_only ρ e = names_only Q p name f did.live did.stays ρ (sym names ∙ e)

  -- where the list requires none, the answer names none, and all stay
  pub squash_none : ((k : ℕ) → Squashes Q p f k → ⊥) → (gone ≡ none) × (left ≡ length Q.refs)
  squash_none free =
      (names ∙ names_none Q p name f did.live did.stays free, go (ltb (survivors Q p f) (length Q.refs)) refl)
    where
      go : (b : Bool) → ltb (survivors Q p f) (length Q.refs) ≡ b → left ≡ length Q.refs
      go true e =
          absurd (free (survivors Q p f)
          (only_required Q p f did.live did.stays (ltb-true (survivors Q p f) (length Q.refs) e)))
      go false e = omega (arith, stay, ltb-false (survivors Q p f) (length Q.refs) e)
