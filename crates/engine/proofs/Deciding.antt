-- "A call is refused when a condition in its rows holds, and only then", with the first of them in the order of the numbers: of
-- an answer that goes by conditions (GoesBy), as an opening's does where they are in that order (list_goes); and of a call that
-- meets its contract, where 2, that the state breaks its rules, is one of its conditions (Decides). The other conditions are
-- told by their numbers alone (unmet_before, answered, answers). That the first is the smallest is Smallest's.
-- Assumes nothing.
use mathlib.Core.Bool.{Bool, true, false, not-eq-not}
use mathlib.Core.List.{List}
use mathlib.Core.Logic.{◌⊎◌, inl, inr, ⊎_elim}
use mathlib.Core.Path.{◌≡◌, refl, sym, ap, subst, ◌∙◌}
use Prim.Native.Nat.{ℕ, ◌≤◌, ◌<◌}
use native.Mathlib.Omega.{arith}
use lib.Dec.{eqb}
use borrow.Author.Tests.{eqb-true, eqb-false}
use Rattle.engine.specs.Conditions.{Check, refusal, holds, rank, rising_from, rising}
use Rattle.engine.specs.Contract.{Answer, refused, Result, judged, Meets}
use Rattle.engine.proofs.Meeting.{Accepts, no_refusal, judged_refused, judged_accepted}
use Rattle.engine.proofs.Placing.{rank_one}
use Rattle.engine.proofs.Refusing.{refusal_holds, refusal_first_from, condition_of, holds_alone, passed_none}

-- ---- an answer by conditions, of which one with number k holds where `Holding k`

-- none that is looked at before k holds
abbrev pub NoneBefore : (ℕ → Type 0) → ℕ → Type 0
NoneBefore Holding k = (j : ℕ) → Holding j → rank k ≤ rank j

abbrev pub First : (ℕ → Type 0) → ℕ → Type 0
First Holding k = Holding k × NoneBefore Holding k

-- it is a refusal with k exactly if k is the first number of a condition that holds, and where one holds it is a refusal
pub record GoesBy {N : Type 0} (Holding : ℕ → Type 0) (said : Answer N) : Type 0 where
  -- the number of a condition that holds stands in the order
  pub stands : (j : ℕ) → Holding j → 0 < rank j
  pub refused_first : (k : ℕ) → said ≡ refused k → First Holding k
  pub first_refused : (k : ℕ) → First Holding k → said ≡ refused k
  pub refused_where : (j : ℕ) → Holding j → (k : ℕ) × (rank k ≤ rank j) × (said ≡ refused k)

refused_number : {N : Type 0} (j k : ℕ) → ◌≡◌ {A = Answer N} (refused j) (refused k) → j ≡ k
refused_number j k e = cc

-- so it is by a number n that is 0 where none holds and else the first
goes_by : {N : Type 0} (Holding : ℕ → Type 0) (said : Answer N) (n : ℕ)
    → ((n ≡ 0 → ⊥) → (said ≡ refused n) × Holding n) → (n ≡ 0 → (k : ℕ) → said ≡ refused k → ⊥)
    → ((j : ℕ) → Holding j → (0 < rank n) × (rank n ≤ rank j)) → GoesBy Holding said
goes_by Holding said n refuses accepts first =
    record {
      stands = λ j h. let least = first j h in omega (arith, least.0, least.1);
      refused_first = λ k e. go k e (eqb n 0) refl;
      first_refused = λ k s.
          let here = refuses (some k s.0) in
          let least = first k s.0 in
          let same : n ≡ k = rank_one n k least.0 (omega (arith, least.1, s.1 n here.1)) in
          here.0 ∙ ap refused same;
      refused_where = λ j h. (n, (first j h).1, (refuses (some j h)).0);
    }
  where
    some : (j : ℕ) → Holding j → n ≡ 0 → ⊥
    some j h z = omega (arith, (first j h).0, ap rank z)

    go : (k : ℕ) → said ≡ refused k → (b : Bool) → eqb n 0 ≡ b → First Holding k
    go k e true z = absurd (accepts (eqb-true n 0 z) k e)
    go k e false z =
        let here = refuses (eqb-false n 0 z) in
        subst (First Holding) (refused_number n k (sym here.0 ∙ e)) (here.1, λ j h. (first j h).1)

-- the conditions of a list alone
pub list_goes : {N : Type 0} (checks : List Check) → rising checks ≡ true → (said : Answer N)
    → ((refusal checks ≡ 0 → ⊥) → said ≡ refused (refusal checks)) → (refusal checks ≡ 0 → Accepts said)
    → GoesBy (λ (k : ℕ). holds k checks ≡ true) said
list_goes checks rises said refuses accepts =
    goes_by (λ (k : ℕ). holds k checks ≡ true) said (refusal checks) (λ some. (refuses some, refusal_holds checks some))
    (λ z k. no_refusal said k (accepts z))
    (λ j. refusal_first_from 0 checks j rises)

-- an answer that is no refusal has passed them all
pub accepted_passes : {N : Type 0} (checks : List Check) (said : Answer N) → Accepts said
    → ((refusal checks ≡ 0 → ⊥) → said ≡ refused (refusal checks)) → refusal checks ≡ 0
accepted_passes checks said is-accepted refuses = go (eqb (refusal checks) 0) refl
  where
    go : (b : Bool) → eqb (refusal checks) 0 ≡ b → refusal checks ≡ 0
    go true e = eqb-true (refusal checks) 0 e
    go false e = absurd (no_refusal said (refusal checks) is-accepted (refuses (eqb-false (refusal checks) 0 e)))

-- ---- a call by its contract

-- a state keeps the rules or breaks them, as a test tells
pub tested : {A : Type 0} (b : Bool) → (b ≡ true → A) → (b ≡ false → A → ⊥) → A ⊎ (A → ⊥)
tested true keeps breaks = inl (keeps refl)
tested false keeps breaks = inr (breaks refl)

-- a condition with number k holds of a call on state t
abbrev pub Holds : {S : Type 0} → (S → Type 0) → S → List Check → ℕ → Type 0
Holds Lawful t checks k = ((k ≡ 2) × (Lawful t → ⊥)) ⊎ (holds k checks ≡ true)

-- a call on state t that came to r, and none of its conditions holds
pub record Comes {S P N : Type 0} (Lawful : S → Type 0) (view : S → P) (t : S) (checks : List Check) (r : Result P N)
    (said : Answer N) (u : S) (v kept : List ℕ) : Type 0 where
  pub lawful : Lawful t
  pub unmet : (k : ℕ) → condition_of k checks ≡ false
  pub answer : said ≡ r.answer
  pub state : view u ≡ r.state
  pub memory : v ≡ r.memory
  pub list : kept ≡ r.list

-- A call on state t with these conditions, in the order and behind 2, said `said`: it is refused with k exactly if k is the
-- first number of a condition that holds, and where one holds it is refused; otherwise it comes to r.
pub record Decides {S P N : Type 0} (Lawful : S → Type 0) (view : S → P) (t : S) (checks : List Check) (r : Result P N)
    (said : Answer N) (u : S) (v kept : List ℕ) : Type 0 where
  pub rises : rising_from 2 checks ≡ true
  pub goes : GoesBy (Holds Lawful t checks) said
  pub accepted : Accepts said → Comes Lawful view t checks r said u v kept

module _ {S P N : Type 0} (Lawful : S → Type 0) (view : S → P) (t : S) (m l : List ℕ) (checks : List Check) (r : Result P N)
    (tests : Lawful t ⊎ (Lawful t → ⊥)) (rises : rising_from 2 checks ≡ true) (ok : Accepts r.answer) {said : Answer N} {u : S}
    {v kept : List ℕ} (meets : Meets Lawful view t (judged (refusal checks) (view t) m l r) m l said u v kept) where
  broken_goes : (Lawful t → ⊥) → GoesBy (Holds Lawful t checks) said
  broken_goes breaks =
      goes_by (Holds Lawful t checks) said 2 (λ _. ((meets.broken breaks).0, inl (refl, breaks))) (λ z. absurd (omega (arith, z)))
      (λ j h. (
        omega arith,
        ⊎_elim (λ b. omega (arith, ap rank b.0)) (λ i.
            let first = refusal_first_from 2 checks j rises i in omega (arith, first.0, first.1)) h,
      ))

  module _ (lawful : Lawful t) where
    refuses : (refusal checks ≡ 0 → ⊥) → said ≡ refused (refusal checks)
    refuses some =
        meets.answer lawful ∙ ap (λ (x : Result P N). x.answer) (judged_refused (refusal checks) (view t) m l r some)

    accepts : refusal checks ≡ 0 → Comes Lawful view t checks r said u v kept
    accepts z =
        let is : judged (refusal checks) (view t) m l r ≡ r = judged_accepted (refusal checks) (view t) m l r z in
        record {
          lawful = lawful;
          unmet = passed_none 2 checks rises z;
          answer = meets.answer lawful ∙ ap (λ (x : Result P N). x.answer) is;
          state = meets.state lawful ∙ ap (λ (x : Result P N). x.state) is;
          memory = meets.memory lawful ∙ ap (λ (x : Result P N). x.memory) is;
          list = meets.list lawful ∙ ap (λ (x : Result P N). x.list) is;
        }

    lawful_goes : GoesBy (Holds Lawful t checks) said
    lawful_goes =
        goes_by (Holds Lawful t checks) said (refusal checks) (λ some. (refuses some, inr (refusal_holds checks some)))
        (λ z k e. no_refusal r.answer k ok (sym (accepts z).answer ∙ e))
        (λ j. ⊎_elim (λ b. absurd (b.1 lawful)) (λ h.
        let first = refusal_first_from 2 checks j rises h in (omega (arith, first.0), first.1)))

  pub meets_decides : Decides Lawful view t checks r said u v kept
  meets_decides =
      record {
        rises = rises;
        goes = ⊎_elim lawful_goes broken_goes tests;
        accepted = λ is-accepted.
            ⊎_elim (λ lawful. accepts lawful (accepted_passes checks said is-accepted (refuses lawful)))
            (λ breaks. absurd (no_refusal said 2 is-accepted (meets.broken breaks).0)) tests;
      }

-- ---- its conditions, by their numbers

module _ {S P N : Type 0} {Lawful : S → Type 0} {view : S → P} {t : S} {checks : List Check} {r : Result P N} {said : Answer N}
    {u : S} {v kept : List ℕ} (decided : Decides Lawful view t checks r said u v kept) where
  -- where none that is looked at before j holds
  pub unmet_before : (j : ℕ) → NoneBefore (Holds Lawful t checks) j → (k : ℕ) → rank k < rank j → condition_of k checks ≡ false
  unmet_before j low k before =
      not-eq-not.0 (λ (e : condition_of k checks ≡ true).
      let late = low k (inr (holds_alone 2 checks decided.rises k ∙ e)) in omega (arith, before, late))

  -- it answers a number other than 2 exactly where none that is looked at before holds and the condition with this number does
  pub answered : (k : ℕ) → 2 < k → said ≡ refused k → NoneBefore (Holds Lawful t checks) k × (condition_of k checks ≡ true)
  answered k above e =
      let first = decided.goes.refused_first k e in (
        first.1,
        ⊎_elim (λ b. absurd (omega (arith, above, b.0)))
            (λ h. sym (holds_alone 2 checks decided.rises k) ∙ h)
            first.0,
      )

  pub answers : (k : ℕ) → NoneBefore (Holds Lawful t checks) k → condition_of k checks ≡ true → said ≡ refused k
  answers k low e = decided.goes.first_refused k (inr (holds_alone 2 checks decided.rises k ∙ e), low)
