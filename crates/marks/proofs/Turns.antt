-- The circle of stages: stage and position are inverse below n, and the set of the first k positions has their stages.
-- Either position p does not go past the last stage, and its stage is o + p, or it does, and its stage + n is o + p
-- (At, turn); so too for a position (back). The laws of the two are these cases and linear arithmetic. A set of stages as a
-- set of positions has a position where the set has its stage (turned_has). Assumes nothing.
use mathlib.Core.Bool.{Bool, true, false, cond, ◌&&◌, ◌||◌, or-true, or-false, and-true, and-false}
use mathlib.Core.Logic.{◌⊎◌, inl, inr, ⊎_elim}
use mathlib.Core.Path.{◌≡◌, refl, sym, ap, ap₂, ◌∙◌}
use Prim.Native.Nat.{ℕ, zero, suc, ◌+◌, ◌^◌, ◌≤◌, ◌<◌}
use native.Mathlib.Nat.{eq-or-lt_of_le, le_of_suc-le-suc}
use native.Mathlib.Omega.{arith}
use lib.Bits.{or_lt}
use lib.Dec.{ltb, leb, eqb}
use lib.Pow.{pow-lt, pow_pos}
use borrow.Author.Tests.{ltb-true, ltb-false, leb-true, leb-false, lt-ltb, le-ltb, eq-eqb, ne_eqb}
use Rattle.marks.specs.Circle.{stage, position, firsts, turned}
use Rattle.marks.specs.Stages.{has}
use Rattle.marks.proofs.Sets.{has_or, has_one, has_zero, has_small}

-- s is the stage at position p
abbrev At : ℕ → ℕ → ℕ → ℕ → Type 0
At o n p s = ((o + p < n) × (s ≡ o + p)) ⊎ ((n ≤ o + p) × (s + n ≡ o + p))

turn : (o n p : ℕ) → At o n p (stage o n p)
turn o n p = go (ltb (o + p) n) refl
  where
    go : (t : Bool) → ltb (o + p) n ≡ t → At o n p (stage o n p)
    go true e = inl (ltb-true (o + p) n e, rw e)
    go false e = let l : n ≤ o + p = ltb-false (o + p) n e in inr (l, rw e (omega arith))

turn_is : (o n p s : ℕ) → At o n p s → stage o n p ≡ s
turn_is o n p s =
    ⊎_elim
    (λ w. rw (lt-ltb (o + p) n w.0) (sym w.1))
    (λ w. rw (le-ltb (o + p) n w.0) (omega arith))

module _ (o n : ℕ) (start : o < n) where
  back : (s : ℕ) → ((o ≤ s) × (position o n s + o ≡ s)) ⊎ ((s < o) × (position o n s + o ≡ s + n))
  back s = go (leb o s) refl
    where
      go : (t : Bool) → leb o s ≡ t → ((o ≤ s) × (position o n s + o ≡ s)) ⊎ ((s < o) × (position o n s + o ≡ s + n))
      go true e = let l : o ≤ s = leb-true o s e in inl (l, rw e (omega arith))
      go false e = let l : s < o = leb-false o s e in inr (l, rw e (omega arith))

  pub stage_zero : stage o n 0 ≡ o
  stage_zero = turn_is o n 0 o (inl (omega arith, omega arith))

  pub stage_lt : (p : ℕ) → p ≤ n → stage o n p < n
  stage_lt p h = ⊎_elim (λ w. omega arith) (λ w. omega arith) (turn o n p)

  pub position_stage : (p : ℕ) → p < n → position o n (stage o n p) ≡ p
  position_stage p h =
      ⊎_elim
      (λ w. ⊎_elim (λ v. omega arith) (λ v. omega arith) (back (stage o n p)))
      (λ w. ⊎_elim (λ v. omega arith) (λ v. omega arith) (back (stage o n p)))
      (turn o n p)

  pub stage_position : (s : ℕ) → s < n → stage o n (position o n s) ≡ s
  stage_position s h =
      turn_is o n (position o n s) s
      (⊎_elim (λ w. inl (omega arith, omega arith)) (λ w. inr (omega arith, omega arith)) (back s))

  pub stage_injective : (p q : ℕ) → p < n → q < n → stage o n p ≡ stage o n q → p ≡ q
  stage_injective p q h l e = sym (position_stage p h) ∙ ap (position o n) e ∙ position_stage q l

  -- the window from position f on
  pub stage_from : (f p : ℕ) → f + p ≤ n → stage (stage o n f) n p ≡ stage o n (f + p)
  stage_from f p h =
      sym
      (turn_is o n (f + p) (stage (stage o n f) n p)
      (⊎_elim
      (λ w. ⊎_elim (λ v. inl (omega arith, omega arith)) (λ v. inr (omega arith, omega arith)) (turn (stage o n f) n p))
      (λ w. ⊎_elim (λ v. inr (omega arith, omega arith)) (λ v. absurd (omega arith)) (turn (stage o n f) n p))
      (turn o n f)))

  pub firsts_lt : (k : ℕ) → k ≤ n → firsts o n k < 2 ^ n
  unfolding firsts
  firsts_lt zero h = pow_pos n
  firsts_lt (suc k) h =
      or_lt n (firsts o n k) (2 ^ stage o n k) (firsts_lt k (omega arith)) (pow-lt (stage_lt k (omega arith)))

  -- s is at one of the first k + 1 positions where it is at one of the first k or is the stage at position k
  next : (k s : ℕ) → k < n → s < n
      → (ltb (position o n s) k || eqb (stage o n k) s) ≡ ltb (position o n s) (suc k)
  next k s h l = go (ltb (position o n s) (suc k)) refl
    where
      go : (t : Bool) → ltb (position o n s) (suc k) ≡ t → (ltb (position o n s) k || eqb (stage o n k) s) ≡ t
      go true e =
          ⊎_elim
          (λ (q : position o n s ≡ k).
          ap (λ (t : Bool). ltb (position o n s) k || t)
          (eq-eqb (stage o n k) s (ap (stage o n) (sym q) ∙ stage_position s l))
          ∙ or-true (ltb (position o n s) k))
          (λ (q : position o n s < k). ap (λ (t : Bool). t || eqb (stage o n k) s) (lt-ltb (position o n s) k q))
          (eq-or-lt_of_le (le_of_suc-le-suc (ltb-true (position o n s) (suc k) e)))
      go false e =
          let r : suc k ≤ position o n s = ltb-false (position o n s) (suc k) e in
          ap₂ ◌||◌ (le-ltb (position o n s) k (omega arith))
          (ne_eqb (stage o n k) s
          (λ q. let z : position o n s ≡ k = ap (position o n) (sym q) ∙ position_stage k h in omega arith))

  pub firsts_has : (k s : ℕ) → k ≤ n → s < n → has (firsts o n k) s ≡ ltb (position o n s) k
  unfolding firsts
  firsts_has zero s h l = has_zero s ∙ sym (le-ltb (position o n s) 0 (omega arith))
  firsts_has (suc k) s h l =
      has_or (firsts o n k) (2 ^ stage o n k) s
      ∙ ap₂ ◌||◌ (firsts_has k s (omega arith) l) (has_one (stage o n k) s) ∙ next k s h l

  pub firsts_at : (k p : ℕ) → k ≤ n → p < n → has (firsts o n k) (stage o n p) ≡ ltb p k
  firsts_at k p h l =
      firsts_has k (stage o n p) h (stage_lt p (omega arith)) ∙ ap (λ (q : ℕ). ltb q k) (position_stage p l)

  pub firsts_out : (k s : ℕ) → k ≤ n → n ≤ s → has (firsts o n k) s ≡ false
  firsts_out k s h l = has_small (firsts o n k) n s (firsts_lt k h) l

module _ (o n w : ℕ) where
  one_more : (t : Bool) (k p : ℕ) → has (cond t (2 ^ k) 0) p ≡ (t && eqb k p)
  one_more true k p = has_one k p
  one_more false k p = has_zero p

  pub turned_has : (k p : ℕ) → has (turned o n w k) p ≡ (ltb p k && has w (stage o n p))
  unfolding turned
  turned_has zero p = has_zero p ∙ ap (λ (t : Bool). t && has w (stage o n p)) (sym (le-ltb p 0 (omega arith)))
  turned_has (suc k) p =
      has_or (turned o n w k) (cond (has w (stage o n k)) (2 ^ k) 0) p
      ∙ ap₂ ◌||◌ (turned_has k p) (one_more (has w (stage o n k)) k p)
      ∙ go (ltb p (suc k)) refl
    where
      go : (t : Bool) → ltb p (suc k) ≡ t
          → (ltb p k && has w (stage o n p) || has w (stage o n k) && eqb k p) ≡ (t && has w (stage o n p))
      go true e =
          ⊎_elim
          (λ (q : p ≡ k).
          ap₂ (λ (t u : Bool). t && has w (stage o n p) || has w (stage o n k) && u)
          (le-ltb p k (omega arith)) (eq-eqb k p (sym q))
          ∙ and-true (has w (stage o n k)) ∙ ap (λ (x : ℕ). has w (stage o n x)) (sym q))
          (λ (q : p < k).
          ap₂ (λ (t u : Bool). t && has w (stage o n p) || has w (stage o n k) && u)
          (lt-ltb p k q) (ne_eqb k p (λ z. omega arith))
          ∙ ap (λ (t : Bool). has w (stage o n p) || t) (and-false (has w (stage o n k))) ∙ or-false (has w (stage o n p)))
          (eq-or-lt_of_le (le_of_suc-le-suc (ltb-true p (suc k) e)))
      go false e =
          let l : suc k ≤ p = ltb-false p (suc k) e in
          ap₂ (λ (t u : Bool). t && has w (stage o n p) || has w (stage o n k) && u)
          (le-ltb p k (omega arith)) (ne_eqb k p (λ z. omega arith))
          ∙ and-false (has w (stage o n k))
