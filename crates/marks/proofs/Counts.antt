-- Tests over the numbers below a bound: what `every`, `count` and `last` say of single numbers. Induction on the bound.
-- An injection cannot lower a count (count_into): take the last number's image out of the target, which lowers the
-- target's count by one (count_without), and go on with the rest. Assumes nothing.
use mathlib.Core.Bool.{Bool, true, false, cond, not, ◌&&◌, true≢false, and-eq-true_iff, and-true, and-false}
use mathlib.Core.Logic.{⊎_elim}
use mathlib.Core.Path.{◌≡◌, refl, sym, ap, ap₂, ◌∙◌}
use Prim.Native.Nat.{ℕ, zero, suc, ◌+◌, ◌≤◌, ◌<◌, zero-le}
use native.Mathlib.Nat.{not-suc-le-zero, le_of_suc-le-suc, eq-or-lt_of_le, le_refl, le-suc, le_step, ne_of_lt}
use native.Mathlib.Numerals.{add-one}
use native.Mathlib.Omega.{arith}
use lib.Arith.{lt_of_le-ne}
use lib.Dec.{eqb}
use borrow.Author.Tests.{eq-eqb, ne_eqb}
use Rattle.marks.specs.Counting.{every, count, last}

pub every_at : (f : ℕ → Bool) (n : ℕ) → every f n ≡ true → (k : ℕ) → k < n → f k ≡ true
unfolding every
every_at f zero e k h = absurd (not-suc-le-zero h)
every_at f (suc n) e k h =
    let both = (and-eq-true_iff (every f n) (f n)).0 e in
    ⊎_elim (λ (q : k ≡ n). ap f q ∙ both.1) (λ (l : k < n). every_at f n both.0 k l)
    (eq-or-lt_of_le (le_of_suc-le-suc h))

-- two tests that agree below n
pub every_same : (f g : ℕ → Bool) (n : ℕ) → ((k : ℕ) → k < n → f k ≡ g k) → every f n ≡ every g n
unfolding every
every_same f g zero h = refl
every_same f g (suc n) h = ap₂ ◌&&◌ (every_same f g n (λ k l. h k (omega arith))) (h n (omega arith))

pub every_from : (f : ℕ → Bool) (n : ℕ) → ((k : ℕ) → k < n → f k ≡ true) → every f n ≡ true
unfolding every
every_from f zero h = refl
every_from f (suc n) h = ap₂ ◌&&◌ (every_from f n (λ k l. h k (omega arith))) (h n (omega arith))

-- a loop's test of the numbers passed, and its test of the next one
pub every_next : (f : ℕ → Bool) (n : ℕ) {all next : Bool} → all ≡ every f n → next ≡ f n → (all && next) ≡ every f (n + 1)
unfolding every
every_next f n e g = ap₂ ◌&&◌ e g ∙ ap (every f) (sym (add-one n))

-- one more number adds at most one
one_more : (t : Bool) (c : ℕ) → cond t (suc c) c ≤ suc c
one_more true c = le_refl (suc c)
one_more false c = le-suc c

pub count_le : (f : ℕ → Bool) (n : ℕ) → count f n ≤ n
unfolding count
count_le f zero = le_refl 0
count_le f (suc n) = let l : count f n ≤ n = count_le f n in omega (arith, one_more (f n) (count f n))

pub count_some : (f : ℕ → Bool) (n : ℕ) → count f n < n → (k : ℕ) × (k < n) × (f k ≡ false)
unfolding count
count_some f zero h = absurd (not-suc-le-zero h)
count_some f (suc n) h = go (f n) refl h (count_some f n)
  where
    go : (t : Bool) → f n ≡ t → cond t (suc (count f n)) (count f n) < suc n
        → (count f n < n → (k : ℕ) × (k < n) × (f k ≡ false)) → (k : ℕ) × (k < suc n) × (f k ≡ false)
    go true e l ih = let m = ih (le_of_suc-le-suc l) in (m.0, omega arith, m.2)
    go false e l ih = (n, omega arith, e)

pub count_short : (f : ℕ → Bool) (n k : ℕ) → k < n → f k ≡ false → count f n < n
unfolding count
count_short f zero k h e = absurd (not-suc-le-zero h)
count_short f (suc n) k h e =
    ⊎_elim
    (λ (q : k ≡ n). let o : f n ≡ false = ap f (sym q) ∙ e in rw o (omega (arith, count_le f n)))
    (λ (l : k < n). omega (arith, count_short f n k l e, one_more (f n) (count f n)))
    (eq-or-lt_of_le (le_of_suc-le-suc h))

-- tests that agree below n
pub count_same : (f g : ℕ → Bool) (n : ℕ) → ((k : ℕ) → k < n → f k ≡ g k) → count f n ≡ count g n
unfolding count
count_same f g zero h = refl
count_same f g (suc n) h =
    ap₂ (λ (t : Bool) (c : ℕ). cond t (suc c) c) (h n (omega arith)) (count_same f g n (λ k l. h k (omega arith)))

-- g with j taken out
abbrev without : (ℕ → Bool) → ℕ → ℕ → Bool
without g j k = g k && not (eqb k j)

without_other : (g : ℕ → Bool) (j k : ℕ) → (k ≡ j → ⊥) → without g j k ≡ g k
without_other g j k h = ap (λ (t : Bool). g k && not t) (ne_eqb k j h) ∙ and-true (g k)

count_without : (g : ℕ → Bool) (m j : ℕ) → j < m → g j ≡ true → count g m ≡ suc (count (without g j) m)
unfolding count
count_without g zero j h e = absurd (not-suc-le-zero h)
count_without g (suc m) j h e =
    ⊎_elim
    (λ (q : j ≡ m).
    let out : without g j m ≡ false = ap (λ (t : Bool). g m && not t) (eq-eqb m j (sym q)) ∙ and-false (g m) in
    ap (λ (t : Bool). cond t (suc (count g m)) (count g m)) (ap g (sym q) ∙ e)
    ∙ ap suc (count_same g (without g j) m (λ k l. sym (without_other g j k (λ r. omega arith))))
    ∙ ap suc (ap (λ (t : Bool). cond t (suc (count (without g j) m)) (count (without g j) m)) (sym out)))
    (λ (l : j < m).
    ap₂ (λ (t : Bool) (c : ℕ). cond t (suc c) c)
    (sym (without_other g j m (λ r. omega arith))) (count_without g m j l e)
    ∙ suc_out (without g j m) (count (without g j) m))
    (eq-or-lt_of_le (le_of_suc-le-suc h))
  where
    suc_out : (t : Bool) (c : ℕ) → cond t (suc (suc c)) (suc c) ≡ suc (cond t (suc c) c)
    suc_out true c = refl
    suc_out false c = refl

pub count_into : (f g : ℕ → Bool) (n m : ℕ) (to : ℕ → ℕ)
    → ((i : ℕ) → i < n → f i ≡ true → (to i < m) × (g (to i) ≡ true))
    → ((i j : ℕ) → i < n → j < n → f i ≡ true → f j ≡ true → to i ≡ to j → i ≡ j)
    → count f n ≤ count g m
unfolding count
count_into f g zero m to into apart = zero-le
count_into f g (suc n) m to into apart =
    go (f n) refl
    (count_into f g n m to (λ i l. into i (le_step l)) (λ i j l r. apart i j (le_step l) (le_step r)))
    (λ e. count_into f (without g (to n)) n m to (others e) (λ i j l r. apart i j (le_step l) (le_step r)))
  where
    others : f n ≡ true → (i : ℕ) → i < n → f i ≡ true → (to i < m) × (without g (to n) (to i) ≡ true)
    others e i l h =
        let image = into i (le_step l) h in
        let differ : to i ≡ to n → ⊥ = λ q. ne_of_lt l (apart i n (le_step l) (le_refl (suc n)) h e q) in
        (image.0, without_other g (to n) (to i) differ ∙ image.1)

    go : (t : Bool) → f n ≡ t → count f n ≤ count g m → (f n ≡ true → count f n ≤ count (without g (to n)) m)
        → cond t (suc (count f n)) (count f n) ≤ count g m
    go true e rest fewer =
        let image = into n (le_refl (suc n)) e in
        omega (arith, fewer e, count_without g m (to n) image.0 image.1)
    go false e rest fewer = rest

-- the last: the number itself is below the bound, passes, and is at least each that passes
pub last_is : (f : ℕ → Bool) (n k : ℕ) → k < n → f k ≡ true → (last f n < n) × (f (last f n) ≡ true) × (k ≤ last f n)
unfolding last
last_is f zero k h e = absurd (not-suc-le-zero h)
last_is f (suc n) k h e = go (f n) refl (λ l. last_is f n k l e)
  where
    go : (t : Bool) → f n ≡ t → (k < n → (last f n < n) × (f (last f n) ≡ true) × (k ≤ last f n))
        → (cond t n (last f n) < suc n) × (f (cond t n (last f n)) ≡ true) × (k ≤ cond t n (last f n))
    go true q rest = (le_refl (suc n), q, le_of_suc-le-suc h)
    go false q rest =
        let r = rest (lt_of_le-ne (le_of_suc-le-suc h) (λ i. true≢false (sym e ∙ ap f i ∙ q))) in
        (le_step r.0, r.1, r.2)

pub last_none : (f : ℕ → Bool) (n : ℕ) → ((k : ℕ) → k < n → f k ≡ false) → last f n ≡ 0
unfolding last
last_none f zero h = refl
last_none f (suc n) h = rw (h n (le_refl (suc n))) (last_none f n (λ k l. h k (omega arith)))
