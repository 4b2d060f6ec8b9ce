-- The highest stage in a set, and a set of positions without its highest one.
-- A word with 2 ^ j ≤ a < 2 ^ (j + 1) has bit j and none above it, and the zeros above bit j and the j + 1 bits from there
-- on make the word's width, so the leading zeros tell j (highest_is). The highest position in the set of the first k positions
-- whose stage is in x is the youngest of them; none is between it and k, and without it the set is that of the first j (falls).
-- Assumes nothing.
use mathlib.Core.Bool.{Bool, true, false, cond, ◌&&◌, true≢false, and-eq-true_iff}
use mathlib.Core.Path.{◌≡◌, refl, sym, ap, ap₂, ◌∙◌}
use Prim.Native.Nat.{ℕ, suc, ◌+◌, ◌-◌, ◌^◌, ◌≤◌, ◌<◌}
use native.Mathlib.Nat.{lt_of_not-le, one-mul}
use native.Mathlib.Omega.{arith}
use lib.Arith.{lt_of_le-ne}
use lib.Bits.{bit_or, or_shifted_r}
use lib.Count.{count_leading_zeros, leading_top}
use lib.Dec.{ltb}
use borrow.Author.Tests.{ltb-true, ltb-false, lt-ltb}
use Rattle.marks.specs.Circle.{stage, turned}
use Rattle.marks.specs.Counting.{last}
use Rattle.marks.specs.Stages.{has}
use Rattle.marks.proofs.Counts.{last_is}
use Rattle.marks.proofs.Sets.{has_small, member, same_set, small_set}
use Rattle.marks.proofs.Turns.{turned_has}

-- a member is below each bound of the word
member_lt : (a m k : ℕ) → a < 2 ^ m → has a k ≡ true → k < m
member_lt a m k h e = lt_of_not-le (λ l. true≢false (sym e ∙ has_small a m k h l))

top_has : (a j : ℕ) → 2 ^ j ≤ a → a < 2 ^ suc j → has a j ≡ true
top_has a j least most = go (has a j) refl
  where
    go : (t : Bool) → has a j ≡ t → t ≡ true
    go true e = refl
    go false e =
        let low : a < 2 ^ j =
        small_set a j
        (λ k m. lt_of_le-ne (omega (arith, member_lt a (suc j) k most m)) (λ q. true≢false (sym m ∙ ap (has a) q ∙ e))) in
        absurd (omega arith)

pub highest_is : (w a : ℕ) → 0 < a → a < 2 ^ w → count_leading_zeros w a + suc (last (has a) w) ≡ w
highest_is w a some fits =
    let top = leading_top w a some fits in
    let at = last_is (has a) w top.0 (omega (arith, top.1)) (top_has a top.0 top.2 top.3) in
    let l = member_lt a (suc top.0) (last (has a) w) top.3 at.1 in
    omega (arith, top.1, at.2, l)

module _ (o n x : ℕ) where
  -- a set of positions that has come down to the first k, and the highest of them, j
  pub record Falls (k j : ℕ) : Type 0 where
    pub below : j < k
    pub member : has (turned o n x k) j ≡ true
    pub none : (p : ℕ) → j < p → p < k → has x (stage o n p) ≡ false
    pub rest : turned o n x k - 2 ^ j ≡ turned o n x j

  turned_to_lem : (k p : ℕ) → has (turned o n x k) p ≡ true → (p < k) × (has x (stage o n p) ≡ true)
  turned_to_lem k p e =
      let both = (and-eq-true_iff (ltb p k) (has x (stage o n p))).0 (sym (turned_has o n x k p) ∙ e) in
      (ltb-true p k both.0, both.1)

  turned_lt : (k : ℕ) → turned o n x k < 2 ^ k
  turned_lt k = small_set (turned o n x k) k (λ p e. (turned_to_lem k p e).0)

  turned_clause : (j : ℕ) → has x (stage o n j) ≡ true → turned o n x (suc j) ≡ 2 ^ j + turned o n x j
  unfolding turned
  turned_clause j e =
      ap (λ (t : Bool). bit_or (turned o n x j) (cond t (2 ^ j) 0)) e
      ∙ ap (bit_or (turned o n x j)) (sym (one-mul (2 ^ j))) ∙ or_shifted_r 1 j (turned o n x j) (turned_lt j)
      ∙ ap (λ (y : ℕ). y + turned o n x j) (one-mul (2 ^ j))

  -- no position from j on
  turned_same : (j k : ℕ) → j ≤ k → ((p : ℕ) → j ≤ p → p < k → has x (stage o n p) ≡ false) → turned o n x k ≡ turned o n x j
  turned_same j k l none =
      same_set (turned o n x k) (turned o n x j)
      (λ p. turned_has o n x k p ∙ go p (ltb p k) refl (ltb p j) refl ∙ sym (turned_has o n x j p))
    where
      go : (p : ℕ) (t : Bool) → ltb p k ≡ t → (u : Bool) → ltb p j ≡ u → (t && has x (stage o n p)) ≡ (u && has x (stage o n p))
      go p true e true d = refl
      go p true e false d = none p (ltb-false p j d) (ltb-true p k e)
      go p false e true d = absurd (omega (arith, ltb-false p k e, ltb-true p j d))
      go p false e false d = refl

  pub falls : (w k : ℕ) → k ≤ w → 0 < turned o n x k → Falls k (last (has (turned o n x k)) w)
  falls w k fits some =
      let m = member (turned o n x k) (λ z. omega arith) in
      let j = last (has (turned o n x k)) w in
      let top = last_is (has (turned o n x k)) w m.0 (omega (arith, (turned_to_lem k m.0 m.1).0)) m.1 in
      let at = turned_to_lem k j top.1 in
      let free = above j (λ p e. (last_is (has (turned o n x k)) w p (omega (arith, (turned_to_lem k p e).0)) e).2) in
      let same = turned_same (suc j) k at.0 free in
      let one = turned_clause j at.1 in
      record { below = at.0; member = top.1; none = free; rest = omega (arith, one, same) }
    where
      above : (j : ℕ) → ((p : ℕ) → has (turned o n x k) p ≡ true → p ≤ j)
          → (p : ℕ) → j < p → p < k → has x (stage o n p) ≡ false
      above j most p l h = go (has x (stage o n p)) refl
        where
          go : (t : Bool) → has x (stage o n p) ≡ t → t ≡ false
          go false e = refl
          go true e = absurd (omega (arith, most p (turned_has o n x k p ∙ ap₂ ◌&&◌ (lt-ltb p k h) e)))
