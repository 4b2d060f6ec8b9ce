-- Words turned around the circle: the set of the first positions is a run of ones turned forward, and a set of stages turned
-- back is a set of positions.
-- Bit s of a word shifted down by k is bit k + s of the word (has_down); shifted up by o, bits below o are 0 and bit
-- o + s is bit s of the word (up_low, has_up); a word of w bits loses nothing below bit w (has_cut, has_shifted). The word of n
-- ones has exactly the bits below n (has_ones). So `all` has the stages below n, `run` the first c of them, and the run turned
-- by o in n bits has stage s where the position of s is below c: at or past o by the run shifted up, before o by what was
-- shifted out at bit n and comes back at bit 0. A set of stages shifted down by o has position p where the stage at p is at or
-- past o; the stages before o follow at bit n - o (turned_back). Assumes nothing.
use mathlib.Core.Bool.{Bool, true, false, cond, ◌&&◌, ◌||◌, and-true, and-false, or-false}
use mathlib.Core.Path.{◌≡◌, refl, sym, ap, ap₂, ◌∙◌}
use Prim.Native.Nat.{ℕ, suc, ◌+◌, ◌-◌, ◌*◌, ◌/◌, ◌%◌, ◌^◌, ◌≤◌, ◌<◌}
use native.Mathlib.Nat.{mul_assoc, mul_comm}
use native.Mathlib.Omega.{arith}
use lib.Bits.{bit_and, bit_or, shifted_even}
use lib.Dec.{eqb, leb, ltb}
use lib.Pow.{pow-add, shl-shr, shr-shr, high, low, field, mod-mod-pow, ones_lt, ones_split}
use borrow.Author.Tests.{ltb-true, ltb-false, leb-true, lt-ltb, le-ltb, leb-false, le-leb, lt-leb}
use Rattle.marks.specs.Circle.{stage, position, firsts, turned}
use Rattle.marks.specs.Stages.{has}
use Rattle.marks.proofs.Sets.{has_or, has_and, has_small, same_set}
use Rattle.marks.proofs.Turns.{firsts_has, firsts_out, turned_has}

has_down : (a k s : ℕ) → has (a / 2 ^ k) s ≡ has a (k + s)
has_down a k s = ap (λ (x : ℕ). eqb (x % 2) 1) (shr-shr a k s)

has_up : (a o s : ℕ) → has (a * 2 ^ o) (o + s) ≡ has a s
has_up a o s = sym (has_down (a * 2 ^ o) o s) ∙ ap (λ (x : ℕ). has x s) (shl-shr a o)

-- the bits that were shifted in
up_low : (a s k : ℕ) → has (a * 2 ^ (s + suc k)) s ≡ false
up_low a s k =
    ap (λ (x : ℕ). eqb (x / 2 ^ s % 2) 1)
    (ap (λ (x : ℕ). a * x) (pow-add 2 s (suc k) ∙ mul_comm (2 ^ s) (2 ^ suc k)) ∙ sym (mul_assoc a (2 ^ suc k) (2 ^ s)))
    ∙ ap (λ (x : ℕ). eqb (x % 2) 1) (shl-shr (a * 2 ^ suc k) s)
    ∙ ap (λ (x : ℕ). eqb x 1) (shifted_even a k)

has_cut : (a s k : ℕ) → has (a % 2 ^ (suc k + s)) s ≡ has a s
has_cut a s k =
    ap (λ (x : ℕ). eqb (x % 2) 1) (field a (suc k) s)
    ∙ ap (λ (x : ℕ). eqb (a / 2 ^ s % 2 ^ x % 2) 1) {x = suc k} {y = k + 1} (omega arith)
    ∙ ap (λ (x : ℕ). eqb x 1) (mod-mod-pow (a / 2 ^ s) k 1)

-- a word of w bits shifted up
has_shifted : (w a o s : ℕ) → s < w → has (a * 2 ^ o % 2 ^ w) s ≡ (leb o s && has a (s - o))
has_shifted w a o s h =
    ap (λ (m : ℕ). has (a * 2 ^ o % 2 ^ m) s) {x = w} {y = suc (w - suc s) + s} (omega arith)
    ∙ has_cut (a * 2 ^ o) s (w - suc s) ∙ go (leb o s) refl
  where
    go : (t : Bool) → leb o s ≡ t → has (a * 2 ^ o) s ≡ (t && has a (s - o))
    go true e =
        let l : o ≤ s = leb-true o s e in
        ap (has (a * 2 ^ o)) {x = s} {y = o + (s - o)} (omega arith) ∙ has_up a o (s - o)
    go false e =
        let l : s < o = leb-false o s e in
        ap (λ (m : ℕ). has (a * 2 ^ m) s) {x = o} {y = s + suc (o - suc s)} (omega arith) ∙ up_low a s (o - suc s)

ones_below : (j k : ℕ) → has (2 ^ (suc j + k) - 1) k ≡ true
ones_below j k =
    ap (λ (x : ℕ). eqb (x / 2 ^ k % 2) 1) (ones_split (suc j) k)
    ∙ ap (λ (x : ℕ). eqb (x % 2) 1) (high (2 ^ suc j - 1) k (ones_lt k))
    ∙ ap (λ (x : ℕ). eqb ((2 ^ x - 1) % 2) 1) {x = suc j} {y = j + 1} (omega arith)
    ∙ ap (λ (x : ℕ). eqb (x % 2) 1) (ones_split j 1)
    ∙ ap (λ (x : ℕ). eqb x 1) (low (2 ^ j - 1) 1 (ones_lt 1))

has_ones : (n k : ℕ) → has (2 ^ n - 1) k ≡ ltb k n
has_ones n k = go (ltb k n) refl
  where
    go : (t : Bool) → ltb k n ≡ t → has (2 ^ n - 1) k ≡ t
    go true e =
        let h : k < n = ltb-true k n e in
        ap (λ (m : ℕ). has (2 ^ m - 1) k) {x = n} {y = suc (n - suc k) + k} (omega arith) ∙ ones_below (n - suc k) k
    go false e = has_small (2 ^ n - 1) n k (ones_lt n) (ltb-false k n e)

-- the word of w ones without its last j, of which n are left
fewer_ones : (a w j n : ℕ) → ((s : ℕ) → has a s ≡ ltb s w) → j + n ≡ w → (s : ℕ) → has (a / 2 ^ j) s ≡ ltb s n
fewer_ones a w j n h e s = has_down a j s ∙ h (j + s) ∙ go (ltb s n) refl
  where
    go : (t : Bool) → ltb s n ≡ t → ltb (j + s) w ≡ t
    go true q = let l : s < n = ltb-true s n q in lt-ltb (j + s) w (omega arith)
    go false q = let l : n ≤ s = ltb-false s n q in le-ltb (j + s) w (omega arith)

-- In a word of w bits: one bit for each of n stages, the first c of them, and these turned by o.
abbrev all_of : ℕ → ℕ → ℕ
all_of w n = (2 ^ w - 1) / 2 ^ (w - n)

abbrev run_of : ℕ → ℕ → ℕ → ℕ
run_of w n c = all_of w n / 2 ^ (n - c)

abbrev turned_run : ℕ → ℕ → ℕ → ℕ → ℕ
turned_run w o n c = bit_or (bit_and (run_of w n c * 2 ^ o % 2 ^ w) (all_of w n)) (run_of w n c / 2 ^ (n - 1 - o) / 2 ^ 1)

-- the stages of the word a, the part of them before o, after the others, and the first c of all
abbrev stages_of : ℕ → ℕ → ℕ → ℕ
stages_of w n a = bit_and a (all_of w n)

abbrev wrapped : ℕ → ℕ → ℕ → ℕ → ℕ
wrapped w o n a = stages_of w n a * 2 ^ (n - 1 - o) % 2 ^ w * 2 ^ 1 % 2 ^ w

abbrev turned_set : ℕ → ℕ → ℕ → ℕ → ℕ → ℕ
turned_set w o n c a = bit_and (bit_or (stages_of w n a / 2 ^ o) (wrapped w o n a)) (run_of w n c)

module _ (w o n c : ℕ) (start : o < n) (some : c ≤ n) (fits : n ≤ w) where
  all_has : (s : ℕ) → has (all_of w n) s ≡ ltb s n
  all_has = fewer_ones (2 ^ w - 1) w (w - n) n (has_ones w) (omega arith)

  run_has : (s : ℕ) → has (run_of w n c) s ≡ ltb s c
  run_has = fewer_ones (all_of w n) n (n - c) c all_has (omega arith)

  -- what was shifted out at bit n
  back_has : (s : ℕ) → has (run_of w n c / 2 ^ (n - 1 - o) / 2 ^ 1) s ≡ ltb (s + n - o) c
  back_has s =
      has_down (run_of w n c / 2 ^ (n - 1 - o)) 1 s ∙ has_down (run_of w n c) (n - 1 - o) (1 + s)
      ∙ run_has (n - 1 - o + (1 + s)) ∙ ap (λ (x : ℕ). ltb x c) (omega arith)

  up_has : (s : ℕ) → s < n → has (run_of w n c * 2 ^ o % 2 ^ w) s ≡ (leb o s && ltb (s - o) c)
  up_has s h = has_shifted w (run_of w n c) o s (omega arith) ∙ ap (λ (t : Bool). leb o s && t) (run_has (s - o))

  run_turned : (s : ℕ) → has (turned_run w o n c) s
      ≡ (has (run_of w n c * 2 ^ o % 2 ^ w) s && has (all_of w n) s || has (run_of w n c / 2 ^ (n - 1 - o) / 2 ^ 1) s)
  run_turned s =
      let up = run_of w n c * 2 ^ o % 2 ^ w in
      let back = run_of w n c / 2 ^ (n - 1 - o) / 2 ^ 1 in
      has_or (bit_and up (all_of w n)) back s ∙ ap (λ (t : Bool). t || has back s) (has_and up (all_of w n) s)

  -- no stage comes back at or past o, and none past the last
  none_back : (s : ℕ) → o ≤ s → has (run_of w n c / 2 ^ (n - 1 - o) / 2 ^ 1) s ≡ false
  none_back s h = back_has s ∙ le-ltb (s + n - o) c (omega arith)

  stage_has : (s : ℕ) → s < n → has (turned_run w o n c) s ≡ ltb (position o n s) c
  stage_has s h =
      run_turned s ∙ ap₂ (λ (t u : Bool). t && u || has (run_of w n c / 2 ^ (n - 1 - o) / 2 ^ 1) s) (up_has s h)
      (all_has s ∙ lt-ltb s n h)
      ∙ go (leb o s) refl
    where
      go : (t : Bool) → leb o s ≡ t
          → (t && ltb (s - o) c && true || has (run_of w n c / 2 ^ (n - 1 - o) / 2 ^ 1) s)
          ≡ ltb (cond t (s - o) (s + n - o)) c
      go true e =
          ap₂ ◌||◌ (and-true (ltb (s - o) c)) (none_back s (leb-true o s e)) ∙ or-false (ltb (s - o) c)
      go false e = back_has s

  past_has : (s : ℕ) → n ≤ s → has (turned_run w o n c) s ≡ false
  past_has s h =
      let up = has (run_of w n c * 2 ^ o % 2 ^ w) s in
      run_turned s ∙ ap₂ (λ (t u : Bool). up && t || u) (all_has s ∙ le-ltb s n h) (none_back s (omega arith))
      ∙ ap (λ (t : Bool). t || false) (and-false up)

  pub turned_firsts : turned_run w o n c ≡ firsts o n c
  turned_firsts = same_set (turned_run w o n c) (firsts o n c) (λ s. go s (ltb s n) refl)
    where
      go : (s : ℕ) (t : Bool) → ltb s n ≡ t → has (turned_run w o n c) s ≡ has (firsts o n c) s
      go s true e =
          let h : s < n = ltb-true s n e in
          stage_has s h ∙ sym (firsts_has o n start c s some h)
      go s false e =
          let h : n ≤ s = ltb-false s n e in
          past_has s h ∙ sym (firsts_out o n start c s some h)

  module _ (a : ℕ) where
    stages_has : (s : ℕ) → has (stages_of w n a) s ≡ (has a s && ltb s n)
    stages_has s = has_and a (all_of w n) s ∙ ap (λ (t : Bool). has a s && t) (all_has s)

    wrapped_has : (p : ℕ) → p < w
        → has (wrapped w o n a) p ≡ (leb 1 p && (leb (n - 1 - o) (p - 1) && has (stages_of w n a) (p - 1 - (n - 1 - o))))
    wrapped_has p h =
        has_shifted w (stages_of w n a * 2 ^ (n - 1 - o) % 2 ^ w) 1 p h
        ∙ ap (λ (t : Bool). leb 1 p && t) (has_shifted w (stages_of w n a) (n - 1 - o) (p - 1) (omega arith))

    -- at or past o, no stage has come around
    unwrapped : (p : ℕ) → p < w → o + p < n → has (wrapped w o n a) p ≡ false
    unwrapped p h l = wrapped_has p h ∙ go (leb 1 p) refl
      where
        go : (t : Bool) → leb 1 p ≡ t
            → (t && (leb (n - 1 - o) (p - 1) && has (stages_of w n a) (p - 1 - (n - 1 - o)))) ≡ false
        go true e =
            let m : 1 ≤ p = leb-true 1 p e in
            ap (λ (t : Bool). t && has (stages_of w n a) (p - 1 - (n - 1 - o))) (lt-leb (n - 1 - o) (p - 1) (omega arith))
        go false e = refl

    position_has : (p : ℕ) → p < n → (has (stages_of w n a / 2 ^ o) p || has (wrapped w o n a) p) ≡ has a (stage o n p)
    position_has p h = go (ltb (o + p) n) refl
      where
        down : (t : Bool) → ltb (o + p) n ≡ t → has (stages_of w n a / 2 ^ o) p ≡ (has a (o + p) && t)
        down t e = has_down (stages_of w n a) o p ∙ stages_has (o + p) ∙ ap (λ (u : Bool). has a (o + p) && u) e

        go : (t : Bool) → ltb (o + p) n ≡ t
            → (has (stages_of w n a / 2 ^ o) p || has (wrapped w o n a) p) ≡ has a (cond t (o + p) (o + p - n))
        go true e =
            ap₂ ◌||◌ (down true e ∙ and-true (has a (o + p))) (unwrapped p (omega arith) (ltb-true (o + p) n e))
            ∙ or-false (has a (o + p))
        go false e =
            let l : n ≤ o + p = ltb-false (o + p) n e in
            ap₂ ◌||◌ (down false e ∙ and-false (has a (o + p)))
            (wrapped_has p (omega arith)
            ∙ ap₂ (λ (t u : Bool). t && (u && has (stages_of w n a) (p - 1 - (n - 1 - o))))
            (le-leb 1 p (omega arith)) (le-leb (n - 1 - o) (p - 1) (omega arith))
            ∙ ap (has (stages_of w n a)) {x = p - 1 - (n - 1 - o)} {y = o + p - n} (omega arith)
            ∙ stages_has (o + p - n)
            ∙ ap (λ (t : Bool). has a (o + p - n) && t) (lt-ltb (o + p - n) n (omega arith)) ∙ and-true (has a (o + p - n)))

    pub turned_back : turned_set w o n c a ≡ turned o n a c
    turned_back = same_set (turned_set w o n c a) (turned o n a c) (λ p. go p (ltb p c) refl)
      where
        go : (p : ℕ) (t : Bool) → ltb p c ≡ t → has (turned_set w o n c a) p ≡ has (turned o n a c) p
        go p t e =
            has_and (bit_or (stages_of w n a / 2 ^ o) (wrapped w o n a)) (run_of w n c) p
            ∙ ap₂ ◌&&◌ (has_or (stages_of w n a / 2 ^ o) (wrapped w o n a) p) (run_has p ∙ e)
            ∙ by t e ∙ sym (turned_has o n a c p ∙ ap (λ (u : Bool). u && has a (stage o n p)) e)
          where
            by : (t : Bool) → ltb p c ≡ t
                → ((has (stages_of w n a / 2 ^ o) p || has (wrapped w o n a) p) && t) ≡ (t && has a (stage o n p))
            by true e =
                let l : p < c = ltb-true p c e in
                and-true (has (stages_of w n a / 2 ^ o) p || has (wrapped w o n a) p) ∙ position_has p (omega arith)
            by false e = and-false (has (stages_of w n a / 2 ^ o) p || has (wrapped w o n a) p)
