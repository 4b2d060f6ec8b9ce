-- Mark words as sets of stages: members of a union, an intersection and a singleton; equality, bounds, inclusion.
-- Bit k + 1 of a word is bit k of its half (has_half), which carries each law that goes through all the bits. The laws
-- of `or` and `and` are one law over the operation (has_op): bit k of the result depends on the two bits k alone.
-- Assumes nothing.
use mathlib.Core.Bool.{Bool, true, false, ◌&&◌, ◌||◌, true≢false}
use mathlib.Core.Path.{◌≡◌, refl, sym, ap, ap₂, ◌∙◌}
use Prim.Native.Nat.{ℕ, zero, suc, ◌*◌, ◌/◌, ◌%◌, ◌^◌, ◌≤◌, ◌<◌}
use native.Mathlib.Nat.{zero-div, div-one, div-eq_of_lt, mul-div_cancel, mul-mod_left, pow-suc, mod-lt}
use native.Mathlib.Nat.{zero-lt-suc, lt_of_lt_of_le, le_of_suc-le-suc, not-suc-le-zero, lt_of_not-le, le_refl}
use native.Mathlib.Nat.{one-mul, mod-eq_of_lt}
use native.Mathlib.Numerals.{one-add}
use native.Mathlib.Omega.{arith}
use lib.Arith.{bin_ind}
use lib.Bits.{bit_and, bit_or, and_shr, or_shr, and_mod, or_mod}
use lib.Dec.{eqb, eqb-zero-suc, eqb-suc-zero, eqb-suc-suc}
use lib.Pow.{pow-lt, pow_mono, shr-shr}
use Rattle.marks.specs.Stages.{has}

-- a test that cannot pass fails
fails : (t : Bool) → (t ≡ true → ⊥) → t ≡ false
fails true h = absurd (h refl)
fails false h = refl

-- what holds of 0 and of 1 holds of every bit
bit : (P : ℕ → Type 0) → P 0 → P 1 → (x : ℕ) → x < 2 → P x
bit P p q zero h = p
bit P p q (suc zero) h = q
bit P p q (suc (suc x)) h = absurd (not-suc-le-zero (le_of_suc-le-suc (le_of_suc-le-suc h)))

module _ (op : ℕ → ℕ → ℕ) (test : Bool → Bool → Bool)
    (shr : (a b k : ℕ) → op a b / 2 ^ k ≡ op (a / 2 ^ k) (b / 2 ^ k))
    (low : (a b k : ℕ) → op a b % 2 ^ k ≡ op (a % 2 ^ k) (b % 2 ^ k))
    (bits : (x y : ℕ) → x < 2 → y < 2 → eqb (op x y) 1 ≡ test (eqb x 1) (eqb y 1)) where
  has_op : (a b k : ℕ) → has (op a b) k ≡ test (has a k) (has b k)
  has_op a b k =
      ap (λ (x : ℕ). eqb (x % 2) 1) (shr a b k) ∙ ap (λ (x : ℕ). eqb x 1) (low (a / 2 ^ k) (b / 2 ^ k) 1)
      ∙ bits (a / 2 ^ k % 2) (b / 2 ^ k % 2) (mod-lt (a / 2 ^ k) (zero-lt-suc 1)) (mod-lt (b / 2 ^ k) (zero-lt-suc 1))

or_bits : (x y : ℕ) → x < 2 → y < 2 → eqb (bit_or x y) 1 ≡ (eqb x 1 || eqb y 1)
or_bits x y h l =
    bit (λ (u : ℕ). eqb (bit_or u y) 1 ≡ (eqb u 1 || eqb y 1)) refl
    (bit (λ (v : ℕ). eqb (bit_or 1 v) 1 ≡ true) refl refl y l) x h

and_bits : (x y : ℕ) → x < 2 → y < 2 → eqb (bit_and x y) 1 ≡ (eqb x 1 && eqb y 1)
and_bits x y h l =
    bit (λ (u : ℕ). eqb (bit_and u y) 1 ≡ (eqb u 1 && eqb y 1)) refl
    (bit (λ (v : ℕ). eqb (bit_and 1 v) 1 ≡ eqb v 1) refl refl y l) x h

-- the union and the intersection of two sets
pub has_or : (a b k : ℕ) → has (bit_or a b) k ≡ (has a k || has b k)
has_or = has_op bit_or ◌||◌ or_shr or_mod or_bits

pub has_and : (a b k : ℕ) → has (bit_and a b) k ≡ (has a k && has b k)
has_and = has_op bit_and ◌&&◌ and_shr and_mod and_bits

-- the empty set
pub has_zero : (k : ℕ) → has 0 k ≡ false
has_zero k = rw zero-div

-- the next bit of a word is a bit of its half
has_half : (a k : ℕ) → has a (suc k) ≡ has (a / 2) k
has_half a k = ap (λ (x : ℕ). eqb (x % 2) 1) (ap (λ (j : ℕ). a / 2 ^ j) (sym (one-add k)) ∙ sym (shr-shr a 1 k))

has_first : (a : ℕ) → has a 0 ≡ eqb (a % 2) 1
has_first a = ap (λ (x : ℕ). eqb (x % 2) 1) (div-one a)

-- the set of one stage
pub has_one : (s k : ℕ) → has (2 ^ s) k ≡ eqb s k
has_one zero zero = refl
has_one zero (suc k) = has_half 1 k ∙ has_zero k ∙ sym (eqb-zero-suc k)
has_one (suc s) zero =
    has_first (2 ^ suc s) ∙ ap (λ (x : ℕ). eqb (x % 2) 1) (pow-suc 2 s)
    ∙ ap (λ (x : ℕ). eqb x 1) (mul-mod_left (2 ^ s) 2) ∙ sym (eqb-suc-zero s)
has_one (suc s) (suc k) =
    has_half (2 ^ suc s) k
    ∙ ap (λ (x : ℕ). has x k) (ap (λ (x : ℕ). x / 2) (pow-suc 2 s) ∙ mul-div_cancel (2 ^ s) (zero-lt-suc 1))
    ∙ has_one s k ∙ sym (eqb-suc-suc s k)

-- a word is its half and its first bit
same_bit : (x y : ℕ) → x < 2 → y < 2 → eqb x 1 ≡ eqb y 1 → x ≡ y
same_bit x y h l =
    bit (λ (u : ℕ). eqb u 1 ≡ eqb y 1 → u ≡ y)
    (bit (λ (v : ℕ). eqb 0 1 ≡ eqb v 1 → 0 ≡ v) (λ _. refl) (λ e. absurd (true≢false (sym e))) y l)
    (bit (λ (v : ℕ). eqb 1 1 ≡ eqb v 1 → 1 ≡ v) (λ e. absurd (true≢false e)) (λ _. refl) y l) x h

halves : (a b : ℕ) → a / 2 ≡ b / 2 → has a 0 ≡ has b 0 → a ≡ b
halves a b e f =
    let first = sym (has_first a) ∙ f ∙ has_first b in
    let l : a % 2 ≡ b % 2 = same_bit (a % 2) (b % 2) (omega arith) (omega arith) first in
    omega arith

-- two words with the same bits are equal
pub same_set : (a b : ℕ) → ((k : ℕ) → has a k ≡ has b k) → a ≡ b
same_set =
    bin_ind (λ (a : ℕ). (b : ℕ) → ((k : ℕ) → has a k ≡ has b k) → a ≡ b)
    (bin_ind (λ (b : ℕ). ((k : ℕ) → has 0 k ≡ has b k) → 0 ≡ b) (λ _. refl)
    (λ b ih h. halves 0 b (ih (down 0 b h)) (h 0)))
    (λ a ih b h. halves a b (ih (b / 2) (down a b h)) (h 0))
  where
    down : (a b : ℕ) → ((k : ℕ) → has a k ≡ has b k) → (k : ℕ) → has (a / 2) k ≡ has (b / 2) k
    down a b h k = sym (has_half a k) ∙ h (suc k) ∙ has_half b k

pub empty_set : (a : ℕ) → ((k : ℕ) → has a k ≡ false) → a ≡ 0
empty_set a h = same_set a 0 (λ k. h k ∙ sym (has_zero k))

-- a word that is not 0 has a member
pub member : (a : ℕ) → (a ≡ 0 → ⊥) → (k : ℕ) × (has a k ≡ true)
member =
    bin_ind (λ (a : ℕ). (a ≡ 0 → ⊥) → (k : ℕ) × (has a k ≡ true)) (λ h. absurd (h refl))
    (λ a ih h. go a ih h (has a 0) refl)
  where
    go : (a : ℕ) → ((a / 2 ≡ 0 → ⊥) → (k : ℕ) × (has (a / 2) k ≡ true)) → (a ≡ 0 → ⊥)
        → (t : Bool) → has a 0 ≡ t → (k : ℕ) × (has a k ≡ true)
    go a ih h true e = (0, e)
    go a ih h false e =
        let m : (k : ℕ) × (has (a / 2) k ≡ true) = ih (λ z. h (halves a 0 z (e ∙ sym (has_zero 0)))) in
        (suc m.0, has_half a m.0 ∙ m.1)

-- a word below 2 ^ m is a set of stages below m, and the other way round
pub has_small : (w m k : ℕ) → w < 2 ^ m → m ≤ k → has w k ≡ false
has_small w m k h l = ap (λ (x : ℕ). eqb (x % 2) 1) (div-eq_of_lt (lt_of_lt_of_le h (pow_mono l)))

pub small_set : (w m : ℕ) → ((k : ℕ) → has w k ≡ true → k < m) → w < 2 ^ m
small_set w zero h = let z : w ≡ 0 = empty_set w (λ k. fails (has w k) (λ e. not-suc-le-zero (h k e))) in omega arith
small_set w (suc m) h =
    let l : w / 2 < 2 ^ m = small_set (w / 2) m (λ k e. le_of_suc-le-suc (h (suc k) (has_half w k ∙ e))) in
    omega (arith, pow-suc 2 m)

-- a member's bit is part of the word
pub has_least : (w k : ℕ) → has w k ≡ true → 2 ^ k ≤ w
has_least w k e = le_of_suc-le-suc (lt_of_not-le (λ l. true≢false (sym e ∙ has_small w k k l (le_refl k))))

-- the word of one stage, in w bits
pub one_up : (w k : ℕ) → k < w → 1 * 2 ^ k % 2 ^ w ≡ 2 ^ k
one_up w k h = ap (λ (x : ℕ). x % 2 ^ w) (one-mul (2 ^ k)) ∙ mod-eq_of_lt (pow-lt h)

-- inclusion and disjointness, as words and by members
pub inside : (a b : ℕ) → bit_and a b ≡ a → (k : ℕ) → has a k ≡ true → has b k ≡ true
inside a b e k h = go (has a k) h (sym (ap (λ (w : ℕ). has w k) e) ∙ has_and a b k)
  where
    go : (t : Bool) → t ≡ true → t ≡ (t && has b k) → has b k ≡ true
    go true p q = sym q
    go false p q = absurd (true≢false (sym p))

pub inside_from : (a b : ℕ) → ((k : ℕ) → has a k ≡ true → has b k ≡ true) → bit_and a b ≡ a
inside_from a b h = same_set (bit_and a b) a (λ k. has_and a b k ∙ go (has a k) (has b k) (h k))
  where
    go : (t u : Bool) → (t ≡ true → u ≡ true) → (t && u) ≡ t
    go true u p = p refl
    go false u p = refl

pub apart : (a b : ℕ) → bit_and a b ≡ 0 → (k : ℕ) → has a k ≡ true → has b k ≡ true → ⊥
apart a b e k h l =
    true≢false (sym (ap₂ ◌&&◌ h l) ∙ sym (has_and a b k) ∙ ap (λ (w : ℕ). has w k) e ∙ has_zero k)

pub apart_from : (a b : ℕ) → ((k : ℕ) → has a k ≡ true → has b k ≡ true → ⊥) → bit_and a b ≡ 0
apart_from a b h = empty_set (bit_and a b) (λ k. has_and a b k ∙ go (has a k) (has b k) (h k))
  where
    go : (t u : Bool) → (t ≡ true → u ≡ true → ⊥) → (t && u) ≡ false
    go true u p = fails u (p refl)
    go false u p = refl
