-- The letters of instructions. A byte's code is its place among the letters (code_met, code_none), and each code is that of its
-- letter (codes_agree). Assumes nothing.
use mathlib.Core.Bool.{Bool, true, false, cond, not}
use mathlib.Core.Path.{◌≡◌, refl, ◌∙◌}
use mathlib.Core.List.{List, [], ◌∷◌}
use Prim.Native.Nat.{ℕ, suc, ◌+◌}
use native.Mathlib.Omega.{arith}
use lib.Dec.{eqb, ltb}
use lib.ListN.{length}
use borrow.Author.Tests.{lt-ltb, le-ltb, ltb-true, ltb-false}
use Rattle.std.specs.Prelude.{Some, None, position}
use Rattle.std.specs.List.{position_or_len}
use Rattle.marks.specs.Counting.{every}
use Rattle.script_model.specs.Language.{letters, letter, code_from, letter_code}

-- the code of a byte is its place among the letters
code_placed : (n : ℕ) (ls : List ℕ) (b : ℕ)
    → let k = position_or_len (eqb b) ls in code_from n ls b ≡ cond (ltb k (length ls)) (n + k) 0
unfolding code_from
code_placed n [] b = refl
code_placed n (l ∷ ls) b = go (eqb b l) (code_placed (suc n) ls b)
  where
    more : (k : ℕ) (t : Bool) → ltb k (length ls) ≡ t → cond t (suc n + k) 0 ≡ cond (ltb (1 + k) (suc (length ls))) (n + (1 + k)) 0
    more k true e = rw (lt-ltb (1 + k) (suc (length ls)) (omega (arith, ltb-true k (length ls) e))) (omega arith)
    more k false e = rw (le-ltb (1 + k) (suc (length ls)) (omega (arith, ltb-false k (length ls) e)))

    go : (t : Bool) → code_from (suc n) ls b ≡ cond (ltb (position_or_len (eqb b) ls) (length ls)) (suc n + position_or_len (eqb b) ls) 0
        → let k = cond (not t) (1 + position_or_len (eqb b) ls) 0 in
        cond t n (code_from (suc n) ls b) ≡ cond (ltb k (suc (length ls))) (n + k) 0
    go true e = rw (lt-ltb 0 (suc (length ls)) (omega arith)) (omega arith)
    go false e = e ∙ more (position_or_len (eqb b) ls) (ltb (position_or_len (eqb b) ls) (length ls)) refl

-- the code at its place; a byte that has none
pub code_met : (b : ℕ) (n : ℕ) → position (eqb b) letters ≡ Some n → letter_code b ≡ n
code_met b n e = code_placed 0 letters b ∙ go (ltb k 7) e
  where
    k : ℕ
    k = position_or_len (eqb b) letters

    go : (t : Bool) → cond t (Some k) None ≡ Some n → cond t (0 + k) 0 ≡ n
    go true f = let g : k ≡ n = cc in omega arith
    go false f = cc

pub code_none : (b : ℕ) → position (eqb b) letters ≡ None → letter_code b ≡ 0
code_none b e = code_placed 0 letters b ∙ go (ltb k 7) e
  where
    k : ℕ
    k = position_or_len (eqb b) letters

    go : (t : Bool) → cond t (Some k) None ≡ None → cond t (0 + k) 0 ≡ 0
    go true f = cc
    go false f = refl

codes_agree : every (λ (code : ℕ). eqb (letter_code (letter code)) code) 7 ≡ true
unfolding every code_from
codes_agree = refl
