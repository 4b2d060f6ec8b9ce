-- A record of whole commits is its first four numbers of each commit woven with its distances. Induction on the commits.
-- Assumes nothing.
use mathlib.Core.Path.{◌≡◌, refl, ap}
use mathlib.Core.List.{List, [], ◌∷◌}
use Prim.Native.Nat.{ℕ, ◌-◌, ◌*◌}
use native.Mathlib.Omega.{arith}
use lib.ListN.{length}
use Rattle.machine_model.specs.Calls.{per_commit}
use Rattle.sequential.specs.Play.{without}
use Rattle.player_model.specs.Truth.{distances_of, woven}

pub record Weaves (xs : List ℕ) (k : ℕ) : Type 0 where
  pub same : woven (without xs) (distances_of xs) ≡ xs
  pub four : length (without xs) ≡ k * 4
  pub one : length (distances_of xs) ≡ k

pub weaves : (xs : List ℕ) (k : ℕ) → length xs ≡ k * per_commit → Weaves xs k
unfolding without distances_of woven
weaves [] k h = record { same = refl; four = omega arith; one = omega arith }
weaves (i ∷ []) k h = absurd (omega arith)
weaves (i ∷ c ∷ []) k h = absurd (omega arith)
weaves (i ∷ c ∷ r ∷ []) k h = absurd (omega arith)
weaves (i ∷ c ∷ r ∷ v ∷ []) k h = absurd (omega arith)
weaves (i ∷ c ∷ r ∷ v ∷ d ∷ xs) k h =
    let w = weaves xs (k - 1) (omega arith) in
    record {
      same = ap (λ (l : List ℕ). i ∷ c ∷ r ∷ v ∷ d ∷ l) w.same;
      four = omega (arith, w.four);
      one = omega (arith, w.one);
    }

-- a distance for each commit makes five numbers of its four
pub woven_length : (xs ds : List ℕ) (k : ℕ) → length xs ≡ k * 4 → length ds ≡ k → length (woven xs ds) ≡ k * per_commit
unfolding woven
woven_length [] ds k h e = omega arith
woven_length (i ∷ []) ds k h e = absurd (omega arith)
woven_length (i ∷ c ∷ []) ds k h e = absurd (omega arith)
woven_length (i ∷ c ∷ r ∷ []) ds k h e = absurd (omega arith)
woven_length (i ∷ c ∷ r ∷ v ∷ xs) [] k h e = absurd (omega arith)
woven_length (i ∷ c ∷ r ∷ v ∷ xs) (d ∷ ds) k h e = omega (arith, woven_length xs ds (k - 1) (omega arith) (omega arith))
