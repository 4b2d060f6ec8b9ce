-- Faithful references: each load side holds the word that its reference sees. That calls from an opening on keep it is what makes
-- a load right that an older store spares (proofs/Faithfully.antt).
-- Assumes nothing.
use Rattle.std.specs.Prelude.{◌≡◌, List, [], ◌∷◌, ℕ}
use Rattle.table.specs.Reference.{Side, lacks, holds, Fate, waiting, other, accessed, Ref, ref}
use Rattle.lookup.specs.Forwarding.{word_after}

-- the memory seen as μ, past a reference with this fate
abbrev pub past : Fate → (ℕ → ℕ) → ℕ → ℕ
past f μ a = word_after f a (μ a)

-- a load of address a took the word that is seen there
abbrev pub TookAt : (ℕ → ℕ) → ℕ → Side → Type 0
TookAt μ a lacks = Unit {0}
TookAt μ a (holds w) = μ a ≡ w

abbrev pub Took : (ℕ → ℕ) → Fate → Type 0
Took μ waiting = Unit {0}
Took μ other = Unit {0}
Took μ (accessed a l s) = TookAt μ a l

-- each of these references did, oldest first, where the oldest sees the memory as μ
abbrev pub Faithful : (ℕ → ℕ) → List Ref → Type 0
Faithful μ [] = Unit {0}
Faithful μ (ref n f ∷ refs) = Took μ f × Faithful (past f μ) refs
