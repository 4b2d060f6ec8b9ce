-- WHY A LOAD THAT IS SPARED IS RIGHT. A store that executes changes what younger references see at its address alone, and there
-- only up to the next store. Walk from it to the first younger reference that loaded from the address or stored there.
-- If that is a store, or there is none, no load before it saw the word that changes, and those behind it see what they saw.
-- If it is a load, it took the word that the storing reference itself sees there, since every load so far took what it sees
-- (Faithful) and no store stands between. So where it took the word that is stored, the store puts the word that is already
-- there: nobody sees another word than before, the loads behind it included, and the walk may end. Where it took another word,
-- it is squashed, and everything younger with it.
-- Either way, at each address the younger references that stay see what they saw, or they are clear of it: none of them loads
-- from there before one of them stores there (`spares`, `changed`). Hence all of them stay faithful (faithful_set). A squash
-- takes a prefix, an issue appends a reference that waits, a commit moves the oldest into memory: these keep it for nothing.
-- Assumes nothing.
use mathlib.Core.Path.{◌≡◌, refl, sym, ap, subst, ◌∙◌}
use mathlib.Core.Bool.{Bool, true, false, cond, true≢false}
use mathlib.Core.List.{List, [], ◌∷◌, ◌++◌, map}
use mathlib.Core.Logic.{◌⊎◌, inl, inr, ⊎_elim}
use Prim.Native.Nat.{ℕ, zero, suc, ◌-◌, ◌≤◌, ◌<◌}
use native.Mathlib.Nat.{not-suc-le-zero, suc-sub-suc, sub-zero}
use native.Mathlib.Omega.{arith}
use lib.Dec.{eqb}
use lib.ListN.{length, take, drop, set}
use borrow.Author.Tests.{eqb-true, eq-eqb}
use Rattle.table.specs.Reference.{Side, lacks, holds, Fate, waiting, other, accessed, idle, Ref, ref, fate_of, at}
use Rattle.lookup.specs.Forwarding.{word_or, word_after, seen}
use Rattle.lookup.specs.Violation.{kept_met, kept_from, kept_younger}
use Rattle.lookup.specs.Computed.Faithful.{past, TookAt, Took, Faithful}
use Rattle.lookup.proofs.Forwards.{seen_next}

-- ---- what a store may change

-- no load of address a among these fates stands before every store to a: none of them saw the word before them
abbrev pub clear_met : Side → Side → Bool → Bool
clear_met (holds w) s rest = false
clear_met lacks (holds v) rest = true
clear_met lacks lacks rest = rest

abbrev pub clear_by : Fate → ℕ → Bool → Bool
clear_by waiting a rest = rest
clear_by other a rest = rest
clear_by (accessed b l s) a rest = cond (eqb b a) (clear_met l s rest) rest

unfoldable pub clear : ℕ → List Fate → Bool
clear a [] = true
clear a (f ∷ fs) = clear_by f a (clear a fs)

-- the younger ones that stay where one executes to this fate that sees the memory as μ: a store puts the word that is already
-- there, or none of them saw the word before it
abbrev pub SparesAt : (ℕ → ℕ) → ℕ → Side → List Fate → Type 0
SparesAt μ a lacks fs = Unit {0}
SparesAt μ a (holds v) fs = (μ a ≡ v) ⊎ (clear a fs ≡ true)

abbrev pub Spares : (ℕ → ℕ) → Fate → List Fate → Type 0
Spares μ waiting fs = Unit {0}
Spares μ other fs = Unit {0}
Spares μ (accessed a l s) fs = SparesAt μ a s fs

-- so they see what they saw at each address that they are not clear of
pub changed : (μ : ℕ → ℕ) (f : Fate) (fs : List Fate) → Spares μ f fs → (b : ℕ) → clear b fs ≡ false → μ b ≡ past f μ b
changed μ waiting fs spared b h = refl
changed μ other fs spared b h = refl
changed μ (accessed a l s) fs spared b h = go (eqb a b) refl s spared
  where
    go : (t : Bool) → eqb a b ≡ t → (s : Side) → SparesAt μ a s fs → μ b ≡ cond t (word_or s (μ b)) (μ b)
    go true e lacks spared = refl
    go true e (holds v) spared =
        let same : a ≡ b = eqb-true a b e in
        ⊎_elim (λ (there : μ a ≡ v). ap μ (sym same) ∙ there)
        (λ (clears : clear a fs ≡ true). absurd (true≢false (sym clears ∙ ap (λ (x : ℕ). clear x fs) same ∙ h)))
        spared
    go false e s spared = refl

-- ---- two memories that agree where the references are not clear

-- they agree at the address that a load read
abbrev pub SameLoad : Side → ℕ → (ℕ → ℕ) → (ℕ → ℕ) → Type 0
SameLoad lacks a μ μ' = Unit {0}
SameLoad (holds w) a μ μ' = μ a ≡ μ' a

abbrev pub SameRead : Fate → (ℕ → ℕ) → (ℕ → ℕ) → Type 0
SameRead waiting μ μ' = Unit {0}
SameRead other μ μ' = Unit {0}
SameRead (accessed a l s) μ μ' = SameLoad l a μ μ'

past_access : (t : Bool) (l s : Side) (rest : Bool) (w w' : ℕ) → rest ≡ false
    → (cond t (clear_met l s rest) rest ≡ false → w ≡ w') → cond t (word_or s w) w ≡ cond t (word_or s w') w'
past_access false l s rest w w' e agree = agree e
past_access true (holds u) lacks rest w w' e agree = agree refl
past_access true lacks lacks rest w w' e agree = agree e
past_access true l (holds v) rest w w' e agree = refl

-- The oldest of these has fate f. The memories agree at what it read, and again past it.
module _ (μ μ' : ℕ → ℕ) (fs : List Fate) where
  pub same_read : (f : Fate) → ((b : ℕ) → clear_by f b (clear b fs) ≡ false → μ b ≡ μ' b) → SameRead f μ μ'
  same_read waiting agree = tt
  same_read other agree = tt
  same_read (accessed a (holds w) s) agree = agree a (rw (eq-eqb a a refl))
  same_read (accessed a lacks s) agree = tt

  pub same_past : (f : Fate) → ((b : ℕ) → clear_by f b (clear b fs) ≡ false → μ b ≡ μ' b)
      → (b : ℕ) → clear b fs ≡ false → past f μ b ≡ past f μ' b
  same_past waiting agree b e = agree b e
  same_past other agree b e = agree b e
  same_past (accessed a l s) agree b e = past_access (eqb a b) l s (clear b fs) (μ b) (μ' b) e (agree b)

-- ---- faithful references

took_more : (f : Fate) (μ μ' : ℕ → ℕ) → SameRead f μ μ' → Took μ f → Took μ' f
took_more waiting μ μ' same took = tt
took_more other μ μ' same took = tt
took_more (accessed a lacks s) μ μ' same took = tt
took_more (accessed a (holds w) s) μ μ' same took = sym same ∙ took

pub faithful_more : (refs : List Ref) (μ μ' : ℕ → ℕ) → ((b : ℕ) → clear b (map fate_of refs) ≡ false → μ b ≡ μ' b)
    → Faithful μ refs → Faithful μ' refs
unfolding clear
faithful_more [] μ μ' agree h = tt
faithful_more (ref n f ∷ refs) μ μ' agree h = (
  took_more f μ μ' (same_read μ μ' (map fate_of refs) f agree) h.0,
  faithful_more refs (past f μ) (past f μ') (same_past μ μ' (map fate_of refs) f agree) h.1,
)

-- a new youngest reference
pub faithful_next : (refs : List Ref) (n : ℕ) (μ : ℕ → ℕ) → Faithful μ refs → Faithful μ (refs ++ (ref n waiting ∷ []))
faithful_next [] n μ h = (tt, tt)
faithful_next (ref m f ∷ refs) n μ h = (h.0, faithful_next refs n (past f μ) h.1)

-- the oldest of them, and those past them
pub faithful_take : (k : ℕ) (refs : List Ref) (μ : ℕ → ℕ) → Faithful μ refs → Faithful μ (take k refs)
faithful_take zero refs μ h = tt
faithful_take (suc k) [] μ h = tt
faithful_take (suc k) (ref n f ∷ refs) μ h = (h.0, faithful_take k refs (past f μ) h.1)

pub faithful_drop : (k : ℕ) (refs : List Ref) (μ : ℕ → ℕ) → Faithful μ refs
    → Faithful (λ (a : ℕ). seen (take k refs) a (μ a)) (drop k refs)
unfolding seen
faithful_drop zero refs μ h = h
faithful_drop (suc k) [] μ h = tt
faithful_drop (suc k) (ref n f ∷ refs) μ h = faithful_drop k refs (past f μ) h.1

-- one that has not executed leaves every word
idle_past : (f : Fate) (a w : ℕ) → idle f ≡ true → word_after f a w ≡ w
idle_past waiting a w e = refl
idle_past other a w e = refl
idle_past (accessed b l s) a w e = absurd (true≢false (sym e))

-- the one at position p, which has not executed, takes what it sees, and spares those that stay
pub faithful_set : (p left : ℕ) (refs : List Ref) (r : Ref) (μ : ℕ → ℕ) → p < left → idle (fate_of (at refs p)) ≡ true
    → Took (λ (a : ℕ). seen (take p refs) a (μ a)) (fate_of r)
    → Spares (λ (a : ℕ). seen (take p refs) a (μ a)) (fate_of r) (map fate_of (take (left - suc p) (drop (suc p) refs)))
    → Faithful μ refs → Faithful μ (take left (set refs p r))
unfolding seen
faithful_set p zero refs r μ l w took spared h = absurd (not-suc-le-zero l)
faithful_set p (suc left) [] r μ l w took spared h = tt
faithful_set zero (suc left) (ref n g ∷ refs) (ref m f) μ l w took spared h =
    let some : Spares μ f (map fate_of (take left refs)) =
    subst (λ (k : ℕ). Spares μ f (map fate_of (take k refs))) (suc-sub-suc left 0 ∙ sub-zero left) spared in (
      took,
      faithful_more (take left refs) (past g μ) (past f μ)
          (λ b e. idle_past g b (μ b) w ∙ changed μ f (map fate_of (take left refs)) some b e)
          (faithful_take left refs (past g μ) h.1),
    )
faithful_set (suc p) (suc left) (ref n g ∷ refs) r μ l w took spared h = (
  h.0,
  faithful_set p left refs r (past g μ) (omega arith) w took
      (subst
      (λ (k : ℕ). Spares (λ (a : ℕ). seen (take p refs) a (past g μ a)) (fate_of r) (map fate_of (take k (drop (suc p) refs))))
      (suc-sub-suc left (suc p))
      spared)
      h.1,
)

-- ---- what the check of a store spares

-- the younger ones that stay where a store of v to address a executes just before them
spares_first : (f : Fate) (μ : ℕ → ℕ) (a v all rest m : ℕ) (b : Bool) → Took μ f → suc m ≤ kept_from f a v all rest
    → (m ≤ rest → (past f μ a ≡ v) ⊎ (b ≡ true)) → (μ a ≡ v) ⊎ (clear_by f a b ≡ true)
spares_first waiting μ a v all rest m b took l h = h (omega arith)
spares_first other μ a v all rest m b took l h = h (omega arith)
spares_first (accessed c k s) μ a v all rest m b took l h = go (eqb c a) refl k s took l h
  where
    word : (t : Bool) (w : ℕ) → eqb w v ≡ t → μ a ≡ w → suc m ≤ cond t (suc all) 0 → (μ a ≡ v) ⊎ (false ≡ true)
    word true w e there l = inl (there ∙ eqb-true w v e)
    word false w e there l = absurd (omega arith)

    go : (t : Bool) → eqb c a ≡ t → (k s : Side) → TookAt μ c k → suc m ≤ cond t (kept_met k s v all rest) (suc rest)
        → (m ≤ rest → (cond t (word_or s (μ a)) (μ a) ≡ v) ⊎ (b ≡ true)) → (μ a ≡ v) ⊎ (cond t (clear_met k s b) b ≡ true)
    go true e (holds w) s took l h = word (eqb w v) w refl (ap μ (sym (eqb-true c a e)) ∙ took) l
    go true e lacks (holds u) took l h = inr refl
    go true e lacks lacks took l h = h (omega arith)
    go false e k s took l h = h (omega arith)

spares : (refs : List Ref) (μ : ℕ → ℕ) (a v m : ℕ) → Faithful μ refs → m ≤ kept_younger a v refs
    → (μ a ≡ v) ⊎ (clear a (map fate_of (take m refs)) ≡ true)
unfolding kept_younger clear
spares refs μ a v zero h l = inr refl
spares [] μ a v (suc m) h l = inr refl
spares (ref n f ∷ refs) μ a v (suc m) h l =
    spares_first f μ a v (length refs) (kept_younger a v refs) m (clear a (map fate_of (take m refs))) h.0 l
    (spares refs (past f μ) a v m h.1)

-- the same of the reference at position p, which has not executed
pub spares_after : (refs : List Ref) (μ : ℕ → ℕ) (p a v m : ℕ) → p < length refs → idle (fate_of (at refs p)) ≡ true
    → Faithful μ refs → m ≤ kept_younger a v (drop (suc p) refs)
    → (seen (take p refs) a (μ a) ≡ v) ⊎ (clear a (map fate_of (take m (drop (suc p) refs))) ≡ true)
spares_after refs μ p a v m live w h l =
    ⊎_elim
    (λ (there : seen (take (suc p) refs) a (μ a) ≡ v).
    inl
    (sym (seen_next refs p a (μ a) live ∙ idle_past (fate_of (at refs p)) a (seen (take p refs) a (μ a)) w) ∙ there))
    inr
    (spares (drop (suc p) refs) (λ (b : ℕ). seen (take (suc p) refs) b (μ b)) a v m (faithful_drop (suc p) refs μ h) l)
