-- Execute store: among younger live references that have executed to this address, go from the nearest on. If the first one
-- met is a load that took another word than the one stored, that load and everything younger is squashed. If it is a load that
-- took this word, or a store, or there is none, nothing is.
-- Assumes nothing.
use Rattle.std.specs.Prelude.{cond, List, [], ◌∷◌, ℕ, suc, ◌+◌, eqb, length, drop}
use Rattle.table.specs.Reference.{Side, lacks, holds, Fate, waiting, other, accessed, Ref, ref, State}

-- How many stay from a reference on that has executed to the address, where an older store puts the word v there. Its load is
-- met before its store: if it took another word, none stays from it on. If it took v, or if there is only a store, it and all
-- `all` younger ones stay: the walk ends there. With neither the walk goes on, and `rest` of the younger ones stay.
abbrev pub kept_met : Side → Side → ℕ → ℕ → ℕ → ℕ
kept_met (holds w) s v all rest = cond (eqb w v) (suc all) 0
kept_met lacks (holds u) v all rest = suc all
kept_met lacks lacks v all rest = suc rest

-- the same of one with this fate
abbrev pub kept_from : Fate → ℕ → ℕ → ℕ → ℕ → ℕ
kept_from waiting a v all rest = suc rest
kept_from other a v all rest = suc rest
kept_from (accessed b l s) a v all rest = cond (eqb b a) (kept_met l s v all rest) (suc rest)

-- how many of these younger references stay when an older store of the word v to address a executes
unfoldable pub kept_younger : ℕ → ℕ → List Ref → ℕ
kept_younger a v [] = 0
kept_younger a v (ref n f ∷ refs) = kept_from f a v (length refs) (kept_younger a v refs)

-- how many references stay when the one at position p stores the word v to address a
abbrev pub kept_after_store : State → ℕ → ℕ → ℕ → ℕ
kept_after_store P p a v = suc p + kept_younger a v (drop (suc p) P.refs)
