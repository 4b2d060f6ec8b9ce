-- A list beside the window's entries, position by position (Each), as both grow at the young end, are cut and change at one
-- position. What holds of each entry by itself is said of the entries beside themselves.
-- Assumes nothing.
use mathlib.Core.Bool.{Bool, true, false}
use mathlib.Core.List.{List, [], ◌∷◌, ◌++◌}
use mathlib.Core.Path.{◌≡◌, refl, sym, ap, subst, ◌∙◌}
use Prim.Native.Nat.{ℕ, ◌+◌, ◌-◌, ◌<◌, min}
use native.Mathlib.Omega.{arith}
use lib.Dec.{eqb, ltb}
use lib.ListN.{length, get_or, take, drop, set, length-append, length-take, length-drop, length-set, get_or-append}
use lib.Seq.{get_or-take, get_or-drop, get_or-set_same, get_or-set_other, get_or_at}
use borrow.Author.Tests.{ltb-true, ltb-false, eqb-true, eqb-false}
use Rattle.machine_model.specs.declared.Entry.{Entry}
use Rattle.machine_model.specs.Window.{blank_entry, entry_at}

-- the lists have one length, and what stands at each position is related
abbrev pub Each : {A : Type 0} → A → (A → Entry → Type 0) → List A → List Entry → Type 0
Each none P rs es = (length rs ≡ length es) × ((p : ℕ) → p < length es → P (get_or rs p none) (entry_at es p))

module _ {A : Type 0} (none : A) (P : A → Entry → Type 0) (rs : List A) (es : List Entry) (all : Each none P rs es) where
  pub each_next : (r : A) (e : Entry) → P r e → Each none P (rs ++ (r ∷ [])) (es ++ (e ∷ []))
  each_next r e h =
      (simp length-append (omega (arith, all.0)), λ p l. go p l (ltb p (length es)) refl)
    where
      go : (p : ℕ) → p < length (es ++ (e ∷ [])) → (t : Bool) → ltb p (length es) ≡ t
          → P (get_or (rs ++ (r ∷ [])) p none) (entry_at (es ++ (e ∷ [])) p)
      go p l true t =
          let i : p < length es = ltb-true p (length es) t in
          rw (get_or-append rs (r ∷ []) none p (omega (arith, all.0)), get_or-append es (e ∷ []) blank_entry p i)
          (all.1 p i)
      go p l false t =
          let i : length es ≡ p = omega (arith, ltb-false p (length es) t, length-append es (e ∷ [])) in
          rw (get_or_at rs r [] none p (all.0 ∙ i), get_or_at es e [] blank_entry p i) h

  pub each_take : (k : ℕ) → Each none P (take k rs) (take k es)
  each_take k =
      (length-take k rs ∙ ap (min k) all.0 ∙ sym (length-take k es), λ p l. go p l (length-take k es))
    where
      go : (p : ℕ) → p < length (take k es) → length (take k es) ≡ min k (length es)
          → P (get_or (take k rs) p none) (entry_at (take k es) p)
      go p l m =
          let i : p < k = omega arith in
          rw (get_or-take k rs p none i, get_or-take k es p blank_entry i) (all.1 p (omega arith))

  pub each_drop : (k : ℕ) → Each none P (drop k rs) (drop k es)
  each_drop k = (
    length-drop k rs ∙ ap (λ (n : ℕ). n - k) all.0 ∙ sym (length-drop k es),
    λ p l. rw (get_or-drop k rs p none, get_or-drop k es p blank_entry) (all.1 (k + p) (omega (arith, length-drop k es))),
  )

  pub each_set : (p : ℕ) (r : A) (e : Entry) → P r e → Each none P (set rs p r) (set es p e)
  each_set p r e h =
      (length-set rs p r ∙ all.0 ∙ sym (length-set es p e), λ q l. go q (rw (length-set es p e) at l) (eqb q p) refl)
    where
      go : (q : ℕ) → q < length es → (t : Bool) → eqb q p ≡ t → P (get_or (set rs p r) q none) (entry_at (set es p e) q)
      go q l true t =
          let i : q ≡ p = eqb-true q p t in
          subst (λ (j : ℕ). P (get_or (set rs p r) j none) (entry_at (set es p e) j)) (sym i)
          (rw (
            get_or-set_same rs p r none (omega (arith, all.0)),
            get_or-set_same es p e blank_entry (omega arith),
          ) h)
      go q l false t =
          let i = eqb-false q p t in
          rw (get_or-set_other rs p q r none i, get_or-set_other es p q e blank_entry i) (all.1 q l)
