-- What an execution at a position leaves: one law whatever is executed. The effect that the code finds says how many
-- references stay (effect_left), in which row the mark is set (effect_bounds), what a load takes (effect_value) and how far it
-- came (effect_distance); the table with that effect applied has the references that stay, the executing one with its fate,
-- and keeps the rules (effect_view, effect_rules). By what is executed: a value alone is noted, an access is marked in the row
-- found in the table that is left.
-- Assumes nothing.
use mathlib.Core.Path.{◌≡◌, refl, sym, ap, ap₂, subst, ◌∙◌}
use mathlib.Core.Bool.{Bool, true, false, cond, ◌||◌}
use mathlib.Core.List.{List}
use Prim.Native.Nat.{ℕ, ◌^◌, ◌≤◌, ◌<◌}
use native.Mathlib.Nat.{le_refl, le_of_lt}
use native.Mathlib.Omega.{arith}
use lib.Bits.{bit_or}
use lib.ListN.{length, get_or, set}
use lib.Seq.{take_all}
use lib.Dec.{eqb}
use borrow.Author.Tests.{eqb-true, eqb-false, lt-ltb, le-ltb}
use Rattle.marks.specs.Stages.{has}
use Rattle.table.specs.declared.Table.{Table}
use Rattle.table.specs.Limits.{slots}
use Rattle.table.specs.Reference.{lacks, holds, other, accessed, loaded, stored, merged, State}
use Rattle.table.specs.View.{stage_of, word_if, view}
use Rattle.table.specs.Rules.{Rules}
use Rattle.table.specs.Moves.{windowed, squash_to, with_fate}
use Rattle.table.proofs.Fates.{length_refs}
use Rattle.table.proofs.Owning.{RowFor, row_small, row_for_less}
use Rattle.engine.specs.Computed.Steps.{remade, cut_marks, cut, noted, marking, keeping, access_marked}
use Rattle.table.specs.Fits.{Lengths}
use Rattle.engine.proofs.Narrowing.{cut_rules, cut_view, cut_lengths, cut_row}
use Rattle.engine.proofs.Marking.{access_rules, access_view, noted_rules, noted_view}
use Rattle.lookup.specs.declared.Place.{Place}
use Rattle.lookup.specs.Forwarding.{forwarded, distance}
use Rattle.lookup.specs.Computed.Search.{forward}
use Rattle.lookup.specs.Outcome.{survivors, executes}
use Rattle.lookup.proofs.Forwards.{forward_seen, forward_distance}
use Rattle.lookup.proofs.Places.{place_at, store_at, Placed, place_left, placed, store_left, store_placed}
use Rattle.engine.specs.declared.Action.{Action}
use Rattle.engine.specs.declared.Action.TheVariants.{Compute, LoadAt, StoreAt, PartAt}
use Rattle.engine.specs.declared.Part.{Part}
use Rattle.engine.specs.declared.Effect.{Effect}
use Rattle.engine.specs.Execution.{fate_by, answer_of}
use Rattle.engine.specs.Computed.Effect.{effect_at, answered, apply_effect}
use Rattle.engine.specs.Part.{word_of, whole}

module _ (t : Table) (rules : Rules t) (p : ℕ) (live : p < t.live) (w : List ℕ) where
  -- the word that is found for a load of address a in the row of its place
  abbrev found_at : ℕ → ℕ
  found_at a = (forward t.oldest t.stages t.stores t.values (place_at t a p).row p (get_or w a 0)).word

  -- it is the one that a load takes
  found_is : (a : ℕ) → ((place_at t a p).left ≡ 0 → ⊥) → found_at a ≡ forwarded (view t) w p a
  found_is a stays =
      let q = placed t rules a p live stays in
      forward_seen t rules a (place_at t a p).row p _ (le_of_lt live)
      (row_for_less t a (place_at t a p).row (place_at t a p).left p (le_of_lt q.after) q.owned)

  -- a store without a place stalls, whatever its word
  store_stalls : (a v : ℕ) → (place_at t a p).left ≡ 0 → (store_at t a v p).left ≡ 0
  store_stalls a v e = rw (e, lt-ltb 0 t.live (omega arith))

  store_stays : (a v : ℕ) → ((store_at t a v p).left ≡ 0 → ⊥) → (place_at t a p).left ≡ 0 → ⊥
  store_stays a v stays e = stays (store_stalls a v e)

  -- a part's store leaves what the word that it makes of what a load takes leaves
  part_left : (a : ℕ) (f : ℕ → ℕ)
      → (store_at t a (f (found_at a)) p).left ≡ (store_at t a (f (forwarded (view t) w p a)) p).left
  part_left a f = go (eqb (place_at t a p).left 0) refl
    where
      go : (b : Bool) → eqb (place_at t a p).left 0 ≡ b
          → (store_at t a (f (found_at a)) p).left ≡ (store_at t a (f (forwarded (view t) w p a)) p).left
      go true e =
          let stalls = eqb-true (place_at t a p).left 0 e in
          store_stalls a (f (found_at a)) stalls ∙ sym (store_stalls a (f (forwarded (view t) w p a)) stalls)
      go false e =
          ap (λ (x : ℕ). (store_at t a (f x) p).left) (found_is a (eqb-false (place_at t a p).left 0 e))

  pub effect_left : (act : Action) → (effect_at t p w act).left ≡ survivors (view t) p (fate_by (forwarded (view t) w p) act)
  effect_left (Compute x) = sym (length_refs t)
  effect_left (LoadAt a) = place_left t rules a p live (forwarded (view t) w p a)
  effect_left (StoreAt a x) = store_left t rules a p live lacks x
  effect_left (PartAt part b x) =
      let a = word_of b in
      let v = forwarded (view t) w p a in
      part_left a (λ (u : ℕ). whole part b u x) ∙ store_left t rules a p live (holds v) (whole part b v x)

  bounds : (a : ℕ) (found : Place) → Placed t a p found
      → (p < found.left) × (found.left ≤ t.live) × (found.row < slots)
  bounds a found q = (q.after, q.within, row_small t rules found.row q.owned.row)

  pub effect_bounds : (act : Action) → ((effect_at t p w act).left ≡ 0 → ⊥)
      → (p < (effect_at t p w act).left) × ((effect_at t p w act).left ≤ t.live) × ((effect_at t p w act).row < slots)
  effect_bounds (Compute x) stays = (live, le_refl t.live, omega arith)
  effect_bounds (LoadAt a) stays = bounds a (place_at t a p) (placed t rules a p live stays)
  effect_bounds (StoreAt a x) stays = bounds a (store_at t a x p) (store_placed t rules a p live x stays)
  effect_bounds (PartAt part b x) stays =
      let a = word_of b in
      let v = whole part b (found_at a) x in
      bounds a (store_at t a v p) (store_placed t rules a p live v stays)

  -- of the effect that was found
  pub found_bounds : (act : Action) {q : Effect} → q ≡ effect_at t p w act → (q.left ≡ 0 → ⊥)
      → (p < q.left) × (q.left ≤ t.live) × (q.row < slots)
  found_bounds act found stays =
      subst (λ (x : Effect). (p < x.left) × (x.left ≤ t.live) × (x.row < slots)) (sym found)
      (effect_bounds act (λ z. stays (ap (λ (x : Effect). x.left) found ∙ z)))

  pub effect_value : (act : Action) → ((effect_at t p w act).left ≡ 0 → ⊥)
      → answered (effect_at t p w act).load (effect_at t p w act).store (effect_at t p w act).value
      ≡ answer_of (forwarded (view t) w p) act
  effect_value (Compute x) stays = refl
  effect_value (LoadAt a) stays = found_is a stays
  effect_value (StoreAt a x) stays = refl
  effect_value (PartAt part b x) stays = refl

  pub effect_distance : (act : Action) → ((effect_at t p w act).left ≡ 0 → ⊥)
      → (effect_at t p w act).distance ≡ answer_of (distance (view t).refs p) act
  effect_distance (Compute x) stays = refl
  effect_distance (LoadAt a) stays =
      let q = placed t rules a p live stays in
      forward_distance t rules a (place_at t a p).row p (le_of_lt live)
      (row_for_less t a (place_at t a p).row (place_at t a p).left p (le_of_lt q.after) q.owned)
  effect_distance (StoreAt a x) stays = refl
  effect_distance (PartAt part b x) stays = refl

  -- what a part's store takes and stores
  part_taken : (part : Part) (b x : ℕ) → ((effect_at t p w (PartAt part b x)).left ≡ 0 → ⊥)
      → (effect_at t p w (PartAt part b x)).taken ≡ forwarded (view t) w p (word_of b)
  part_taken part b x stays = found_is (word_of b) (store_stays (word_of b) (whole part b (found_at (word_of b)) x) stays)

  pub part_value : (part : Part) (b x : ℕ) → ((effect_at t p w (PartAt part b x)).left ≡ 0 → ⊥)
      → (effect_at t p w (PartAt part b x)).value ≡ whole part b (forwarded (view t) w p (word_of b)) x
  part_value part b x stays = ap (λ (v : ℕ). whole part b v x) (part_taken part b x stays)

  module _ (lengths : Lengths t) (idle : has t.executed (stage_of t p) ≡ false) where
    -- every reference stays
    uncut : apply_effect t (effect_at t p w (Compute 0)) (stage_of t p) ≡ noted t (stage_of t p)
    uncut = rw (le-ltb t.live t.live (le_refl t.live))

    all_kept : squash_to (view t) (length (view t).refs) ≡ view t
    all_kept =
        ap (windowed (view t) t.oldest) (take_all (length (view t).refs) (view t).refs (le_refl (length (view t).refs)))

    -- an access of address a, marked in the row found, in the table that is left
    module _ (a v u : ℕ) (found : Place) (q : Placed t a p found) (load store : Bool) where
      left_rules : Rules (cut t found.left)
      left_rules = cut_rules t rules found.left q.within

      left_row : RowFor (cut t found.left) a found.row found.left
      left_row = cut_row t rules found.left a found.row q.within q.owned

      accessed_rules : Rules (access_marked (cut t found.left) found.row (stage_of t p) a load store v u)
      accessed_rules =
          access_rules (cut t found.left) left_rules (cut_lengths t lengths found.left) p a found.row v u q.after idle
          left_row load store

      accessed_view : (load || store) ≡ true
          → view (access_marked (cut t found.left) found.row (stage_of t p) a load store v u)
          ≡ with_fate (squash_to (view t) found.left) p (accessed a (word_if load u) (word_if store v))
      accessed_view some =
          access_view (cut t found.left) left_rules (cut_lengths t lengths found.left) p a found.row v u q.after idle
          left_row load store some
          ∙ ap (λ (P : State). with_fate P p (accessed a (word_if load u) (word_if store v)))
          (cut_view t rules found.left q.within)

    pub effect_rules : (act : Action) → ((effect_at t p w act).left ≡ 0 → ⊥)
        → Rules (apply_effect t (effect_at t p w act) (stage_of t p))
    effect_rules (Compute x) stays = subst Rules (sym uncut) (noted_rules t rules p live)
    effect_rules (LoadAt a) stays =
        accessed_rules a 0 (effect_at t p w (LoadAt a)).taken (place_at t a p) (placed t rules a p live stays) true false
    effect_rules (StoreAt a x) stays =
        accessed_rules a x 0 (store_at t a x p) (store_placed t rules a p live x stays) false true
    effect_rules (PartAt part b x) stays =
        let a = word_of b in
        let v = whole part b (found_at a) x in
        let q = effect_at t p w (PartAt part b x) in
        accessed_rules a q.value q.taken (store_at t a v p) (store_placed t rules a p live v stays) true true

    pub effect_view : (act : Action) → ((effect_at t p w act).left ≡ 0 → ⊥)
        → view (apply_effect t (effect_at t p w act) (stage_of t p)) ≡ executes (view t) p (fate_by (forwarded (view t) w p) act)
    effect_view (Compute x) stays =
        ap view uncut ∙ noted_view t rules p live idle ∙ ap (λ (P : State). with_fate P p other) (sym all_kept)
    effect_view (LoadAt a) stays =
        accessed_view a 0 (effect_at t p w (LoadAt a)).taken (place_at t a p) (placed t rules a p live stays) true false refl
        ∙ ap₂ (λ (k u : ℕ). with_fate (squash_to (view t) k) p (loaded a u)) (effect_left (LoadAt a)) (found_is a stays)
    effect_view (StoreAt a x) stays =
        accessed_view a x 0 (store_at t a x p) (store_placed t rules a p live x stays) false true refl
        ∙ ap (λ (k : ℕ). with_fate (squash_to (view t) k) p (stored a x)) (effect_left (StoreAt a x))
    effect_view (PartAt part b x) stays =
        let a = word_of b in
        let v = whole part b (found_at a) x in
        let q = effect_at t p w (PartAt part b x) in
        let f = fate_by (forwarded (view t) w p) (PartAt part b x) in
        accessed_view a q.value q.taken (store_at t a v p) (store_placed t rules a p live v stays) true true refl
        ∙ ap₂ (λ (k u : ℕ). with_fate (squash_to (view t) k) p (merged a u q.value)) (effect_left (PartAt part b x))
        (part_taken part b x stays)
        ∙ ap (λ (u : ℕ). with_fate (squash_to (view t) (survivors (view t) p f)) p (merged a (forwarded (view t) w p a) u))
        (part_value part b x stays)

-- the parts changed in place make the table with the effect applied
pub effect_made : (t : Table) (q : Effect) (s done : ℕ) (addresses cut_loads loads cut_stores stores values words : List ℕ)
    → cut_loads ≡ cut_marks t.banks t.oldest t.stages t.live q.left t.loads
    → cut_stores ≡ cut_marks t.banks t.oldest t.stages t.live q.left t.stores
    → done ≡ bit_or t.executed (2 ^ s)
    → addresses ≡ cond (q.load || q.store) (set t.addresses q.row q.word) t.addresses
    → loads ≡ marking cut_loads q.load q.row s → stores ≡ marking cut_stores q.store q.row s
    → values ≡ keeping t.values q.store s q.value → words ≡ keeping t.taken q.load s q.taken
    → remade t t.oldest q.left done addresses loads stores values words ≡ apply_effect t q s
effect_made t q s done addresses cut_loads loads cut_stores stores values words hcl hcs he ha hl hs hv hw =
    rw (hl, hs, hv, hw, ha, he, hcl, hcs)
