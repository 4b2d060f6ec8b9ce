-- The row that is found for an execution, and how many references it leaves, are those of specs/Outcome.antt: by cases on
-- whether the address has a row. Then the row is good for the address among the references that stay. A store that is given a
-- row without a squash checks its marks; a row that was free has none.
-- Assumes nothing.
use mathlib.Core.Bool.{Bool, true, false, cond}
use mathlib.Core.Path.{◌≡◌, refl, sym, subst, ◌∙◌}
use Prim.Native.Nat.{ℕ, zero, suc, ◌+◌, ◌-◌, ◌*◌, ◌≤◌, ◌<◌}
use native.Mathlib.Nat.{le_refl}
use native.Mathlib.Omega.{arith}
use lib.Dec.{ltb, eqb-suc-zero}
use lib.ListN.{length, get_or}
use borrow.Author.Tests.{ltb-true, ltb-false}
use Rattle.table.specs.declared.Table.{Table}
use Rattle.table.specs.Limits.{rows_most}
use Rattle.table.specs.Bank.{bank}
use Rattle.table.specs.Reference.{Side, accessed, holds, loaded}
use Rattle.table.specs.Rules.{Rules}
use Rattle.table.specs.View.{view}
use Rattle.table.proofs.Fates.{length_refs}
use Rattle.table.proofs.Owning.{RowFor, row_for_less}
use Rattle.lookup.specs.declared.Place.{Place}
use Rattle.lookup.specs.Violation.{kept_after_store}
use Rattle.lookup.specs.Rows.{touched}
use Rattle.lookup.specs.Outcome.{allocate_row, survivors}
use Rattle.lookup.specs.Computed.Search.{row_of, violation_point, allocated_row, place_for, left_after}
use Rattle.lookup.proofs.Violations.{violates_checked, checked_after, untouched_checked}
use Rattle.lookup.proofs.Bankrows.{row_none, row_some, taken_room, taken_row}

-- the place that an execution to address a at position p is given
abbrev pub place_at : Table → ℕ → ℕ → Place
place_at t a p =
    place_for t.oldest t.stages t.live t.rows t.addresses t.loads t.stores (bank t.banks a) a p

-- a place that leaves something leaves the executing reference, and its row is the address's among what stays
pub record Placed (t : Table) (a p : ℕ) (place : Place) : Type 0 where
  pub after : p < place.left
  pub within : place.left ≤ t.live
  pub owned : RowFor t a place.row place.left

-- the place of a store of the word v: what it violates goes too
abbrev pub store_at : Table → ℕ → ℕ → ℕ → Place
store_at t a v p =
    let q = place_at t a p in
    record {
      row = q.row;
      left = left_after t.oldest t.stages t.live t.loads t.stores t.taken q.row q.left p v;
    }

module _ (t : Table) (rules : Rules t) (a p : ℕ) (live : p < t.live) where
  abbrev found : ℕ
  found = row_of t.rows t.addresses t.loads t.stores (bank t.banks a) a

  abbrev room_for : Place
  room_for = allocated_row t.oldest t.stages t.live t.rows t.loads t.stores (bank t.banks a) p

  abbrev held : ℕ → ℕ
  held i = bank t.banks a * rows_most + i

  place_none : found ≡ 0 → place_at t a p ≡ room_for
  place_none e = rw e

  place_some : (i : ℕ) → found ≡ suc i → place_at t a p ≡ record { row = held (suc i - 1); left = t.live }
  place_some i e = rw (e, eqb-suc-zero i)

  pub place_left : (w : ℕ) → (place_at t a p).left ≡ survivors (view t) p (loaded a w)
  place_left w = go found refl
    where
      go : (i : ℕ) → found ≡ i → (place_at t a p).left ≡ survivors (view t) p (loaded a w)
      go zero e = rw (place_none e, row_none t rules a e) (taken_room t rules a p live (row_none t rules a e))
      go (suc i) e = rw (place_some i e, (row_some t rules a i e).0) (sym (length_refs t))

  pub placed : ((place_at t a p).left ≡ 0 → ⊥) → Placed t a p (place_at t a p)
  placed = go found refl
    where
      go : (i : ℕ) → found ≡ i → ((place_at t a p).left ≡ 0 → ⊥) → Placed t a p (place_at t a p)
      go zero e =
          subst (λ (q : Place). (q.left ≡ 0 → ⊥) → Placed t a p q) (sym (place_none e))
          (λ some.
          let w = taken_row t rules a p live (row_none t rules a e) some in
          record { after = w.0; within = w.1; owned = w.2 })
      go (suc i) e =
          subst (λ (q : Place). (q.left ≡ 0 → ⊥) → Placed t a p q) (sym (place_some i e))
          (λ some.
          let z : suc i - 1 ≡ i = omega arith in
          record { after = live; within = le_refl t.live; owned = rw z (row_some t rules a i e).1 })

  -- a place that leaves all: the row's marks are this address's, and the check of them is the list's
  checked : (v : ℕ) → t.live ≤ (place_at t a p).left
      → (RowFor t a (place_at t a p).row t.live)
      × (violation_point t.oldest t.stages t.live (get_or t.loads (place_at t a p).row 0)
      (get_or t.stores (place_at t a p).row 0) t.taken p v
      ≡ kept_after_store (view t) p a v)
  checked v all =
      let q = placed (λ z. omega (arith, all, live, z)) in
      let whole : (place_at t a p).left ≡ t.live = omega (arith, all, q.within) in
      let own : RowFor t a (place_at t a p).row t.live = subst (RowFor t a (place_at t a p).row) whole q.owned in
      (own, violates_checked t rules a v (place_at t a p).row p live own)

  pub store_left : (l : Side) (v : ℕ) → (store_at t a v p).left ≡ survivors (view t) p (accessed a l (holds v))
  store_left l v = go (ltb (place_at t a p).left t.live) refl (touched a (view t).refs) refl
    where
      go : (b : Bool) → ltb (place_at t a p).left t.live ≡ b → (c : Bool) → touched a (view t).refs ≡ c
          → cond b (place_at t a p).left
          (violation_point t.oldest t.stages t.live (get_or t.loads (place_at t a p).row 0)
          (get_or t.stores (place_at t a p).row 0) t.taken p v)
          ≡ cond c (kept_after_store (view t) p a v) (allocate_row (view t) p (bank t.banks a))
      go true e true f =
          let all : (place_at t a p).left ≡ length (view t).refs = rw f at (place_left 0) in
          absurd (omega (arith, ltb-true (place_at t a p).left t.live e, all, length_refs t))
      go true e false f = rw f at (place_left 0)
      go false e true f = (checked v (ltb-false (place_at t a p).left t.live e)).1
      go false e false f =
          let room : (place_at t a p).left ≡ allocate_row (view t) p (bank t.banks a) = rw f at (place_left 0) in
          let all = ltb-false (place_at t a p).left t.live e in
          let some = placed (λ z. omega (arith, all, live, z)) in
          (checked v all).1 ∙ untouched_checked (view t) p a v (omega (arith, live, length_refs t)) f
          ∙ omega (arith, room, all, some.within, length_refs t)

  pub store_placed : (v : ℕ) → ((store_at t a v p).left ≡ 0 → ⊥) → Placed t a p (store_at t a v p)
  store_placed v = go (ltb (place_at t a p).left t.live) refl
    where
      point : ℕ
      point =
          violation_point t.oldest t.stages t.live (get_or t.loads (place_at t a p).row 0)
          (get_or t.stores (place_at t a p).row 0) t.taken p v

      go : (b : Bool) → ltb (place_at t a p).left t.live ≡ b → (cond b (place_at t a p).left point ≡ 0 → ⊥)
          → Placed t a p (record { row = (place_at t a p).row; left = cond b (place_at t a p).left point })
      go true e some = placed some
      go false e some =
          let w = checked v (ltb-false (place_at t a p).left t.live e) in
          let bounds = checked_after (view t) p a v (rw (length_refs t) live) in
          let below : point ≤ t.live =
          subst (λ (n : ℕ). point ≤ n) (length_refs t) (rw w.1 bounds.1) in
          record {
            after = rw w.1 bounds.0;
            within = below;
            owned = row_for_less t a (place_at t a p).row t.live point below w.0;
          }
