-- The word that a load takes from its address's row, and how far it came, are what the plain list says. Induction on the load's
-- position: one more older reference is the last of the list (seen_next). Where the row bears a store mark at its stage, it
-- is the nearest older store, and its word is taken on both sides. Where the row bears none, it is no store to this address,
-- since such a store is marked in the address's only row, and both sides go on to the older ones. Assumes nothing.
use mathlib.Core.Bool.{Bool, true, false, cond, ◌&&◌, true≢false}
use mathlib.Core.List.{List, [], ◌∷◌, ◌++◌}
use mathlib.Core.Path.{◌≡◌, refl, sym, ap, ap₂, ◌∙◌}
use Prim.Native.Nat.{ℕ, zero, suc, ◌≤◌, ◌<◌, ◌-◌}
use native.Mathlib.Numerals.{sub-one}
use native.Mathlib.Omega.{arith}
use lib.Dec.{eqb, eqb-suc-zero}
use lib.ListN.{length, get_or, take}
use lib.Seq.{take-suc}
use borrow.Author.Tests.{eq-eqb, ne_eqb, eqb-true}
use Rattle.table.specs.declared.Table.{Table}
use Rattle.table.specs.Reference.{lacks, holds, Fate, waiting, other, accessed, Ref, ref, fate_of, at, blank}
use Rattle.table.specs.Rules.{Rules}
use Rattle.table.specs.View.{view, stage_of, address, value, store_mark, word_if, fate_at}
use Rattle.table.proofs.Fates.{Fated, waits, bare, marks, fated, mark_store, length_refs, at_refs}
use Rattle.table.proofs.Fates.{fate_marked, fate_other, fate_waiting}
use Rattle.table.proofs.Owning.{RowFor, row_for_less}
use Rattle.lookup.specs.Forwarding.{word_or, word_after, seen, holds_word, stores_to, further, distance}
use Rattle.lookup.specs.Computed.Search.{find, below, nearest, forward}
use Rattle.lookup.proofs.Loops.{find_le}

-- the last of a list comes last
seen_last : (refs : List Ref) (x : Ref) (a w : ℕ) → seen (refs ++ (x ∷ [])) a w ≡ word_after (fate_of x) a (seen refs a w)
unfolding seen
seen_last [] (ref n f) a w = refl
seen_last (ref m g ∷ refs) x a w = seen_last refs x a (word_after g a w)

-- one more older reference
pub seen_next : (refs : List Ref) (p a w : ℕ) → p < length refs
    → seen (take (suc p) refs) a w ≡ word_after (fate_of (at refs p)) a (seen (take p refs) a w)
seen_next refs p a w h =
    ap (λ (older : List Ref). seen older a w) (take-suc refs p blank h) ∙ seen_last (take p refs) (at refs p) a w

-- a reference that is no executed store to the address leaves the word
pub after_none : (f : Fate) (a w : ℕ) → stores_to a f ≡ false → word_after f a w ≡ w
after_none waiting a w e = refl
after_none other a w e = refl
after_none (accessed b l lacks) a w e = go (eqb b a)
  where
    go : (t : Bool) → cond t w w ≡ w
    go true = refl
    go false = refl
after_none (accessed b l (holds v)) a w e = go (eqb b a) e
  where
    go : (t : Bool) → (t && true) ≡ false → cond t v w ≡ w
    go true e = absurd (true≢false e)
    go false e = refl

word_if_lem : (b : Bool) (v : ℕ) → holds_word (word_if b v) ≡ b
word_if_lem true v = refl
word_if_lem false v = refl

module _ (t : Table) (rules : Rules t) (a r : ℕ) where
  -- a reference is an executed store to the address exactly where the address's row bears a store mark
  store_marked : (p : ℕ) → RowFor t a r (suc p) → stores_to a (fate_at t (stage_of t p)) ≡ store_mark t r (stage_of t p)
  store_marked p own = go (store_mark t r (stage_of t p)) refl
    where
      go : (b : Bool) → store_mark t r (stage_of t p) ≡ b → stores_to a (fate_at t (stage_of t p)) ≡ b
      go true e =
          let m = mark_store t r (stage_of t p) e in
          ap (stores_to a) (fate_marked t rules r (stage_of t p) own.row m)
          ∙ ap (λ (b : Bool). b && holds_word (word_if (store_mark t r (stage_of t p)) (value t (stage_of t p))))
          (eq-eqb (address t r) a (own.own p (omega arith) m))
          ∙ word_if_lem (store_mark t r (stage_of t p)) (value t (stage_of t p))
          ∙ e
      go false e = unmarked (fated t (stage_of t p))
        where
          unmarked : Fated t (stage_of t p) → stores_to a (fate_at t (stage_of t p)) ≡ false
          unmarked (waits h) = ap (stores_to a) (fate_waiting t rules (stage_of t p) h)
          unmarked (bare h l) = ap (stores_to a) (fate_other t rules (stage_of t p) h l)
          unmarked (marks q l h) =
              ap (stores_to a) (fate_marked t rules q (stage_of t p) l h) ∙ same (eqb (address t q) a) refl
            where
              -- the row of the address is row r
              same : (b : Bool) → eqb (address t q) a ≡ b
                  → (b && holds_word (word_if (store_mark t q (stage_of t p)) (value t (stage_of t p)))) ≡ false
              same true i =
                  word_if_lem (store_mark t q (stage_of t p)) (value t (stage_of t p))
                  ∙ ap (λ (k : ℕ). store_mark t k (stage_of t p))
                  (own.only q p l (omega arith) h (eqb-true (address t q) a i))
                  ∙ e
              same false i = refl

  -- one with a store mark there leaves its own word
  after_marked : (p w : ℕ) → RowFor t a r (suc p) → store_mark t r (stage_of t p) ≡ true
      → word_after (fate_at t (stage_of t p)) a w ≡ value t (stage_of t p)
  after_marked p w own e =
      let m = mark_store t r (stage_of t p) e in
      ap (λ (f : Fate). word_after f a w) (fate_marked t rules r (stage_of t p) own.row m)
      ∙ ap (λ (b : Bool). cond b (word_or (word_if (store_mark t r (stage_of t p)) (value t (stage_of t p))) w) w)
      (eq-eqb (address t r) a (own.own p (omega arith) m))
      ∙ ap (λ (b : Bool). word_or (word_if b (value t (stage_of t p))) w) e

-- what is taken where k is one more than the position of the nearest older store mark
abbrev taking : Table → ℕ → ℕ → ℕ
taking t w k = cond (eqb k 0) w (value t (stage_of t (k - 1)))

taking_seen : (t : Table) → Rules t → (a r p w : ℕ) → p ≤ t.live → RowFor t a r p
    → taking t w (find (λ (q : ℕ). store_mark t r (stage_of t q)) p) ≡ seen (take p (view t).refs) a w
unfolding find seen
taking_seen t rules a r zero w h own = refl
taking_seen t rules a r (suc p) w h own =
    let n : p < length (view t).refs = omega (arith, length_refs t) in
    go (store_mark t r (stage_of t p)) refl
    (taking_seen t rules a r p w (omega arith) (row_for_less t a r (suc p) p (omega arith) own))
    ∙ ap (λ (x : Ref). word_after (fate_of x) a (seen (take p (view t).refs) a w)) (sym (at_refs t p h))
    ∙ sym (seen_next (view t).refs p a w n)
  where
    go : (b : Bool) → store_mark t r (stage_of t p) ≡ b
        → taking t w (find (λ (q : ℕ). store_mark t r (stage_of t q)) p) ≡ seen (take p (view t).refs) a w
        → taking t w (cond b (suc p) (find (λ (q : ℕ). store_mark t r (stage_of t q)) p))
        ≡ word_after (fate_at t (stage_of t p)) a (seen (take p (view t).refs) a w)
    go true e older =
        ap (λ (b : Bool). cond b w (value t (stage_of t (suc p - 1)))) (eqb-suc-zero p)
        ∙ ap (λ (k : ℕ). value t (stage_of t k)) (sub-one (suc p))
        ∙ sym (after_marked t rules a r p (seen (take p (view t).refs) a w) own e)
    go false e older =
        older
        ∙ sym (after_none (fate_at t (stage_of t p)) a (seen (take p (view t).refs) a w) (store_marked t rules a r p own ∙ e))

-- so many positions below p is where k says
taking_below : (t : Table) (w p k : ℕ) → k ≤ p
    → cond (eqb (below p k) 0) w (value t (stage_of t (p - below p k))) ≡ taking t w k
taking_below t w p zero h = refl
taking_below t w p (suc k) h =
    let away : suc p - suc k ≡ p - k = omega arith in
    let there : p - (p - k) ≡ suc k - 1 = omega arith in
    ap (λ (b : Bool). cond (eqb (cond b 0 (suc p - suc k)) 0) w (value t (stage_of t (p - cond b 0 (suc p - suc k)))))
    (eqb-suc-zero k)
    ∙ ap (λ (d : ℕ). cond (eqb d 0) w (value t (stage_of t (p - d)))) away
    ∙ ap₂ (λ (b : Bool) (q : ℕ). cond b w (value t (stage_of t q))) (ne_eqb (p - k) 0 (λ z. omega arith)) there
    ∙ ap (λ (b : Bool). cond b w (value t (stage_of t (suc k - 1)))) (sym (eqb-suc-zero k))

pub forward_seen : (t : Table) → Rules t → (a r p w : ℕ) → p ≤ t.live → RowFor t a r p
    → (forward t.oldest t.stages t.stores t.values r p w).word ≡ seen (take p (view t).refs) a w
forward_seen t rules a r p w h own =
    taking_below t w p (find (λ (q : ℕ). store_mark t r (stage_of t q)) p) (find_le _ p) ∙ taking_seen t rules a r p w h own

-- one position younger
below_further : (p k : ℕ) → k ≤ p → below (suc p) k ≡ further (below p k)
below_further p zero h = refl
below_further p (suc k) h =
    let more : suc (suc p) - suc k ≡ suc (suc p - suc k) = omega arith in
    ap (λ (b : Bool). cond b 0 (suc (suc p) - suc k)) (eqb-suc-zero k)
    ∙ more
    ∙ ap (λ (b : Bool). cond b 0 (suc (suc p - suc k))) (sym (ne_eqb (suc p - suc k) 0 (λ z. omega arith)))
    ∙ ap (λ (b : Bool). further (cond b 0 (suc p - suc k))) (sym (eqb-suc-zero k))

pub forward_distance : (t : Table) → Rules t → (a r p : ℕ) → p ≤ t.live → RowFor t a r p
    → nearest t.oldest t.stages (get_or t.stores r 0) p ≡ distance (view t).refs p a
unfolding find distance
forward_distance t rules a r zero h own = refl
forward_distance t rules a r (suc p) h own =
    go (store_mark t r (stage_of t p))
    (forward_distance t rules a r p (omega arith) (row_for_less t a r (suc p) p (omega arith) own))
    ∙ ap (λ (b : Bool). cond b 1 (further (distance (view t).refs p a)))
    (sym (store_marked t rules a r p own) ∙ ap (λ (x : Ref). stores_to a (fate_of x)) (sym (at_refs t p h)))
  where
    go : (b : Bool) → below p (find (λ (q : ℕ). store_mark t r (stage_of t q)) p) ≡ distance (view t).refs p a
        → below (suc p) (cond b (suc p) (find (λ (q : ℕ). store_mark t r (stage_of t q)) p))
        ≡ cond b 1 (further (distance (view t).refs p a))
    go true older =
        let one : suc (suc p) - suc p ≡ 1 = omega arith in
        ap (λ (b : Bool). cond b 0 (suc (suc p) - suc p)) (eqb-suc-zero p) ∙ one
    go false older =
        below_further p (find (λ (q : ℕ). store_mark t r (stage_of t q)) p) (find_le _ p) ∙ ap further older
