-- 01's sentences of a load's value and 02's of a load's distance and of a store's check, shown of the definitions in
-- specs/Forwarding and specs/Violation: "youngest", "older", "first met" by positions of the list. Induction on the load's
-- position; for the check, the references that have not executed to the address are passed (spared_skip), and the next one
-- decides (squashes_load, keeps_load, keeps_store); that nothing else squashes goes by the references left to walk over
-- (squashed_at).
-- Assumes nothing.
use mathlib.Core.Bool.{Bool, true, false, cond, ◌&&◌, ◌||◌, true≢false}
use mathlib.Core.List.{List}
use mathlib.Core.Logic.{⊎_elim}
use mathlib.Core.Path.{◌≡◌, refl, sym, ap, subst, ◌∙◌}
use Prim.Native.Nat.{ℕ, zero, suc, ◌≤◌, ◌<◌, ◌+◌, ◌-◌}
use native.Mathlib.Nat.{eq-or-lt_of_le, le_of_suc-le-suc, not-suc-le-zero, le_refl, le_step}
use native.Mathlib.Omega.{arith}
use lib.Dec.{eqb, eqb-suc-zero}
use lib.ListN.{length, get_or, take, drop, length-drop, get_or-eq_default}
use borrow.Author.Tests.{eq-eqb, ne_eqb, eqb-true, eqb-false}
use Rattle.table.specs.Reference.{Side, lacks, holds, Fate, waiting, other, accessed, Ref, ref, fate_of, at, State}
use Rattle.lookup.specs.Forwarding.{word_after, seen, forwarded, holds_word, stores_to, further, distance}
use Rattle.lookup.specs.Rows.{touches, touched}
use Rattle.lookup.specs.Violation.{kept_met, kept_from, kept_younger, kept_after_store}
use Rattle.lookup.specs.Outcome.{survivors}
use Rattle.lookup.proofs.Firsts.{touched_at}
use Rattle.lookup.proofs.Forwards.{after_none, seen_next}
use Rattle.lookup.proofs.Violations.{reaches, spared_next, spared_skip, spared_all}

-- a reference that is no executed store to the address
no_store : (x : Ref) (a : ℕ) → ((m u : ℕ) (l : Side) → x ≡ ref m (accessed a l (holds u)) → ⊥) → stores_to a (fate_of x) ≡ false
no_store (ref n waiting) a none = refl
no_store (ref n other) a none = refl
no_store (ref n (accessed b l s)) a none = go (eqb b a) refl s none
  where
    go : (t : Bool) → eqb b a ≡ t → (s : Side)
        → ((m u : ℕ) (k : Side) → ref n (accessed b l s) ≡ ref m (accessed a k (holds u)) → ⊥) → (t && holds_word s) ≡ false
    go true e lacks none = refl
    go true e (holds v) none = absurd (none n v l (ap (λ (c : ℕ). ref n (accessed c l (holds v))) (eqb-true b a e)))
    go false e s none = refl

-- it leaves the word
after_no_store : (x : Ref) (a w : ℕ) → ((m u : ℕ) (l : Side) → x ≡ ref m (accessed a l (holds u)) → ⊥)
    → word_after (fate_of x) a w ≡ w
after_no_store x a w none = after_none (fate_of x) a w (no_store x a none)

-- "Without one it is the memory word": no older live reference is an executed store to this address
pub seen_none : (refs : List Ref) (p a w : ℕ) → p ≤ length refs
    → ((k m u : ℕ) (l : Side) → k < p → at refs k ≡ ref m (accessed a l (holds u)) → ⊥) → seen (take p refs) a w ≡ w
unfolding seen
seen_none refs zero a w h none = refl
seen_none refs (suc p) a w h none =
    seen_next refs p a w h
    ∙ after_no_store (at refs p) a (seen (take p refs) a w) (λ m u l. none p m u l (le_refl (suc p)))
    ∙ seen_none refs p a w (omega arith) (λ k m u l h. none k m u l (le_step h))

-- "or 0 when the address is W or more": memory has no word there
pub forwarded_outside : (P : State) (memory : List ℕ) (p a : ℕ) → p ≤ length P.refs → length memory ≤ a
    → ((k m u : ℕ) (l : Side) → k < p → at P.refs k ≡ ref m (accessed a l (holds u)) → ⊥) → forwarded P memory p a ≡ 0
forwarded_outside P memory p a h out none =
    seen_none P.refs p a (get_or memory a 0) h none ∙ get_or-eq_default memory 0 out

-- "the value is that of the youngest executed store to this address among older live references"
pub seen_youngest : (refs : List Ref) (p q a v w n : ℕ) (b : Side) → q < p → p ≤ length refs
    → at refs q ≡ ref n (accessed a b (holds v))
    → ((k m u : ℕ) (l : Side) → q < k → k < p → at refs k ≡ ref m (accessed a l (holds u)) → ⊥) → seen (take p refs) a w ≡ v
seen_youngest refs zero q a v w n b l h e none = absurd (not-suc-le-zero l)
seen_youngest refs (suc p) q a v w n b l h e none =
    seen_next refs p a w h
    ∙ ⊎_elim
    (λ (i : q ≡ p).
    ap (λ (x : Ref). word_after (fate_of x) a (seen (take p refs) a w)) (ap (at refs) (sym i) ∙ e)
    ∙ ap (λ (t : Bool). cond t v (seen (take p refs) a w)) (eq-eqb a a refl))
    (λ (i : q < p).
    after_no_store (at refs p) a (seen (take p refs) a w) (λ m u l. none p m u l i (le_refl (suc p)))
    ∙ seen_youngest refs p q a v w n b i (omega arith) e (λ k m u l j o. none k m u l j (le_step o)))
    (eq-or-lt_of_le (le_of_suc-le-suc l))

-- an executed store to the address
record Store (x : Ref) (a : ℕ) : Type 0 where
  number : ℕ
  load : Side
  word : ℕ
  stores : x ≡ ref number (accessed a load (holds word))

is_store : (x : Ref) (a : ℕ) → stores_to a (fate_of x) ≡ true → Store x a
is_store (ref n waiting) a e = absurd (true≢false (sym e))
is_store (ref n other) a e = absurd (true≢false (sym e))
is_store (ref n (accessed b l s)) a e = go (eqb b a) refl s e
  where
    go : (t : Bool) → eqb b a ≡ t → (s : Side) → (t && holds_word s) ≡ true → Store (ref n (accessed b l s)) a
    go true i lacks e = absurd (true≢false (sym e))
    go true i (holds v) e =
        record { number = n; load = l; word = v; stores = ap (λ (c : ℕ). ref n (accessed c l (holds v))) (eqb-true b a i) }
    go false i s e = absurd (true≢false (sym e))

-- such a reference has the test
store_is : (x : Ref) (a m u : ℕ) (l : Side) → x ≡ ref m (accessed a l (holds u)) → stores_to a (fate_of x) ≡ true
store_is x a m u l e = ap (λ (y : Ref). stores_to a (fate_of y)) e ∙ ap (λ (t : Bool). t && true) (eq-eqb a a refl)

-- "0 for memory": then no older live reference is an executed store to this address
pub distance_memory : (refs : List Ref) (p a : ℕ) → distance refs p a ≡ 0 → (k m u : ℕ) (l : Side) → k < p
    → at refs k ≡ ref m (accessed a l (holds u)) → ⊥
unfolding distance
distance_memory refs zero a e k m u l h s = not-suc-le-zero h
distance_memory refs (suc p) a e k m u l h s =
    go (stores_to a (fate_of (at refs p))) refl (distance refs p a) refl e
    (λ (i : distance refs p a ≡ 0) (less : k < p). distance_memory refs p a i k m u l less s)
  where
    go : (t : Bool) → stores_to a (fate_of (at refs p)) ≡ t → (d : ℕ) → distance refs p a ≡ d → cond t 1 (further d) ≡ 0
        → (distance refs p a ≡ 0 → k < p → ⊥) → ⊥
    go true i d j z before = omega arith
    go false i zero j z before =
        ⊎_elim (λ (same : k ≡ p). true≢false (sym (store_is (at refs p) a m u l (ap (at refs) (sym same) ∙ s)) ∙ i))
        (before j)
        (eq-or-lt_of_le (le_of_suc-le-suc h))
    go false i (suc d) j z before = omega (arith, sym (ap (λ (b : Bool). cond b 0 (suc (suc d))) (eqb-suc-zero d)) ∙ z)

-- "how many positions older that store is": the reference d positions older than p is an executed store to this address, none
-- between is, and its word is the one that a load at p takes
pub record CameFrom (refs : List Ref) (p d a w : ℕ) : Type 0 where
  pub number : ℕ
  pub load : Side
  pub word : ℕ
  pub older : d ≤ p
  pub stores : at refs (p - d) ≡ ref number (accessed a load (holds word))
  pub youngest : (k m u : ℕ) (l : Side) → p - d < k → k < p → at refs k ≡ ref m (accessed a l (holds u)) → ⊥
  pub taken : seen (take p refs) a w ≡ word

pub distance_store : (refs : List Ref) (p d a w : ℕ) → p ≤ length refs → distance refs p a ≡ suc d
    → CameFrom refs p (suc d) a w
unfolding distance seen
distance_store refs zero d a w h e = absurd (omega arith)
distance_store refs (suc p) d a w h e =
    go (stores_to a (fate_of (at refs p))) refl (distance refs p a) refl e
    (λ (c : ℕ) (i : distance refs p a ≡ suc c). distance_store refs p c a w (omega arith) i)
  where
    go : (t : Bool) → stores_to a (fate_of (at refs p)) ≡ t → (c : ℕ) → distance refs p a ≡ c → cond t 1 (further c) ≡ suc d
        → ((c : ℕ) → distance refs p a ≡ suc c → CameFrom refs p (suc c) a w) → CameFrom refs (suc p) (suc d) a w
    go true i c j z before =
        let there : suc p - suc d ≡ p = omega arith in
        let s = is_store (at refs p) a i in
        record {
          number = s.number;
          load = s.load;
          word = s.word;
          older = omega arith;
          stores = ap (at refs) there ∙ s.stores;
          youngest = λ k m u l after before x. omega arith;
          taken = seen_youngest refs (suc p) p a s.word w s.number s.load (le_refl (suc p)) h s.stores
              (λ k m u l after before x. omega arith);
        }
    go false i zero j z before = absurd (omega arith)
    go false i (suc c) j z before =
        let one : suc (suc c) ≡ suc d = sym (ap (λ (b : Bool). cond b 0 (suc (suc c))) (eqb-suc-zero c)) ∙ z in
        let there : suc p - suc d ≡ p - suc c = omega arith in
        let s = before c j in
        record {
          number = s.number;
          load = s.load;
          word = s.word;
          older = omega (arith, s.older);
          stores = ap (at refs) there ∙ s.stores;
          youngest = λ k m u l after until x.
              ⊎_elim (λ (same : k ≡ p). true≢false (sym (store_is (at refs p) a m u l (ap (at refs) (sym same) ∙ x)) ∙ i))
              (λ (less : k < p). s.youngest k m u l (omega arith) less x)
              (eq-or-lt_of_le (le_of_suc-le-suc until));
          taken = seen_next refs p a w h ∙ after_none (fate_of (at refs p)) a (seen (take p refs) a w) i ∙ s.taken;
        }

-- the reference at position q is younger than the one at position p, and none between them has executed to this address
pub record Nearest (refs : List Ref) (p a q : ℕ) : Type 0 where
  pub younger : p < q
  pub live : q < length refs
  pub between : (k : ℕ) → p < k → k < q → reaches a (fate_of (at refs k)) ≡ false

-- it has a load side, which took another word than v
pub record Violated (P : State) (p a v q : ℕ) : Type 0 where
  pub nearest : Nearest P.refs p a q
  pub number : ℕ
  pub word : ℕ
  pub store : Side
  pub loads : at P.refs q ≡ ref number (accessed a (holds word) store)
  pub differs : word ≡ v → ⊥

module _ (P : State) (p a v : ℕ) where
  -- it is the one met
  met_at : (q n : ℕ) (f : Fate) → Nearest P.refs p a q → at P.refs q ≡ ref n f
      → kept_after_store P p a v
      ≡ q + kept_from f a v (length (drop (suc q) P.refs)) (kept_younger a v (drop (suc q) P.refs))
  met_at q n f near e =
      spared_skip P.refs (suc p) q a v near.younger (omega (arith, near.live)) near.between
      ∙ ap (λ (j : ℕ). q + j)
      (spared_next P.refs q a v near.live
      ∙ ap (λ (x : Ref). kept_from (fate_of x) a v (length (drop (suc q) P.refs)) (kept_younger a v (drop (suc q) P.refs))) e)

  -- an access of the address is met by its sides
  met_sides : (q n : ℕ) (l s : Side) → Nearest P.refs p a q → at P.refs q ≡ ref n (accessed a l s)
      → kept_after_store P p a v
      ≡ q + kept_met l s v (length (drop (suc q) P.refs)) (kept_younger a v (drop (suc q) P.refs))
  met_sides q n l s near e =
      met_at q n (accessed a l s) near e
      ∙ ap
      (λ (t : Bool). q
      + cond t (kept_met l s v (length (drop (suc q) P.refs)) (kept_younger a v (drop (suc q) P.refs)))
      (suc (kept_younger a v (drop (suc q) P.refs))))
      (eq-eqb a a refl)

  -- the address has a row then
  has_row : (q n : ℕ) (l s : Side) → Nearest P.refs p a q → at P.refs q ≡ ref n (accessed a l s)
      → touched a P.refs ≡ true
  has_row q n l s near e =
      touched_at a P.refs q near.live (ap (λ (x : Ref). touches a (fate_of x)) e ∙ eq-eqb a a refl)

  -- "squashes the first load met only if the word that load took differs from the one stored": where it differs, that load and
  -- everything younger is squashed. Its load side is met before its store side, if it has one, and the older store is one of a
  -- word or of a part.
  pub squashes_load : (q : ℕ) → Violated P p a v q → (l : Side) → survivors P p (accessed a l (holds v)) ≡ q
  squashes_load q x l =
      let near = x.nearest in
      rw (has_row q x.number (holds x.word) x.store near x.loads)
      (met_sides q x.number (holds x.word) x.store near x.loads
      ∙ ap (λ (t : Bool). q + cond t (suc (length (drop (suc q) P.refs))) 0) (ne_eqb x.word v x.differs)
      ∙ omega arith)

  -- where it is the word stored, nothing is squashed
  pub keeps_load : (q n : ℕ) (s : Side) → Nearest P.refs p a q → at P.refs q ≡ ref n (accessed a (holds v) s)
      → (l : Side) → survivors P p (accessed a l (holds v)) ≡ length P.refs
  keeps_load q n s near e l =
      rw (has_row q n (holds v) s near e)
      (met_sides q n (holds v) s near e
      ∙ ap (λ (t : Bool). q + cond t (suc (length (drop (suc q) P.refs))) 0) (eq-eqb v v refl)
      ∙ omega (arith, length-drop (suc q) P.refs, near.live))

  -- "If it is a store, or there is none, nothing is": it is a store
  pub keeps_store : (q n u : ℕ) → Nearest P.refs p a q → at P.refs q ≡ ref n (accessed a lacks (holds u))
      → (l : Side) → survivors P p (accessed a l (holds v)) ≡ length P.refs
  keeps_store q n u near e l =
      rw (has_row q n lacks (holds u) near e)
      (met_sides q n lacks (holds u) near e ∙ omega (arith, length-drop (suc q) P.refs, near.live))

  -- there is none, and the address has a row of older references
  pub keeps_none : p < length P.refs → touched a P.refs ≡ true
      → ((k : ℕ) → p < k → k < length P.refs → reaches a (fate_of (at P.refs k)) ≡ false)
      → (l : Side) → survivors P p (accessed a l (holds v)) ≡ length P.refs
  keeps_none h row none l = rw row (spared_all P.refs (suc p) a v h none)

  -- The walk from position q on squashes only there: k references are left, and those passed have not executed to the address.
  squashed_at : (k q : ℕ) → p < q → q + k ≡ length P.refs
      → ((j : ℕ) → p < j → j < q → reaches a (fate_of (at P.refs j)) ≡ false)
      → q + kept_younger a v (drop q P.refs) < length P.refs
      → Violated P p a v (q + kept_younger a v (drop q P.refs))
  squashed_at zero q h l none less = absurd (omega arith)
  squashed_at (suc k) q h l none less =
      let live : q < length P.refs = omega arith in
      subst (λ (n : ℕ). Violated P p a v (q + n)) (sym (spared_next P.refs q a v live))
      (go (squashed_at k (suc q) (omega arith) (omega arith)) (at P.refs q) refl
      (subst (λ (n : ℕ). q + n < length P.refs) (spared_next P.refs q a v live) less))
    where
      all : ℕ
      all = length (drop (suc q) P.refs)

      rest : ℕ
      rest = kept_younger a v (drop (suc q) P.refs)

      -- what the walk past q gives
      Further : Type 0
      Further =
          ((j : ℕ) → p < j → j < suc q → reaches a (fate_of (at P.refs j)) ≡ false)
          → suc q + rest < length P.refs → Violated P p a v (suc q + rest)

      -- the reference at q is passed
      on : Further → (x : Ref) → at P.refs q ≡ x → reaches a (fate_of x) ≡ false → q + suc rest < length P.refs
          → Violated P p a v (q + suc rest)
      on further x e past less =
          let same : suc q + rest ≡ q + suc rest = omega arith in
          subst (Violated P p a v) same
          (further
          (λ j i m.
          ⊎_elim
          (λ (here : j ≡ q).
          ap (λ (c : ℕ). reaches a (fate_of (at P.refs c))) here ∙ ap (λ (y : Ref). reaches a (fate_of y)) e ∙ past)
          (λ (before : j < q). none j i before)
          (eq-or-lt_of_le (le_of_suc-le-suc m)))
          (subst (λ (n : ℕ). n < length P.refs) (sym same) less))

      go : Further → (x : Ref) → at P.refs q ≡ x → q + kept_from (fate_of x) a v all rest < length P.refs
          → Violated P p a v (q + kept_from (fate_of x) a v all rest)
      go further (ref n waiting) e less = on further (ref n waiting) e refl less
      go further (ref n other) e less = on further (ref n other) e refl less
      go further (ref n (accessed b l s)) e less = by (eqb b a) refl l s e less
        where
          by : (t : Bool) → eqb b a ≡ t → (l s : Side) → at P.refs q ≡ ref n (accessed b l s)
              → q + cond t (kept_met l s v all rest) (suc rest) < length P.refs
              → Violated P p a v (q + cond t (kept_met l s v all rest) (suc rest))
          by false i l s e less =
              on further (ref n (accessed b l s)) e (ap (λ (t : Bool). t && (holds_word l || holds_word s)) i) less
          by true i lacks lacks e less = on further (ref n (accessed b lacks lacks)) e (ap (λ (t : Bool). t && false) i) less
          by true i lacks (holds u) e less = absurd (omega (arith, length-drop (suc q) P.refs))
          by true i (holds w) s e less = word (eqb w v) refl less
            where
              word : (t : Bool) → eqb w v ≡ t → q + cond t (suc all) 0 < length P.refs
                  → Violated P p a v (q + cond t (suc all) 0)
              word true j less = absurd (omega (arith, length-drop (suc q) P.refs))
              word false j less =
                  let here : q ≡ q + 0 = omega arith in
                  subst (Violated P p a v) here
                  (record {
                    nearest = record { younger = h; live = omega arith; between = none };
                    number = n;
                    word = w;
                    store = s;
                    loads = e ∙ ap (λ (c : ℕ). ref n (accessed c (holds w) s)) (eqb-true b a i);
                    differs = eqb-false w v j;
                  })

  -- "only if": where a store to an address with a row squashes at all, it squashes from such a load on
  pub squashed_only : p < length P.refs → touched a P.refs ≡ true → (l : Side)
      → survivors P p (accessed a l (holds v)) < length P.refs
      → Violated P p a v (survivors P p (accessed a l (holds v)))
  squashed_only h row l =
      rw row (squashed_at (length P.refs - suc p) (suc p) (omega arith) (omega arith) (λ j i m. absurd (omega arith)))
