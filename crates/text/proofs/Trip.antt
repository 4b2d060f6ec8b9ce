-- What is written is read back as it was, and nothing else reads as it.
-- There: the bytes of a decimal, read with no digit before them, leave its number open, digit after digit; a comma closes
-- it. Back: by an invariant of the bytes read so far. They are the closed fields, each with its comma, and then the
-- decimal of the open one; a digit d after an open number x that is not 0 makes x * 10 + d, whose decimal is x's with d.
-- Assumes nothing.
use mathlib.Core.Bool.{Bool, true, false, cond, ◌&&◌}
use mathlib.Core.Path.{◌≡◌, refl, sym, ap, subst, ◌∙◌}
use mathlib.Core.List.{List, [], ◌∷◌, ◌++◌, append-nil, append_assoc}
use mathlib.Core.Option.{some}
use Prim.Native.Nat.{ℕ, zero, suc, ◌+◌, ◌-◌, ◌*◌, ◌/◌, ◌%◌, ◌<◌, ◌≤◌, zero-le}
use native.Mathlib.Nat.{div-add-mod'}
use native.Mathlib.Omega.{arith}
use lib.Dec.{eqb, leb, ltb}
use lib.ListN.{get_or}
use lib.Seq.{append_snoc}
use borrow.Author.Tests.{eqb-true, leb-true, ltb-true, ltb-false, lt-ltb, le-leb, ne_eqb}
use Rattle.text.specs.Decimal.{decimal}
use Rattle.text.specs.Fields.{Open, empty, value, Reading, bad, reading, digit, comma, byte, bytes}
use Rattle.text.specs.Fields.{closed, fields, fields_text}
use Rattle.text.proofs.Digits.{decimal_small, decimal_more}

-- every number is at most the limit
abbrev pub Within : ℕ → List ℕ → Type 0
Within limit ns = (i : ℕ) → get_or ns i 0 ≤ limit

pub bytes_append : (limit : ℕ) (r : Reading) (xs ys : List ℕ)
    → bytes limit r (xs ++ ys) ≡ bytes limit (bytes limit r xs) ys
unfolding bytes
bytes_append limit r [] ys = refl
bytes_append limit r (x ∷ xs) ys = bytes_append limit (byte limit r x) xs ys

-- the byte of a digit
pub digit_byte : (limit d : ℕ) (o : Open) (ns : List ℕ) → d < 10
    → byte limit (reading ns o) (48 + d) ≡ digit limit d o ns
digit_byte limit d o ns h =
    rw (ne_eqb (48 + d) 44 (omega arith), le-leb 48 (48 + d) (omega arith), le-leb (48 + d) 57 (omega arith))
    (ap (λ (k : ℕ). digit limit k o ns) (omega arith))

pub digit_first : (limit d : ℕ) (ns : List ℕ) → d ≤ limit → digit limit d empty ns ≡ reading ns (value d)
digit_first limit d ns h = rw (le-leb d limit h)

digit_next : (limit x d : ℕ) (ns : List ℕ) → 0 < x → x * 10 + d ≤ limit
    → digit limit d (value x) ns ≡ reading ns (value (x * 10 + d))
digit_next limit x d ns h k = rw (lt-ltb 0 x h, le-leb (x * 10 + d) limit k)

-- the decimal of x, if that of its tenth part is read
read_step : (limit x : ℕ) (ns : List ℕ) → x ≤ limit
    → (10 ≤ x → bytes limit (reading ns empty) (decimal (x / 10)) ≡ reading ns (value (x / 10)))
    → bytes limit (reading ns empty) (decimal x) ≡ reading ns (value x)
unfolding bytes
read_step limit x ns h f = go (ltb x 10) refl
  where
    go : (t : Bool) → ltb x 10 ≡ t → bytes limit (reading ns empty) (decimal x) ≡ reading ns (value x)
    go true e =
        ap (bytes limit (reading ns empty)) (decimal_small x (ltb-true x 10 e))
        ∙ digit_byte limit x empty ns (ltb-true x 10 e)
        ∙ digit_first limit x ns h
    go false e =
        let t : 10 ≤ x = ltb-false x 10 e in
        ap (bytes limit (reading ns empty)) (decimal_more x t)
        ∙ bytes_append limit (reading ns empty) (decimal (x / 10)) ((48 + x % 10) ∷ [])
        ∙ ap (λ (r : Reading). byte limit r (48 + x % 10)) (f t)
        ∙ digit_byte limit (x % 10) (value (x / 10)) ns (omega arith)
        ∙ digit_next limit (x / 10) (x % 10) ns (omega arith) (omega arith)
        ∙ ap (λ (k : ℕ). reading ns (value k)) (div-add-mod' x 10)

read_below : (k limit x : ℕ) (ns : List ℕ) → x < k → x ≤ limit
    → bytes limit (reading ns empty) (decimal x) ≡ reading ns (value x)
read_below zero limit x ns b h = absurd (omega arith)
read_below (suc k) limit x ns b h =
    read_step limit x ns h (λ t. read_below k limit (x / 10) ns (omega arith) (omega arith))

-- a decimal is read as its number
pub decimal_read : (limit x : ℕ) (ns : List ℕ) → x ≤ limit
    → bytes limit (reading ns empty) (decimal x) ≡ reading ns (value x)
decimal_read limit x ns h = read_below (suc x) limit x ns (omega arith) h

fields_after : (limit : ℕ) (n : ℕ) (ns done : List ℕ) → Within limit (n ∷ ns)
    → closed (bytes limit (reading done empty) (fields_text (n ∷ ns))) ≡ some (done ++ (n ∷ ns))
unfolding fields_text bytes
fields_after limit n [] done h = ap closed (decimal_read limit n done (h 0))
fields_after limit n (m ∷ ns) done h =
    ap closed
    (bytes_append limit (reading done empty) (decimal n) (44 ∷ fields_text (m ∷ ns))
    ∙ ap (λ (r : Reading). bytes limit r (44 ∷ fields_text (m ∷ ns))) (decimal_read limit n done (h 0)))
    ∙ fields_after limit m ns (done ++ (n ∷ [])) (λ i. h (suc i))
    ∙ ap some (append_snoc done n (m ∷ ns))

-- what is written is read back
pub fields_written : (limit : ℕ) (n : ℕ) (ns : List ℕ) → Within limit (n ∷ ns)
    → fields limit (fields_text (n ∷ ns)) ≡ some (n ∷ ns)
fields_written limit n ns h = fields_after limit n ns [] h

-- fields as they are written, each with its comma
ended : List ℕ → List ℕ
ended [] = []
ended (n ∷ ns) = decimal n ++ (44 ∷ ended ns)

ended_snoc : (ns : List ℕ) (x : ℕ) → ended (ns ++ (x ∷ [])) ≡ (ended ns ++ decimal x) ++ (44 ∷ [])
unfolding ended
ended_snoc [] x = refl
ended_snoc (n ∷ ns) x = rw (ended_snoc ns x) (simp append_assoc)

written_cons : (n : ℕ) (ns : List ℕ) (x : ℕ)
    → fields_text (n ∷ (ns ++ (x ∷ []))) ≡ decimal n ++ (44 ∷ fields_text (ns ++ (x ∷ [])))
unfolding fields_text
written_cons n [] x = refl
written_cons n (m ∷ ns) x = refl

written_snoc : (ns : List ℕ) (x : ℕ) → fields_text (ns ++ (x ∷ [])) ≡ ended ns ++ decimal x
unfolding ended fields_text
written_snoc [] x = refl
written_snoc (n ∷ ns) x =
    written_cons n ns x
    ∙ ap (λ (l : List ℕ). decimal n ++ (44 ∷ l)) (written_snoc ns x)
    ∙ sym (append_assoc (decimal n) (44 ∷ ended ns) (decimal x))

within_snoc : (limit : ℕ) (ns : List ℕ) (x : ℕ) → Within limit ns → x ≤ limit
    → (i : ℕ) → get_or (ns ++ (x ∷ [])) i 0 ≤ limit
within_snoc limit [] x h k zero = k
within_snoc limit [] x h k (suc i) = zero-le
within_snoc limit (n ∷ ns) x h k zero = h 0
within_snoc limit (n ∷ ns) x h k (suc i) = within_snoc limit ns x (λ j. h (suc j)) k i

-- what has been read is what is written so far
abbrev Read : ℕ → List ℕ → Reading → Type 0
Read limit bs bad = Unit
Read limit bs (reading ns empty) = (bs ≡ ended ns) × Within limit ns
Read limit bs (reading ns (value x)) = (bs ≡ ended ns ++ decimal x) × Within limit ns × (x ≤ limit)

-- a digit after a number that is not 0
decimal_next : (x d : ℕ) → 0 < x → d < 10 → decimal (x * 10 + d) ≡ decimal x ++ ((48 + d) ∷ [])
decimal_next x d h k =
    let q : (x * 10 + d) / 10 ≡ x = omega arith in
    let r : (x * 10 + d) % 10 ≡ d = omega arith in
    decimal_more (x * 10 + d) (omega arith)
    ∙ ap (λ (n : ℕ). decimal n ++ ((48 + (x * 10 + d) % 10) ∷ [])) q
    ∙ ap (λ (n : ℕ). decimal x ++ ((48 + n) ∷ [])) r

comma_read : (limit : ℕ) (bs : List ℕ) (o : Open) (ns : List ℕ) → Read limit bs (reading ns o)
    → Read limit (bs ++ (44 ∷ [])) (comma o ns)
comma_read limit bs empty ns h = tt
comma_read limit bs (value x) ns h =
    (ap (λ (l : List ℕ). l ++ (44 ∷ [])) h.0 ∙ sym (ended_snoc ns x), within_snoc limit ns x h.1 h.2)

digit_read : (limit : ℕ) (bs : List ℕ) (d : ℕ) (o : Open) (ns : List ℕ) → d < 10 → Read limit bs (reading ns o)
    → Read limit (bs ++ ((48 + d) ∷ [])) (digit limit d o ns)
digit_read limit bs d empty ns k h = go (leb d limit) refl
  where
    go : (t : Bool) → leb d limit ≡ t
        → Read limit (bs ++ ((48 + d) ∷ [])) (cond t (reading ns (value d)) bad)
    go true e = (
      ap (λ (l : List ℕ). l ++ ((48 + d) ∷ [])) h.0 ∙ ap (λ (l : List ℕ). ended ns ++ l) (sym (decimal_small d k)),
      h.1,
      leb-true d limit e,
    )
    go false e = tt
digit_read limit bs d (value x) ns k h = go (ltb 0 x) (leb (x * 10 + d) limit) refl refl
  where
    go : (s t : Bool) → ltb 0 x ≡ s → leb (x * 10 + d) limit ≡ t
        → Read limit (bs ++ ((48 + d) ∷ [])) (cond (s && t) (reading ns (value (x * 10 + d))) bad)
    go true true p e = (
      ap (λ (l : List ℕ). l ++ ((48 + d) ∷ [])) h.0
          ∙ append_assoc (ended ns) (decimal x) ((48 + d) ∷ [])
          ∙ ap (λ (l : List ℕ). ended ns ++ l) (sym (decimal_next x d (ltb-true 0 x p) k)),
      h.1,
      leb-true (x * 10 + d) limit e,
    )
    go true false p e = tt
    go false true p e = tt
    go false false p e = tt

byte_read : (limit : ℕ) (bs : List ℕ) (r : Reading) (b : ℕ) → Read limit bs r
    → Read limit (bs ++ (b ∷ [])) (byte limit r b)
byte_read limit bs bad b h = tt
byte_read limit bs (reading ns o) b h = go (eqb b 44) (leb 48 b) (leb b 57) refl refl refl
  where
    go : (s t u : Bool) → eqb b 44 ≡ s → leb 48 b ≡ t → leb b 57 ≡ u
        → Read limit (bs ++ (b ∷ [])) (cond s (comma o ns) (cond (t && u) (digit limit (b - 48) o ns) bad))
    go true t u p q e =
        subst (λ (k : ℕ). Read limit (bs ++ (k ∷ [])) (comma o ns)) (sym (eqb-true b 44 p)) (comma_read limit bs o ns h)
    go false true true p q e =
        let l : 48 ≤ b = leb-true 48 b q in
        let g : b ≤ 57 = leb-true b 57 e in
        subst (λ (k : ℕ). Read limit (bs ++ (k ∷ [])) (digit limit (b - 48) o ns)) (omega arith)
        (digit_read limit bs (b - 48) o ns (omega arith) h)
    go false true false p q e = tt
    go false false true p q e = tt
    go false false false p q e = tt

bytes_read : (limit : ℕ) (bs : List ℕ) (r : Reading) (xs : List ℕ) → Read limit bs r
    → Read limit (bs ++ xs) (bytes limit r xs)
unfolding bytes
bytes_read limit bs r [] h = subst (λ (l : List ℕ). Read limit l r) (sym (append-nil bs)) h
bytes_read limit bs r (x ∷ xs) h =
    subst (λ (l : List ℕ). Read limit l (bytes limit (byte limit r x) xs)) (append_snoc bs x xs)
    (bytes_read limit (bs ++ (x ∷ [])) (byte limit r x) xs (byte_read limit bs r x h))

closed_read : (limit : ℕ) (bs ns : List ℕ) (r : Reading) → Read limit bs r → closed r ≡ some ns
    → (bs ≡ fields_text ns) × Within limit ns
closed_read limit bs ns bad h e = absurd (let z : ◌≡◌ {A = ℕ} 0 1 = cc in omega arith)
closed_read limit bs ns (reading ms empty) h e = absurd (let z : ◌≡◌ {A = ℕ} 0 1 = cc in omega arith)
closed_read limit bs ns (reading ms (value x)) h e =
    subst (λ (l : List ℕ). (bs ≡ fields_text l) × Within limit l) (cc)
    (h.0 ∙ sym (written_snoc ms x), within_snoc limit ms x h.1 h.2)

-- nothing else reads as it
pub written_fields : (limit : ℕ) (bs ns : List ℕ) → fields limit bs ≡ some ns → (bs ≡ fields_text ns) × Within limit ns
unfolding ended
written_fields limit bs ns e =
    closed_read limit bs ns (bytes limit (reading [] empty) bs)
    (bytes_read limit [] (reading [] empty) bs (refl, λ i. zero-le)) e
