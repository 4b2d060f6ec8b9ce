-- A reading with too many fields may be taken for bad at once: it never has fewer, so what fits in the end is the same. So the
-- bytes of a line may be read one by one, with no more fields than there is room for.
-- Assumes nothing.
use mathlib.Core.Bool.{Bool, true, false, cond, ◌&&◌}
use mathlib.Core.Path.{◌≡◌, refl, sym, ap, ◌∙◌}
use mathlib.Core.List.{List, [], ◌∷◌, ◌++◌}
use mathlib.Core.Option.{Option, none, some}
use Prim.Native.Nat.{ℕ, ◌+◌, ◌-◌, ◌*◌, ◌<◌, ◌≤◌}
use native.Mathlib.Numerals.{add-one}
use native.Mathlib.Omega.{arith}
use lib.Dec.{eqb, leb, ltb}
use lib.ListN.{length, get_or, drop, length-append, drop_of_length-le}
use lib.Seq.{drop-cons}
use borrow.Author.Tests.{ltb-false, leb-true, lt-ltb, le-ltb, le-leb, lt-leb}
use Rattle.text.specs.Fields.{Open, empty, value, Reading, bad, reading, digit, comma, byte, bytes}
use Rattle.text.specs.Fields.{largest, closed, fields, fields_text}
use Rattle.text.specs.Computed.Reader.{capacity, few, fitting}
use Rattle.text.proofs.Trip.{Within, fields_written, written_fields}

few_in : (ns : List ℕ) (o : Open) → length ns < capacity → few (reading ns o) ≡ reading ns o
few_in ns o h = rw (lt-ltb (length ns) capacity h)

few_out : (ns : List ℕ) (o : Open) → capacity ≤ length ns → few (reading ns o) ≡ bad
few_out ns o h = rw (le-ltb (length ns) capacity h)

length_snoc : (ns : List ℕ) (x : ℕ) → length (ns ++ (x ∷ [])) ≡ length ns + 1
length_snoc ns x = length-append ns (x ∷ [])

bytes_bad : (limit : ℕ) (bs : List ℕ) → bytes limit bad bs ≡ bad
unfolding bytes
bytes_bad limit [] = refl
bytes_bad limit (b ∷ bs) = bytes_bad limit bs

-- too many fields
data Many : Reading → Type 0 where
  spoilt : Many bad
  full : {ns : List ℕ} {o : Open} → capacity ≤ length ns → Many (reading ns o)

many_if : (t : Bool) (ns : List ℕ) (o : Open) → capacity ≤ length ns → Many (cond t (reading ns o) bad)
many_if true ns o h = full h
many_if false ns o h = spoilt

many_digit : (limit d : ℕ) (o : Open) (ns : List ℕ) → capacity ≤ length ns → Many (digit limit d o ns)
many_digit limit d empty ns h = many_if (leb d limit) ns (value d) h
many_digit limit d (value x) ns h = many_if (ltb 0 x && leb (x * 10 + d) limit) ns (value (x * 10 + d)) h

many_comma : (o : Open) (ns : List ℕ) → capacity ≤ length ns → Many (comma o ns)
many_comma empty ns h = spoilt
many_comma (value x) ns h = full {ns = ns ++ (x ∷ [])} (omega (arith, length_snoc ns x))

many_byte : (limit : ℕ) (r : Reading) (b : ℕ) → Many r → Many (byte limit r b)
many_byte limit bad b spoilt = spoilt
many_byte limit (reading ns o) b (full h) = go (eqb b 44) (leb 48 b && leb b 57)
  where
    go : (s t : Bool) → Many (cond s (comma o ns) (cond t (digit limit (b - 48) o ns) bad))
    go true t = many_comma o ns h
    go false true = many_digit limit (b - 48) o ns h
    go false false = spoilt

many_end : (r : Reading) → Many r → fitting (closed r) ≡ none
many_end bad spoilt = refl
many_end (reading ns empty) (full h) = refl
many_end (reading ns (value x)) (full h) = rw (lt-leb (length (ns ++ (x ∷ []))) capacity (omega (arith, length_snoc ns x)))

many : (limit : ℕ) (r : Reading) (bs : List ℕ) → Many r → fitting (closed (bytes limit r bs)) ≡ none
unfolding bytes
many limit r [] m = many_end r m
many limit r (b ∷ bs) m = many limit (byte limit r b) bs (many_byte limit r b m)

pub few_same : (limit : ℕ) (r : Reading) (bs : List ℕ)
    → fitting (closed (bytes limit (few r) bs)) ≡ fitting (closed (bytes limit r bs))
few_same limit bad bs = refl
few_same limit (reading ns o) bs = go (ltb (length ns) capacity) refl
  where
    go : (t : Bool) → ltb (length ns) capacity ≡ t
        → fitting (closed (bytes limit (cond t (reading ns o) bad) bs))
        ≡ fitting (closed (bytes limit (reading ns o) bs))
    go true e = refl
    go false e =
        ap (λ (r : Reading). fitting (closed r)) (bytes_bad limit bs)
        ∙ sym (many limit (reading ns o) bs (full (ltb-false (length ns) capacity e)))

-- one byte read, the rest left
pub read_on : (r q : Reading) (s : List ℕ) (i : ℕ) → i < length s → q ≡ few (byte largest r (get_or s i 0))
    → fitting (closed (bytes largest q (drop (i + 1) s))) ≡ fitting (closed (bytes largest r (drop i s)))
unfolding bytes
read_on r q s i h e =
    ap (λ (p : Reading). fitting (closed (bytes largest p (drop (i + 1) s)))) e
    ∙ few_same largest (byte largest r (get_or s i 0)) (drop (i + 1) s)
    ∙ ap (λ (l : List ℕ). fitting (closed (bytes largest r l)))
    (ap (λ (j : ℕ). get_or s i 0 ∷ drop j s) (add-one i) ∙ sym (drop-cons s i 0 h))

-- what is read of a bad line
pub read_bad : (bs : List ℕ) → fitting (closed (bytes largest bad bs)) ≡ none
read_bad bs = ap (λ (r : Reading). fitting (closed r)) (bytes_bad largest bs)

-- nothing left
pub read_all : (r : Reading) (s : List ℕ) (i : ℕ) → length s ≤ i
    → fitting (closed (bytes largest r (drop i s))) ≡ fitting (fields largest s)
    → fitting (closed r) ≡ fitting (fields largest s)
unfolding bytes
read_all r s i h e =
    sym (ap (λ (l : List ℕ). fitting (closed (bytes largest r l))) (drop_of_length-le s h)) ∙ e

-- the end of a line: an open field with room or without, or none
pub last_field : (ns : List ℕ) (x : ℕ) → length ns < capacity
    → some (ns ++ (x ∷ [])) ≡ fitting (closed (few (reading ns (value x))))
last_field ns x h =
    rw (few_in ns (value x) h, le-leb (length (ns ++ (x ∷ []))) capacity (omega (arith, length_snoc ns x)))

pub overfull : (ns : List ℕ) (x : ℕ) → length ns ≡ capacity → none ≡ fitting (closed (few (reading ns (value x))))
overfull ns x h = rw (few_out ns (value x) (omega arith))

pub no_last : (ns : List ℕ) → none ≡ fitting (closed (few (reading ns empty)))
no_last ns = go (ltb (length ns) capacity)
  where
    go : (t : Bool) → none ≡ fitting (closed (cond t (reading ns empty) bad))
    go false = refl
    go true = refl

-- what fits is what was read, and is not too long
fitting_some : (o : Option (List ℕ)) (ns : List ℕ) → fitting o ≡ some ns → (o ≡ some ns) × (length ns ≤ capacity)
fitting_some none ns e = absurd (let z : ◌≡◌ {A = ℕ} 0 1 = cc in omega arith)
fitting_some (some ms) ns e = go (leb (length ms) capacity) refl e
  where
    go : (t : Bool) → leb (length ms) capacity ≡ t → cond t (some ms) none ≡ some ns
        → (some ms ≡ some ns) × (length ns ≤ capacity)
    go true p q =
        let same : ms ≡ ns = cc in
        (q, rw same at (leb-true (length ms) capacity p))
    go false p q = absurd (let z : ◌≡◌ {A = ℕ} 0 1 = cc in omega arith)

-- a line that is read is its fields as they are written
pub fitting_fields : (bs ns : List ℕ) → fitting (fields largest bs) ≡ some ns
    → (bs ≡ fields_text ns) × Within largest ns × (length ns ≤ capacity)
fitting_fields bs ns e =
    let f = fitting_some (fields largest bs) ns e in
    let w = written_fields largest bs ns f.0 in
    (w.0, w.1, f.1)

pub fitting_written : (n : ℕ) (ns : List ℕ) → Within largest (n ∷ ns) → length (n ∷ ns) ≤ capacity
    → fitting (fields largest (fields_text (n ∷ ns))) ≡ some (n ∷ ns)
fitting_written n ns w h = ap fitting (fields_written largest n ns w) ∙ rw (le-leb (length (n ∷ ns)) capacity h)
