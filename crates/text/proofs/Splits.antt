-- The line at an index is the first of the text's lines from there on, and the others are those after its line feed.
-- So a reader, which stands behind each line that it handed out, hands out the text's lines and its rest. The line feed is
-- where a search for it from the index on finds it.
-- Assumes nothing.
use mathlib.Core.Bool.{Bool, true, false, cond}
use mathlib.Core.Path.{◌≡◌, refl, sym, ap, ap₂, subst, ◌∙◌}
use mathlib.Core.List.{List, [], ◌∷◌, ◌++◌, append_assoc, append-nil}
use Prim.Native.Nat.{ℕ, zero, suc, ◌+◌, ◌-◌, ◌<◌, ◌≤◌}
use native.Mathlib.Nat.{zero-add, suc-add}
use native.Mathlib.Numerals.{add-one}
use native.Mathlib.Omega.{arith}
use lib.Dec.{eqb, ltb}
use Rattle.std.specs.Prelude.{Some, None, position}
use Rattle.std.proofs.lemmas.List.{take_rest}
use Rattle.std.proofs.lemmas.List.Recursion.{is_position_or_len}
use lib.ListN.{length, take, drop, length-drop, drop_of_length-le}
use lib.Seq.{drop-drop, take-nil, slice}
use borrow.Author.Tests.{ltb-true, ltb-false, lt-ltb, le-ltb}
use Rattle.text.specs.Lines.{feed_in, feed, line_at, Lines, ended, lines_from, lines_of, handed}
use Rattle.text.specs.declared.Line.{Line}
use Rattle.text.specs.declared.Line.TheVariants.{End, Unended, Whole}

feed_none : feed_in [] ≡ 0
unfolding feed_in
feed_none = refl

-- where a search finds a line feed, and where it finds none
feed_sought : (s : List ℕ) → position (λ b. eqb b 10) s ≡ cond (ltb (feed_in s) (length s)) (Some (feed_in s)) None
unfolding feed_in
feed_sought s =
    ap (λ (n : ℕ). cond (ltb n (length s)) (Some n) None)
    (sym (is_position_or_len feed_in (λ b. eqb b 10) refl (λ b bs. ap (cond (eqb b 10) 0) (omega arith)) s))

feed_found : (s : List ℕ) (n : ℕ) → Some n ≡ position (λ b. eqb b 10) s → (n ≡ feed_in s) × (feed_in s < length s)
feed_found s n e = go (ltb (feed_in s) (length s)) refl (e ∙ feed_sought s)
  where
    go : (t : Bool) → ltb (feed_in s) (length s) ≡ t → Some n ≡ cond t (Some (feed_in s)) None
        → (n ≡ feed_in s) × (feed_in s < length s)
    go true h f = (cc, ltb-true (feed_in s) (length s) h)
    go false h f = cc

feed_missed : (s : List ℕ) → None ≡ position (λ b. eqb b 10) s → length s ≤ feed_in s
feed_missed s e = go (ltb (feed_in s) (length s)) refl (e ∙ feed_sought s)
  where
    go : (t : Bool) → ltb (feed_in s) (length s) ≡ t → None ≡ cond t (Some (feed_in s)) None → length s ≤ feed_in s
    go true h f = absurd (cc)
    go false h f = ltb-false (feed_in s) (length s) h

-- the line at an index, by a search in the bytes from there on
pub line_found : (s : List ℕ) (at n : ℕ) → at < length s
    → Some n ≡ position (λ b. eqb b 10) (take (length s - at) (drop at s)) → Whole at (at + n) ≡ line_at s at
line_found s at n h e =
    let f = feed_found (drop at s) n (rw (take_rest s at) at e) in
    let inside : feed s at < length s = omega (arith, f.1, length-drop at s) in
    rw (lt-ltb at (length s) h, lt-ltb (feed s at) (length s) inside, f.0)

pub line_missed : (s : List ℕ) (at : ℕ) → at < length s
    → None ≡ position (λ b. eqb b 10) (take (length s - at) (drop at s)) → Unended at ≡ line_at s at
line_missed s at h e =
    let f : length (drop at s) ≤ feed_in (drop at s) = feed_missed (drop at s) (rw (take_rest s at) at e) in
    rw (lt-ltb at (length s) h, le-ltb (feed s at) (length s) (omega (arith, length-drop at s)))

-- the lines of bytes with a line feed, and of bytes without
from_feed : (line s : List ℕ) → feed_in s < length s
    → lines_from line s ≡ ended (line ++ take (feed_in s) s) (lines_of (drop (suc (feed_in s)) s))
unfolding lines_from feed_in
from_feed line [] h = absurd (omega arith)
from_feed line (b ∷ bs) h = go (eqb b 10) refl (λ k. from_feed (line ++ (b ∷ [])) bs k)
  where
    go : (t : Bool) → eqb b 10 ≡ t
        → (feed_in bs < length bs → lines_from (line ++ (b ∷ [])) bs
        ≡ ended (line ++ (b ∷ []) ++ take (feed_in bs) bs) (lines_of (drop (suc (feed_in bs)) bs)))
        → lines_from line (b ∷ bs)
        ≡ ended (line ++ take (feed_in (b ∷ bs)) (b ∷ bs)) (lines_of (drop (suc (feed_in (b ∷ bs))) (b ∷ bs)))
    go true e more = rw (e, append-nil)
    go false e more = rw e (more (let k = rw e at h in omega arith) ∙ simp append_assoc)

from_none : (line s : List ℕ) → length s ≤ feed_in s → lines_from line s ≡ record { whole = []; rest = line ++ s }
unfolding lines_from feed_in
from_none line [] h = rw append-nil
from_none line (b ∷ bs) h = go (eqb b 10) refl (λ k. from_none (line ++ (b ∷ [])) bs k)
  where
    go : (t : Bool) → eqb b 10 ≡ t
        → (length bs ≤ feed_in bs
        → lines_from (line ++ (b ∷ [])) bs ≡ record { whole = []; rest = line ++ (b ∷ []) ++ bs })
        → lines_from line (b ∷ bs) ≡ record { whole = []; rest = line ++ (b ∷ bs) }
    go true e more = absurd (let k = rw e at h in omega arith)
    go false e more = rw e (more (let k = rw e at h in omega arith) ∙ simp append_assoc)

slice_add : (at n : ℕ) (s : List ℕ) → slice at (at + n) s ≡ take n (drop at s)
slice_add zero n s = rw zero-add
slice_add (suc at) n [] = rw (suc-add at n) (sym (take-nil n))
slice_add (suc at) n (b ∷ bs) = rw (suc-add at n) (slice_add at n bs)

-- the line at an index, by where its line feed stands
pub line_end : (s : List ℕ) (at : ℕ) → length s ≤ at → lines_of (drop at s) ≡ record { whole = []; rest = [] }
line_end s at h = rw (drop_of_length-le s h) (from_none [] [] (omega (arith, feed_none)))

pub line_unended : (s : List ℕ) (at : ℕ) → length s ≤ feed s at
    → lines_of (drop at s) ≡ record { whole = []; rest = drop at s }
line_unended s at h = from_none [] (drop at s) (omega (arith, length-drop at s))

pub line_whole : (s : List ℕ) (at : ℕ) → feed s at < length s
    → lines_of (drop at s) ≡ ended (slice at (feed s at) s) (lines_of (drop (suc (feed s at)) s))
line_whole s at h =
    from_feed [] (drop at s) (omega (arith, length-drop at s))
    ∙ ap₂ (λ (l r : List ℕ). ended l (lines_of r)) (sym (slice_add at (feed_in (drop at s)) s))
    (drop-drop (suc (feed_in (drop at s))) at s
    ∙ ap (λ (n : ℕ). drop n s) (let e : at + suc (feed_in (drop at s)) ≡ suc (feed s at) = omega arith in e))

-- what an answer says: where the line begins, and where a line feed stands
abbrev pub LineIs : List ℕ → ℕ → Line → Type 0
LineIs s at End = length s ≤ at
LineIs s at (Unended from) = (from ≡ at) × (at < length s) × (length s ≤ feed s at)
LineIs s at (Whole from to) = (from ≡ at) × (to ≡ feed s at) × (to < length s)

pub line_is : (s : List ℕ) (at : ℕ) (l : Line) → line_at s at ≡ l → LineIs s at l
line_is s at l e =
    subst (λ (k : Line). LineIs s at k) e (go (ltb at (length s)) refl (ltb (feed s at) (length s)) refl)
  where
    go : (t : Bool) → ltb at (length s) ≡ t → (u : Bool) → ltb (feed s at) (length s) ≡ u → LineIs s at (line_at s at)
    go false p u q = rw p (ltb-false at (length s) p)
    go true p false q = rw (p, q) (refl, ltb-true at (length s) p, ltb-false (feed s at) (length s) q)
    go true p true q = rw (p, q) (refl, refl, ltb-true (feed s at) (length s) q)

handed_from : (n : ℕ) (s : List ℕ) (at : ℕ) → length s ≤ at + n → handed n s at ≡ lines_of (drop at s)
unfolding handed
handed_from zero s at h = sym (line_end s at (omega arith))
handed_from (suc n) s at h =
    go (ltb at (length s)) refl (ltb (feed s at) (length s)) refl
    (handed_from n s (feed s at + 1) (omega arith))
  where
    go : (t : Bool) → ltb at (length s) ≡ t → (u : Bool) → ltb (feed s at) (length s) ≡ u
        → handed n s (feed s at + 1) ≡ lines_of (drop (feed s at + 1) s)
        → handed (suc n) s at ≡ lines_of (drop at s)
    go false e u f more = rw e (sym (line_end s at (ltb-false at (length s) e)))
    go true e false f more = rw (e, f) (sym (line_unended s at (ltb-false (feed s at) (length s) f)))
    go true e true f more =
        rw (e, f)
        (ap (λ (r : Lines). ended (slice at (feed s at) s) r)
        (more ∙ ap (λ (i : ℕ). lines_of (drop i s)) (add-one (feed s at)))
        ∙ sym (line_whole s at (ltb-true (feed s at) (length s) f)))

-- a reader that stands at the start hands out the text's lines
pub handed_all : (s : List ℕ) → handed (length s) s 0 ≡ lines_of s
handed_all s = handed_from (length s) s 0 (omega arith)
