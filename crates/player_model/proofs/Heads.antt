-- What the first line asks for. The script's first line is the line at 0: where it gives an opening within its limits, the rest of
-- the script begins behind its line feed (Headed), and where it does not, the script is unread. Both go by the line at 0 and
-- then by what it says. Here alone the numbers of a line of sizes are the opening. Assumes nothing.
use mathlib.Core.Bool.{Bool, true, false, cond, ◌&&◌, ◌||◌, and-eq-true_iff}
use mathlib.Core.List.{List, []}
use mathlib.Core.Path.{◌≡◌, refl, sym, ap, ◌∙◌}
use Prim.Native.Nat.{ℕ, suc, ◌≤◌, ◌<◌}
use native.Mathlib.Omega.{arith}
use lib.Dec.{eqb, leb}
use lib.ListN.{length}
use lib.Seq.{slice}
use borrow.Author.Tests.{leb-true, lt-ltb, le-ltb}
use Rattle.text.specs.declared.Line.{Line}
use Rattle.text.specs.declared.Line.TheVariants.{End, Unended, Whole}
use Rattle.text.specs.Lines.{feed, line_at, lines_of}
use Rattle.text.proofs.Splits.{LineIs, line_is, line_end, line_unended, line_whole}
use Rattle.table.specs.Limits.{banks_most, rows_most, stages_most, words_most, sizes_fit}
use Rattle.machine_model.specs.Calls.{Opening, banked, buffered}
use Rattle.script_model.specs.declared.Item.{Item}
use Rattle.script_model.specs.declared.Item.TheVariants.{Malformed, Sizes, Operation, Issue, Execute, Squash, Commit}
use Rattle.script_model.specs.declared.Item.TheVariants.{Finish}
use Rattle.std.specs.Prelude.{None}
use Rattle.script_model.specs.Language as language
use Rattle.script_model.specs.Language.{parsed_line, Body, Script, opening_of, words_asked, unread, script}
use Rattle.script_model.specs.Output.{most}
use Rattle.player_model.specs.Playing.{words_of, line_start}
use Rattle.player_model.proofs.Founds.{same_four}
use Rattle.player_model.specs.Computed.Parts.{some_four, found_in, found_by, header_of, body_at}

abbrev opened_with : Opening → Body → Script
opened_with o b = record { opening = o; body = b }

-- an item that gives sizes, which lie within their limits
sized : (i : Item) (next : ℕ) (b : Body) (banks rows stages words at : ℕ)
    → found_in true i next ≡ some_four banks rows stages words at
    → let o = banked banks rows stages words in
    (language.headed (opening_of i) b ≡ opened_with o b) × (buffered.fits o ≡ true) × (at ≡ next)
sized Malformed next b banks rows stages words at h = cc
sized (Sizes x y z w) next b banks rows stages words at h = go (buffered.fits (banked x y z w)) refl h
  where
    go : (t : Bool) → buffered.fits (banked x y z w) ≡ t → cond t (some_four x y z w next) None ≡ some_four banks rows stages words at
        → let o = banked banks rows stages words in
        (cond t (opened_with (banked x y z w) b) unread ≡ opened_with o b) × (buffered.fits o ≡ true) × (at ≡ next)
    go true e g = let q = same_four g in (cc (q.0, q.1, q.2, q.3), cc (q.0, q.1, q.2, q.3), sym q.4)
    go false e g = cc
sized (Operation code d s imm) next b banks rows stages words at h = cc
sized Issue next b banks rows stages words at h = cc
sized (Execute k) next b banks rows stages words at h = cc
sized (Squash k) next b banks rows stages words at h = cc
sized Commit next b banks rows stages words at h = cc
sized (Finish k) next b banks rows stages words at h = cc

-- an item that gives none
unsized : (i : Item) (next : ℕ) (b : Body) → found_in true i next ≡ None → language.headed (opening_of i) b ≡ unread
unsized Malformed next b h = refl
unsized (Sizes x y z w) next b h = go (buffered.fits (banked x y z w)) h
  where
    go : (t : Bool) → cond t (some_four x y z w next) None ≡ None → cond t (opened_with (banked x y z w) b) unread ≡ unread
    go true g = cc
    go false g = refl
unsized (Operation code d s imm) next b h = refl
unsized Issue next b h = refl
unsized (Execute k) next b h = refl
unsized (Squash k) next b h = refl
unsized Commit next b h = refl
unsized (Finish k) next b h = refl

-- the script of a text whose first line gives this opening, where the next line begins at `at`
pub record Headed (s : List ℕ) (o : Opening) (at : ℕ) : Type 0 where
  pub script_is : script (lines_of s) ≡ record { opening = o; body = body_at s at 2 [] }
  pub fit : buffered.fits o ≡ true
  pub within : at ≤ length s
  pub starts : at ≡ line_start s 1

pub headed : (s : List ℕ) {banks rows stages words at : ℕ} → header_of s ≡ some_four banks rows stages words at
    → Headed s (banked banks rows stages words) at
unfolding line_start
headed s {banks} {rows} {stages} {words} {at} h = go (line_at s 0) (line_is s 0 (line_at s 0) refl) h
  where
    go : (l : Line) → LineIs s 0 l → found_by true s l ≡ some_four banks rows stages words at
        → Headed s (banked banks rows stages words) at
    go End is g = cc
    go (Unended from) is g = cc
    go (Whole from to) is g =
        let next = suc (feed s 0) in
        let ends : feed s 0 < length s = omega arith in
        let line = slice 0 (feed s 0) s in
        let says : found_in true (parsed_line line) next ≡ some_four banks rows stages words at = rw (is.0, is.1) at g in
        let all = sized (parsed_line line) next (body_at s next 2 []) banks rows stages words at says in
        record {
          script_is = ap script (line_whole s 0 ends) ∙ all.0
              ∙ ap (λ (k : ℕ). opened_with (banked banks rows stages words) (body_at s k 2 [])) (sym all.2);
          fit = all.1;
          within = omega (arith, all.2);
          starts = all.2;
        }

pub script_unheaded : (s : List ℕ) → header_of s ≡ None → script (lines_of s) ≡ unread
script_unheaded s h = go (line_at s 0) (line_is s 0 (line_at s 0) refl) h
  where
    go : (l : Line) → LineIs s 0 l → found_by true s l ≡ None → script (lines_of s) ≡ unread
    go End is g = ap script (line_end s 0 is)
    go (Unended from) is g = ap script (line_unended s 0 is.2)
    go (Whole from to) is g =
        let next = suc (feed s 0) in
        let ends : feed s 0 < length s = omega arith in
        let line = slice 0 (feed s 0) s in
        let says : found_in true (parsed_line line) next ≡ None = rw (is.0, is.1) at g in
        ap script (line_whole s 0 ends) ∙ unsized (parsed_line line) next (body_at s next 2 []) says

-- ---- how many words of memory are asked for

words_within : (o : Opening) → buffered.fits o ≡ true → words_asked o ≤ words_most
unfolding sizes_fit
words_within (banked banks rows stages words) h =
    let some =
    (eqb banks 1 || eqb banks 2 || eqb banks 4 || eqb banks banks_most) && (leb 1 rows && leb rows rows_most)
    && (leb 1 stages && leb stages stages_most) in
    leb-true words words_most ((and-eq-true_iff (leb 1 words) (leb words words_most)).0
    ((and-eq-true_iff some (leb 1 words && leb words words_most)).0 h).1).1

-- of a text by whether it is too long
abbrev words_by_lem : List ℕ → Bool → ℕ
words_by_lem s long = words_asked (cond long unread (script (lines_of s))).opening

pub words_long : (s : List ℕ) → most < length s → 0 ≡ words_of s
words_long s h = ap (words_by_lem s) (sym (lt-ltb most (length s) h))

pub words_short : (s : List ℕ) → length s ≤ most → words_asked (script (lines_of s)).opening ≡ words_of s
words_short s h = ap (words_by_lem s) (sym (le-ltb most (length s) h))

pub words_none : (s : List ℕ) → length s ≤ most → header_of s ≡ None → 0 ≡ words_of s
words_none s h e = sym (ap (λ (k : Script). words_asked k.opening) (script_unheaded s e)) ∙ words_short s h

pub words_told : (s : List ℕ) {o : Opening} {at : ℕ} → length s ≤ most → Headed s o at
    → (words_asked o ≡ words_of s) × (words_asked o ≤ words_most)
words_told s {o} h head = (
  sym (ap (λ (k : Script). words_asked k.opening) head.script_is) ∙ words_short s h,
  words_within o head.fit,
)
