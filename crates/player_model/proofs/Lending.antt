-- What is lent wrongly, or is too small, changes nothing. After a `begin` that was lent wrongly no call of `fill` writes anything
-- or changes the memory (refused_silent), and `begin` may be called again with what it handed back, as though it had not been
-- called (begins_again). Of a text that may not be whole `begin` accepts only one that prints the same whatever comes after it
-- (part_prints). The places of the lent program behind the script's own stay (begins_keeps). A buffer without room for a step is
-- handed back as it was, with the player and the memory (fills_small).
-- Assumes nothing.
use mathlib.Core.Path.{◌≡◌, refl, sym, ap, ap₂, subst, ◌∙◌}
use mathlib.Core.Bool.{Bool, true, false, not, ◌&&◌, ◌||◌, false≢true}
use mathlib.Core.List.{List, [], ◌++◌}
use Prim.Native.Nat.{ℕ, ◌<◌}
use native.Mathlib.Omega.{arith}
use lib.Dec.{eqb, leb, ltb}
use lib.ListN.{length, take, drop}
use lib.Seq.{sets, drop-append_seam}
use borrow.Author.Tests.{leb-false}
use Rattle.machine_model.specs.Program.{program_most}
use Rattle.player_model.specs.declared.Phase.{Phase}
use Rattle.player_model.specs.declared.Phase.TheVariants.{Over}
use Rattle.player_model.specs.declared.Player.{Player}
use Rattle.script_model.specs.Output.{most, printed}
use Rattle.player_model.specs.Playing.{StepIn, longest, PlayerSteps, still, onward, is_over, Fills, script_of, words_of}
use Rattle.player_model.specs.Playing.{wrongly_lent, Begins}
use Rattle.player_model.specs.Truth.{Fillings, ready, filled, joined}
use Rattle.script_model.proofs.Longest.{printed_long, long_anyway}
use Rattle.player_model.proofs.Pieces.{joined_snoc}

-- ---- nothing is done

-- no step was made
record Idle (p : Player) (memory bytes : List ℕ) (q : Player) (after : List ℕ) : Type 0 where
  none : bytes ≡ []
  same : q ≡ p
  kept : after ≡ memory

-- a player that is over makes none
over_idle : {text program : List ℕ} {size : ℕ} {p : Player} {memory : List ℕ} {q : Player} {bytes after : List ℕ}
    → PlayerSteps text program size p memory bytes q after → p.phase ≡ Over → Idle p memory bytes q after
over_idle still over = record { none = refl; same = refl; kept = refl }
over_idle {text} {program} (onward {q = q} {r = r} {v = v} {w = w} piece s room step) over =
    absurd
    (subst (λ (h : Phase). StepIn text program h q v piece r w) (ap (λ (x : Player). x.phase) (over_idle s over).same ∙ over)
    step.made)

-- nor is one begun without room
small_idle : {text program : List ℕ} {size : ℕ} {p q : Player} {memory bytes after : List ℕ}
    → PlayerSteps text program size p memory bytes q after → size < longest → Idle p memory bytes q after
small_idle still small = record { none = refl; same = refl; kept = refl }
small_idle (onward piece s room step) small = absurd (omega (arith, room, small))

pub fills_small : {text program : List ℕ} {p q : Player} {memory out after into : List ℕ} {end : ℕ}
    → Fills text program p memory out q after into end → length out < longest
    → (q ≡ p) × (after ≡ memory) × (into ≡ out) × (end ≡ 0)
fills_small {out = out} f small =
    let nothing = small_idle f.steps small in (
      nothing.same,
      nothing.kept,
      f.writes.written ∙ ap (sets out 0) nothing.none,
      omega (arith, f.writes.ended, ap length nothing.none),
    )

-- ---- lent wrongly

over_silent : {text program : List ℕ} {p : Player} {memory : List ℕ} {r : Player} {w : List ℕ} {pieces : List (List ℕ)}
    → Fillings text program p memory pieces r w → p.phase ≡ Over → (joined pieces ≡ []) × (r ≡ p) × (w ≡ memory)
unfolding joined
over_silent ready over = (refl, refl, refl)
over_silent (filled {pieces = pieces} {into = into} {n = n} run f) over =
    let so = over_silent run over in
    let nothing = over_idle f.steps (ap (λ (x : Player). x.phase) so.1 ∙ over) in
    let wrote : n ≡ 0 = omega (arith, f.writes.ended, ap length nothing.none) in (
      joined_snoc pieces (take n into)
          ∙ ap₂ (λ (l : List ℕ) (k : ℕ). l ++ take k into) so.0 wrote,
      nothing.same ∙ so.1,
      nothing.kept ∙ so.2,
    )

module _ {text : List ℕ} {whole : Bool} {program memory : List ℕ} {q : Player} {into after : List ℕ}
    (begun : Begins text whole program memory q into after) (wrong : wrongly_lent text whole program memory ≡ true) where
  pub refused_silent : {pieces : List (List ℕ)} {r : Player} {w : List ℕ} → Fillings text into q after pieces r w
      → (joined pieces ≡ []) × (is_over r.phase ≡ true) × (w ≡ memory)
  refused_silent fills =
      let is = begun.refuses wrong in
      let so = over_silent fills (ap (λ (x : Player). x.phase) is.0) in
      (so.0, ap (λ (x : Player). is_over x.phase) (so.1 ∙ is.0), so.2 ∙ is.2)

  pub begins_again : {other : List ℕ} {all : Bool} {r : Player} {into₂ after₂ : List ℕ}
      → Begins other all into after r into₂ after₂ → Begins other all program memory r into₂ after₂
  begins_again {other} {all} {r} {into₂} {after₂} again =
      let is = begun.refuses wrong in
      subst (λ (l : List ℕ). Begins other all l memory r into₂ after₂) is.1
      (subst (λ (w : List ℕ). Begins other all into w r into₂ after₂) is.2 again)

-- ---- lent rightly

-- the third of the conditions
part_long : (text : List ℕ) (few : Bool) (fits : Bool) → (few || not fits || (not false && leb (length text) most)) ≡ false
    → most < length text
part_long text true fits e = absurd (false≢true (sym e))
part_long text false false e = absurd (false≢true (sym e))
part_long text false true e = leb-false (length text) most e

pub part_prints : (text program memory : List ℕ) → wrongly_lent text false program memory ≡ false
    → (rest : List ℕ) → printed (text ++ rest) ≡ printed text
part_prints text program memory right rest =
    let long = part_long text (ltb (length program) program_most) (eqb (length memory) (words_of text)) right in
    long_anyway text rest long ∙ sym (printed_long text long)

pub begins_keeps : {text : List ℕ} {whole : Bool} {program memory : List ℕ} {q : Player} {into after : List ℕ}
    → Begins text whole program memory q into after → wrongly_lent text whole program memory ≡ false
    → let used = length (script_of text).body.program in
    drop used into ≡ drop used program
begins_keeps {text} {program = program} begun right =
    let numbers = (script_of text).body.program in
    ap (drop (length numbers)) (begun.begins right).1 ∙ drop-append_seam numbers (drop (length numbers) program)
