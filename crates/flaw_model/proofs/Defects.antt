-- No script's flaw is of a sound field (no_sound_field): a field is told only where something is wrong with it.
-- Assumes nothing.
use mathlib.Core.Bool.{Bool, true, false, cond, false≢true}
use mathlib.Core.Path.{◌≡◌, refl, sym, ap, ◌∙◌}
use mathlib.Core.List.{List, [], ◌∷◌}
use Prim.Native.Nat.{ℕ, suc}
use native.Mathlib.Omega.{arith}
use lib.Dec.{eqb}
use lib.ListN.{get_or}
use Rattle.std.proofs.lemmas.Grind.{common_steps}
use Rattle.std.specs.Prelude.{Option, None, Some, is_none, Result, Ok, Err}
use Rattle.text.specs.Fields.{Open, empty, value}
use Rattle.machine_model.specs.Calls.{Opening, banked}
use Rattle.script_model.specs.declared.Item.{Item}
use Rattle.script_model.specs.declared.Item.TheVariants.{Malformed, Sizes, Operation, Issue, Execute, Squash, Commit}
use Rattle.script_model.specs.declared.Item.TheVariants.{Finish}
use Rattle.script_model.specs.Language.{parsed_line}
use Rattle.flaw_model.specs.declared.Part.{Part}
use Rattle.flaw_model.specs.declared.Part.TheVariants.{First, Program, Steps}
use Rattle.flaw_model.specs.declared.Defect.{Defect}
use Rattle.flaw_model.specs.declared.Defect.TheVariants.{Sound, Missing, Zero, Stray, Large, Beyond}
use Rattle.flaw_model.specs.declared.Reason.{Reason}
use Rattle.flaw_model.specs.declared.Reason.TheVariants as why
use Rattle.flaw_model.specs.declared.Flaw.{Flaw}
use Rattle.flaw_model.specs.Flaw.{took, following, no_number, behind, malformed}
use Rattle.flaw_model.specs.Flaw.{no_sizes, unfit, unformed, of_step, reason_in, next_part, of_end}
use Rattle.flaw_model.specs.Flaw.{flaw_at, flaw_from, flaw_of}

-- whether a defect, a reason, what was told, taken or found is of a sound field
abbrev is_sound : Defect → Bool
is_sound Sound = true
is_sound Missing = false
is_sound Zero = false
is_sound (Stray b) = false
is_sound Large = false
is_sound (Beyond v) = false

abbrev of_sound : Reason → Bool
of_sound why.TooLong = false
of_sound why.NoInput = false
of_sound why.Blank = false
of_sound why.Unended = false
of_sound why.CarriageReturn = false
of_sound (why.NoSizes b) = false
of_sound why.SizesAgain = false
of_sound (why.Letter b) = false
of_sound (why.Glued b c) = false
of_sound (why.Count b k) = false
of_sound (why.Field b k d) = is_sound d
of_sound why.Full = false
of_sound why.Late = false

abbrev told : Option Reason → Bool
told None = false
told (Some r) = of_sound r

abbrev taken : Result (Option ℕ) Defect → Bool
taken (Ok x) = false
taken (Err d) = is_sound d

abbrev found : Result ℕ Flaw → Bool
found (Ok n) = false
found (Err f) = of_sound f.reason

-- ---- a field

took_none : (o : Open) (b : ℕ) → taken (took o b) ≡ false
took_none empty b = grind (arith, common_steps)
took_none (value x) b = grind (arith, common_steps)

following_none : (letter k : ℕ) (t : Result (Option ℕ) Defect) (next : Option Reason) (grown : ℕ → Option Reason)
    → taken t ≡ false → told next ≡ false → ((x : ℕ) → told (grown x) ≡ false)
    → told (following letter k t next grown) ≡ false
following_none letter k (Ok None) next grown t n g = n
following_none letter k (Ok (Some x)) next grown t n g = g x
following_none letter k (Err d) next grown t n g = t

no_number_none : (letter k : ℕ) (o : Open) (bs : List ℕ) → told (no_number letter k o bs) ≡ false
unfolding no_number
no_number_none letter k empty [] = refl
no_number_none letter k (value x) [] = refl
no_number_none letter k o (b ∷ bs) =
    following_none letter k (took o b) (no_number letter (suc k) empty bs) (λ (x : ℕ). no_number letter k (value x) bs)
    (took_none o b)
    (no_number_none letter (suc k) empty bs)
    (λ (x : ℕ). no_number_none letter k (value x) bs)

-- ---- a line

either : (t : Bool) (a b : Option Reason) → told a ≡ false → told b ≡ false → told (cond t a b) ≡ false
either true a b p q = p
either false a b p q = q

behind_none : (letter : ℕ) (bs : List ℕ) → told (behind letter bs) ≡ false
behind_none letter [] = refl
behind_none letter (c ∷ bs) = grind (arith, common_steps, no_number_none letter 2 empty bs)

malformed_none : (line : List ℕ) → told (malformed line) ≡ false
malformed_none [] = refl
malformed_none (b ∷ bs) = grind (arith, common_steps, behind_none b bs)

no_sizes_none : (line : List ℕ) → told (no_sizes line) ≡ false
no_sizes_none [] = refl
no_sizes_none (b ∷ bs) = either (eqb b 78) (malformed (b ∷ bs)) (Some (why.NoSizes b)) (malformed_none (b ∷ bs)) refl

unfit_none : (o : Opening) → told (unfit o) ≡ false
unfit_none (banked banks rows stages words) = grind (arith, common_steps)

unformed_none : (letter code d s imm : ℕ) → told (unformed letter code d s imm) ≡ false
unformed_none letter code d s imm = grind (arith, common_steps)

step_none : (part : Part) (letter : ℕ) → told (of_step part letter) ≡ false
step_none First letter = refl
step_none (Program room) letter = refl
step_none Steps letter = refl

reason_none : (part : Part) (i : Item) (line : List ℕ) → told (reason_in part i line) ≡ false
reason_none First Malformed line = no_sizes_none line
reason_none (Program room) Malformed line = malformed_none line
reason_none Steps Malformed line = malformed_none line
reason_none First (Sizes banks rows stages words) line = unfit_none (banked banks rows stages words)
reason_none (Program room) (Sizes banks rows stages words) line = refl
reason_none Steps (Sizes banks rows stages words) line = refl
reason_none First (Operation code d s imm) line = refl
reason_none (Program room) (Operation code d s imm) line =
    grind (arith, common_steps, unformed_none (get_or line 0 0) code d s imm)
reason_none Steps (Operation code d s imm) line = refl
reason_none part Issue line = step_none part (get_or line 0 0)
reason_none part (Execute k) line = step_none part (get_or line 0 0)
reason_none part (Squash k) line = step_none part (get_or line 0 0)
reason_none part Commit line = step_none part (get_or line 0 0)
reason_none part (Finish k) line = step_none part (get_or line 0 0)

-- ---- a script

at_none : (n : ℕ) (r : Option Reason) → told r ≡ false → found (flaw_at n r) ≡ false
at_none n None h = refl
at_none n (Some r) h = h

end_none : (part : Part) → told (of_end part) ≡ false
end_none First = refl
end_none (Program room) = refl
end_none Steps = refl

either_found : (t : Bool) (a b : Result ℕ Flaw) → found a ≡ false → found b ≡ false → found (cond t a b) ≡ false
either_found true a b p q = p
either_found false a b p q = q

from_none : (n : ℕ) (part : Part) (lines : List (List ℕ)) (rest : List ℕ) → found (flaw_from n part lines rest) ≡ false
unfolding flaw_from
from_none n part [] [] = at_none n (of_end part) (end_none part)
from_none n part [] (b ∷ rest) = refl
from_none n part (line ∷ lines) rest =
    let i = parsed_line line in
    let r = reason_in part i line in
    either_found (is_none r) (flaw_from (suc n) (next_part part i) lines rest) (flaw_at n r)
    (from_none (suc n) (next_part part i) lines rest)
    (at_none n r (reason_none part i line))

text_none : (text : List ℕ) → found (flaw_of text) ≡ false
unfolding flaw_of
text_none text = grind (arith, common_steps, from_none)

-- whoever takes a flaw of `flaw_of` apart needs no case for a sound field
pub no_sound_field : (text : List ℕ) (f : Flaw) (letter k : ℕ) → flaw_of text ≡ Err f → f.reason ≡ why.Field letter k Sound → ⊥
no_sound_field text f letter k e r = false≢true (sym (text_none text) ∙ ap found e ∙ ap of_sound r)
