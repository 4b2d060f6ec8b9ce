-- There is a reason exactly where a script is bad, and for the number that it prints (flaw_number, flaw_printed). A malformed
-- line has one: where the number of fields is the letter's, one of them is no number (fields_agree goes byte by byte with the
-- reading of the fields).
-- Assumes nothing.
use mathlib.Core.Bool.{Bool, true, false, cond, ◌&&◌}
use mathlib.Core.Path.{◌≡◌, refl, sym, subst, ◌∙◌}
use mathlib.Core.List.{List, [], ◌∷◌, ◌++◌}
use mathlib.Core.Option.{Option as Maybe, none, some}
use Prim.Native.Nat.{ℕ, suc, ◌+◌, ◌-◌, ◌*◌, ◌≤◌}
use native.Mathlib.Omega.{arith}
use lib.Dec.{eqb, leb, ltb}
use lib.ListN.{length, get_or, length-append}
use Rattle.std.proofs.lemmas.Bool.Decides.{nat_tests}
use Rattle.std.proofs.lemmas.Grind.{common_steps}
use Rattle.std.specs.Prelude.{Option, None, Some, is_none, Result, Ok, Err}
use Rattle.text.specs.Fields.{Open, empty, value, Reading, bad, reading, comma, digit, byte, bytes, closed, fields}
use Rattle.text.specs.Fields.{largest}
use Rattle.text.specs.Lines.{lines_of}
use Rattle.text.proofs.Trip.{digit_first}
use Rattle.table.specs.Limits.{sizes_fit}
use Rattle.table.specs.Reference.{State}
use Rattle.machine_model.specs.Program.{per_instruction, instructions_most, program_most, well_formed}
use Rattle.machine_model.specs.Calls.{Opening, banked, buffered}
use Rattle.script_model.specs.declared.Item.{Item}
use Rattle.script_model.specs.declared.Item.TheVariants.{Malformed, Sizes, Operation, Issue, Execute, Squash, Commit}
use Rattle.script_model.specs.declared.Item.TheVariants.{Finish}
use Rattle.flaw_model.specs.declared.Part.TheVariants as part
use Rattle.flaw_model.specs.declared.Defect.{Defect}
use Rattle.flaw_model.specs.declared.Defect.TheVariants.{Zero, Stray, Large}
use Rattle.flaw_model.specs.declared.Reason.{Reason}
use Rattle.flaw_model.specs.declared.Reason.TheVariants as why
use Rattle.flaw_model.specs.declared.Flaw.{Flaw}
use Rattle.script_model.specs.Language.{lettered, parsed_line}
use Rattle.script_model.specs.Language.{step_of, stepping, steps}
use Rattle.script_model.specs.Language.{numbers_of, joining, Body, body, opening_of, headed, script_by, script}
use Rattle.sequential.specs.Play.{Played, play}
use Rattle.script_model.specs.Output.{commit_lines, bad_line, closing, script_opening, output, most, printed}
use Rattle.flaw_model.specs.Flaw.{arity, commas, comma_took, digit_took, took, following, no_number, behind, malformed}
use Rattle.flaw_model.specs.Flaw.{no_sizes, unfit, unformed, of_operation, reason_in, next_part}
use Rattle.flaw_model.specs.Flaw.{flaw_at, flaw_from, flaw_of, bad_number}

-- ---- fields that are no numbers

-- fields that are none have a reason; those that are have none, and are as many as the commas say
abbrev Agree : Maybe (List ℕ) → Bool → ℕ → Type 0
Agree none fine n = fine ≡ false
Agree (some ns) fine n = (fine ≡ true) × (length ns ≡ n)

bytes_bad : (bs : List ℕ) → bytes largest bad bs ≡ bad
unfolding bytes
bytes_bad [] = refl
bytes_bad (b ∷ bs) = bytes_bad bs

-- a byte that is wrong where it stands
stopped : (bs : List ℕ) (fine : Bool) (n : ℕ) → fine ≡ false → Agree (closed (bytes largest bad bs)) fine n
stopped bs fine n h = subst (λ (r : Reading). Agree (closed r) fine n) (sym (bytes_bad bs)) h

digit_most : (b : ℕ) → (leb 48 b && leb b 57) ≡ true → b ≤ 57
digit_most b h = grind (arith, nat_tests)

counted : (ns : List ℕ) (x n : ℕ) → length (ns ++ (x ∷ [])) + n ≡ length ns + suc n
counted ns x n = rw (length-append ns (x ∷ [])) (omega arith)

module _ (letter b : ℕ) (bs : List ℕ)
    (more : (k : ℕ) (o : Open) (ns : List ℕ)
    → Agree (closed (bytes largest (reading ns o) bs)) (is_none (no_number letter k o bs)) (length ns + suc (commas bs))) where
  -- reading and reason go on alike, or both stop
  abbrev Alike : ℕ → List ℕ → Reading → Result (Option ℕ) Defect → ℕ → Type 0
  Alike k ns r t n =
      Agree (closed (bytes largest r bs))
      (is_none (following letter k t (no_number letter (suc k) empty bs) (λ (x : ℕ). no_number letter k (value x) bs)))
      (length ns + suc n)

  comma_alike : (k : ℕ) (o : Open) (ns : List ℕ) → Alike k ns (comma o ns) (comma_took o) (suc (commas bs))
  comma_alike k empty ns = stopped bs false (length ns + suc (suc (commas bs))) refl
  comma_alike k (value x) ns =
      subst (λ (n : ℕ). Agree (closed (bytes largest (reading (ns ++ (x ∷ [])) empty) bs))
      (is_none (no_number letter (suc k) empty bs)) n)
      (counted ns x (suc (commas bs)))
      (more (suc k) empty (ns ++ (x ∷ [])))

  digit_alike : (k : ℕ) (o : Open) (ns : List ℕ) (d : ℕ) → d ≤ largest
      → Alike k ns (digit largest d o ns) (digit_took o d) (commas bs)
  digit_alike k empty ns d h =
      subst (λ (r : Reading). Alike k ns r (Ok (Some d)) (commas bs)) (sym (digit_first largest d ns h)) (more k (value d) ns)
  digit_alike k (value x) ns d h = go (ltb 0 x) (leb (x * 10 + d) largest)
    where
      go : (u v : Bool)
          → Alike k ns (cond (u && v) (reading ns (value (x * 10 + d))) bad)
          (cond u (cond v (Ok (Some (x * 10 + d))) (Err Large)) (Err Zero))
          (commas bs)
      go true true = more k (value (x * 10 + d)) ns
      go true false = stopped bs false (length ns + suc (commas bs)) refl
      go false v = stopped bs false (length ns + suc (commas bs)) refl

  byte_alike : (k : ℕ) (o : Open) (ns : List ℕ)
      → Alike k ns (byte largest (reading ns o) b) (took o b) (cond (eqb b 44) (suc (commas bs)) (commas bs))
  byte_alike k o ns = go (eqb b 44) (leb 48 b && leb b 57) refl
    where
      go : (t u : Bool) → (leb 48 b && leb b 57) ≡ u
          → Alike k ns (cond t (comma o ns) (cond u (digit largest (b - 48) o ns) bad))
          (cond t (comma_took o) (cond u (digit_took o (b - 48)) (Err (Stray b))))
          (cond t (suc (commas bs)) (commas bs))
      go true u e = comma_alike k o ns
      go false true e = digit_alike k o ns (b - 48) (omega (arith, digit_most b e))
      go false false e = stopped bs false (length ns + suc (commas bs)) refl

fields_agree : (letter k : ℕ) (o : Open) (ns bs : List ℕ)
    → Agree (closed (bytes largest (reading ns o) bs)) (is_none (no_number letter k o bs)) (length ns + suc (commas bs))
unfolding bytes no_number commas
fields_agree letter k empty ns [] = refl
fields_agree letter k (value x) ns [] = (refl, length-append ns (x ∷ []))
fields_agree letter k o ns (b ∷ bs) =
    byte_alike letter b bs (λ (k : ℕ) (o : Open) (ns : List ℕ). fields_agree letter k o ns bs) k o ns

-- ---- a malformed line has a reason

-- there are at most five fields, and no letter has three
impossible : (b n : ℕ) → arity b ≡ n → (n ≡ 3 → ⊥) × (n ≤ 5)
impossible b n e = grind (arith, common_steps)

-- a letter with as many numbers as it takes says something
heard : (b : ℕ) (ns : List ℕ) → 1 ≤ length ns → arity b ≡ suc (length ns) → lettered b (some ns) ≡ Malformed → ⊥
heard b [] h n e = omega arith
heard b (k ∷ []) h n e = grind (arith, common_steps)
heard b (k ∷ l ∷ []) h n e = (impossible b 3 n).0 refl
heard b (d ∷ s ∷ imm ∷ []) h n e = grind (arith, common_steps)
heard b (banks ∷ rows ∷ stages ∷ words ∷ []) h n e = grind (arith, common_steps)
heard b (k ∷ l ∷ m ∷ o ∷ p ∷ ns) h n e = omega (arith, (impossible b _ n).1)

-- ---- the reason of a malformed line

numbers_wrong : (b : ℕ) (bs : List ℕ) → arity b ≡ commas bs + 2 → lettered b (fields largest bs) ≡ Malformed
    → is_none (no_number b 2 empty bs) ≡ false
numbers_wrong b bs n = go (fields largest bs) (is_none (no_number b 2 empty bs)) (fields_agree b 2 empty [] bs)
  where
    go : (f : Maybe (List ℕ)) (fine : Bool) → Agree f fine (0 + suc (commas bs)) → lettered b f ≡ Malformed → fine ≡ false
    go none fine a e = a
    go (some ns) fine a e = absurd (heard b ns (omega (arith, a.1)) (n ∙ omega (arith, a.1)) e)

behind_wrong : (b : ℕ) (bs : List ℕ) → parsed_line (b ∷ bs) ≡ Malformed → is_none (behind b bs) ≡ false
behind_wrong b [] e = refl
behind_wrong b (c ∷ bs) e = grind (arith, common_steps, numbers_wrong b bs)

malformed_wrong : (line : List ℕ) → parsed_line line ≡ Malformed → is_none (malformed line) ≡ false
malformed_wrong [] e = refl
malformed_wrong (b ∷ bs) e = grind (arith, behind_wrong b bs e)

-- ---- the lines

-- a reason ends the script at its line
told : (n : ℕ) (r : Option Reason) (more : Result ℕ Flaw) → is_none r ≡ false
    → bad_number (cond (is_none r) more (flaw_at n r)) ≡ some n
told n None more h = absurd cc
told n (Some r) more h = refl

steps_number : (n : ℕ) (lines : List (List ℕ)) (rest : List ℕ)
    → bad_number (flaw_from n part.Steps lines rest) ≡ (steps n lines rest).flaw
unfolding flaw_from steps
steps_number n [] [] = refl
steps_number n [] (b ∷ rest) = refl
steps_number n (line ∷ lines) rest = go (parsed_line line) refl (steps_number (suc n) lines rest)
  where
    go : (i : Item) → parsed_line line ≡ i
        → bad_number (flaw_from (suc n) part.Steps lines rest) ≡ (steps (suc n) lines rest).flaw
        → bad_number
        (cond (is_none (reason_in part.Steps i line))
        (flaw_from (suc n) (next_part part.Steps i) lines rest)
        (flaw_at n (reason_in part.Steps i line)))
        ≡ (stepping n (step_of i) (steps (suc n) lines rest)).flaw
    go Malformed e more = told n (malformed line) (flaw_from (suc n) part.Steps lines rest) (malformed_wrong line e)
    go (Sizes banks rows stages words) e more = refl
    go (Operation code d s imm) e more = refl
    go Issue e more = more
    go (Execute k) e more = more
    go (Squash k) e more = more
    go Commit e more = more
    go (Finish k) e more = more

-- there is room in the program for one instruction more
room_same : (room used : ℕ) → used + room * per_instruction ≡ program_most → ltb used program_most ≡ ltb 0 room
room_same room used h = grind (arith, common_steps)

unformed_wrong : (letter code d s imm : ℕ) → well_formed code d s imm ≡ false → is_none (unformed letter code d s imm) ≡ false
unformed_wrong letter code d s imm h = grind (arith, common_steps)

module _ (n room : ℕ) (program line : List ℕ) (lines : List (List ℕ)) (rest : List ℕ) where
  -- flaw and script go on alike after this line
  abbrev SameBy : Item → Option Reason → Maybe (List ℕ) → Type 0
  SameBy i r joins =
      bad_number (cond (is_none r) (flaw_from (suc n) (next_part (part.Program room) i) lines rest) (flaw_at n r))
      ≡ (joining program joins (λ (grown : List ℕ). body (suc n) grown lines rest)
      (stepping n (step_of i) (steps (suc n) lines rest))).steps.flaw

  operation_number : (letter code d s imm : ℕ) → length program + room * per_instruction ≡ program_most
      → ((grown : List ℕ) → length grown + (room - 1) * per_instruction ≡ program_most
      → bad_number (flaw_from (suc n) (part.Program (room - 1)) lines rest) ≡ (body (suc n) grown lines rest).steps.flaw)
      → SameBy (Operation code d s imm) (of_operation (part.Program room) letter code d s imm)
      (numbers_of program (Operation code d s imm))
  operation_number letter code d s imm h more =
      grind (
        arith,
        common_steps,
        room_same room (length program) h,
        unformed_wrong letter code d s imm,
        more (program ++ (code ∷ d ∷ s ∷ imm ∷ [])),
      )

  line_number : length program + room * per_instruction ≡ program_most
      → ((grown : List ℕ) → length grown + (room - 1) * per_instruction ≡ program_most
      → bad_number (flaw_from (suc n) (part.Program (room - 1)) lines rest) ≡ (body (suc n) grown lines rest).steps.flaw)
      → SameBy (parsed_line line) (reason_in (part.Program room) (parsed_line line) line) (numbers_of program (parsed_line line))
  line_number h more = go (parsed_line line) refl
    where
      go : (i : Item) → parsed_line line ≡ i → SameBy i (reason_in (part.Program room) i line) (numbers_of program i)
      go Malformed e = told n (malformed line) (flaw_from (suc n) part.Steps lines rest) (malformed_wrong line e)
      go (Sizes banks rows stages words) e = refl
      go (Operation code d s imm) e = operation_number (get_or line 0 0) code d s imm h more
      go Issue e = steps_number (suc n) lines rest
      go (Execute k) e = steps_number (suc n) lines rest
      go (Squash k) e = steps_number (suc n) lines rest
      go Commit e = steps_number (suc n) lines rest
      go (Finish k) e = steps_number (suc n) lines rest

body_number : (n room : ℕ) (program : List ℕ) (lines : List (List ℕ)) (rest : List ℕ)
    → length program + room * per_instruction ≡ program_most
    → bad_number (flaw_from n (part.Program room) lines rest) ≡ (body n program lines rest).steps.flaw
unfolding flaw_from steps body
body_number n room program [] [] h = refl
body_number n room program [] (b ∷ rest) h = refl
body_number n room program (line ∷ lines) rest h =
    line_number n room program line lines rest h
    (λ (grown : List ℕ). body_number (suc n) (room - 1) grown lines rest)

-- ---- the whole script

first_wrong : (line : List ℕ) → parsed_line line ≡ Malformed → is_none (no_sizes line) ≡ false
first_wrong [] e = refl
first_wrong (b ∷ bs) e = go (eqb b 78)
  where
    go : (t : Bool) → is_none (cond t (malformed (b ∷ bs)) (Some (why.NoSizes b))) ≡ false
    go true = malformed_wrong (b ∷ bs) e
    go false = refl

-- there is a reason exactly where an opening is not within its limits
unfit_fine : (o : Opening) → is_none (unfit o) ≡ buffered.fits o
unfolding sizes_fit
unfit_fine (banked banks rows stages words) = grind (arith, common_steps)

opening_number : (o : Opening) (more : Result ℕ Flaw) (b : Body) → bad_number more ≡ b.steps.flaw
    → bad_number (cond (is_none (unfit o)) more (flaw_at 1 (unfit o))) ≡ (headed (some o) b).body.steps.flaw
opening_number o more b same = grind (arith, common_steps, unfit_fine o)

script_number : (lines : List (List ℕ)) (rest : List ℕ)
    → bad_number (flaw_from 1 part.First lines rest) ≡ (script_by lines rest).body.steps.flaw
unfolding flaw_from
script_number [] [] = refl
script_number [] (b ∷ rest) = refl
script_number (line ∷ lines) rest = go (parsed_line line) refl
  where
    go : (i : Item) → parsed_line line ≡ i
        → bad_number
        (cond (is_none (reason_in part.First i line))
        (flaw_from 2 (next_part part.First i) lines rest)
        (flaw_at 1 (reason_in part.First i line)))
        ≡ (headed (opening_of i) (body 2 [] lines rest)).body.steps.flaw
    go Malformed e = told 1 (no_sizes line) (flaw_from 2 (part.Program instructions_most) lines rest) (first_wrong line e)
    go (Sizes banks rows stages words) e =
        opening_number (banked banks rows stages words) (flaw_from 2 (part.Program instructions_most) lines rest) (body 2 [] lines rest)
        (body_number 2 instructions_most [] lines rest refl)
    go (Operation code d s imm) e = refl
    go Issue e = refl
    go (Execute k) e = refl
    go (Squash k) e = refl
    go Commit e = refl
    go (Finish k) e = refl

-- the number of the bad line is that of the script, or 0 where the text is too long
pub flaw_number : (text : List ℕ)
    → bad_number (flaw_of text) ≡ cond (ltb most (length text)) (some 0) (script (lines_of text)).body.steps.flaw
unfolding flaw_of
flaw_number text = grind (arith, common_steps, script_number)

-- After the commits a text prints its bad line with the number of its flaw, and the closing lines where it has none.
pub flaw_printed : (text : List ℕ)
    → (y : Played State) × (printed text ≡ commit_lines y.record' ++ closing y (bad_number (flaw_of text)))
unfolding printed commit_lines
flaw_printed text = go (ltb most (length text)) (flaw_number text)
  where
    go : (t : Bool) → bad_number (flaw_of text) ≡ cond t (some 0) (script (lines_of text)).body.steps.flaw
        → (y : Played State)
        × (cond t (bad_line 0) (output (script (lines_of text))) ≡ commit_lines y.record' ++ closing y (bad_number (flaw_of text)))
    go true e = (script_opening (script (lines_of text)), rw e)
    go false e =
        let s = script (lines_of text) in
        (play buffered s.body.program (script_opening s) s.body.steps.calls, rw e)
