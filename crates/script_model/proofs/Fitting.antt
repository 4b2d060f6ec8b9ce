-- The program of a body is well formed and not too long, if that holds of the program so far: the numbers that
-- a line joins to it are four, well formed, and joined only where there is room. Assumes nothing.
use mathlib.Core.Bool.{Bool, true, false, cond, ◌&&◌, and-eq-true_iff}
use mathlib.Core.List.{List, [], ◌∷◌, ◌++◌}
use mathlib.Core.Logic.{⊎_elim}
use mathlib.Core.Option.{Option, none, some}
use mathlib.Core.Path.{◌≡◌, refl, ap, ap₂, ◌∙◌}
use Prim.Native.Nat.{ℕ, suc, ◌+◌, ◌*◌, ◌/◌, ◌%◌, ◌≤◌, ◌<◌}
use native.Mathlib.Nat.{eq-or-lt_of_le}
use native.Mathlib.Omega.{arith}
use lib.Dec.{eqb, ltb}
use lib.ListN.{length, get_or, length-append, get_or-append}
use lib.Seq.{get_or-append-add}
use borrow.Author.Tests.{eqb-true, eq-eqb, ltb-true}
use Rattle.marks.specs.Counting.{every}
use Rattle.marks.proofs.Counts.{every_at, every_from}
use Rattle.machine_model.specs.Program.{per_instruction, program_most, well_formed, well_formed_at, program_fits}
use Rattle.script_model.specs.declared.Item.{Item}
use Rattle.script_model.specs.declared.Item.TheVariants.{Malformed, Sizes, Operation, Issue, Execute, Squash, Commit}
use Rattle.script_model.specs.declared.Item.TheVariants.{Finish}
use Rattle.script_model.specs.Language.{parsed_line, numbers_of, joining, steps, body}

-- the numbers that a line joins to a program
record Joins (program ns : List ℕ) : Type 0 where
  code : ℕ
  d : ℕ
  s : ℕ
  imm : ℕ
  four : ns ≡ code ∷ d ∷ s ∷ imm ∷ []
  room : length program < program_most
  formed : well_formed code d s imm ≡ true

never : {A : Type 0} {ns : List ℕ} → none ≡ some ns → A
never e = absurd (let z : ◌≡◌ {A = ℕ} 0 1 = cc in omega arith)

joins : (program : List ℕ) (i : Item) (ns : List ℕ) → numbers_of program i ≡ some ns → Joins program ns
joins program Malformed ns h = never h
joins program (Sizes x y z w) ns h = never h
joins program (Operation x y z w) ns h = go (ltb (length program) program_most) refl (well_formed x y z w) refl h
  where
    go : (r : Bool) → ltb (length program) program_most ≡ r → (t : Bool) → well_formed x y z w ≡ t
        → cond (r && t) (some (x ∷ y ∷ z ∷ w ∷ [])) none ≡ some ns → Joins program ns
    go false e t f g = never g
    go true e false f g = never g
    go true e true f g =
        record { code = x; d = y; s = z; imm = w; four = cc; room = ltb-true (length program) program_most e; formed = f }
joins program Issue ns h = never h
joins program (Execute k) ns h = never h
joins program (Squash k) ns h = never h
joins program Commit ns h = never h
joins program (Finish k) ns h = never h

-- a well-formed instruction behind a well-formed program
longer_at : (p : List ℕ) (code d s imm : ℕ) → length p % per_instruction ≡ 0
    → every (well_formed_at p) (length p / per_instruction) ≡ true
    → well_formed code d s imm ≡ true
    → (k : ℕ) → k ≤ length p / per_instruction → well_formed_at (p ++ (code ∷ d ∷ s ∷ imm ∷ [])) k ≡ true
longer_at p code d s imm whole formed new k h = ⊎_elim last before (eq-or-lt_of_le h)
  where
    beyond : (i j : ℕ) → i ≡ length p + j
        → let ns = code ∷ d ∷ s ∷ imm ∷ [] in
        get_or (p ++ ns) i 0 ≡ get_or ns j 0
    beyond i j e =
        let ns = code ∷ d ∷ s ∷ imm ∷ [] in
        ap (λ (n : ℕ). get_or (p ++ ns) n 0) e ∙ get_or-append-add p ns j 0

    last : k ≡ length p / per_instruction → well_formed_at (p ++ (code ∷ d ∷ s ∷ imm ∷ [])) k ≡ true
    last e =
        let ns = code ∷ d ∷ s ∷ imm ∷ [] in
        let a : get_or (p ++ ns) (k * per_instruction) 0 ≡ code = beyond (k * per_instruction) 0 (omega arith) in
        let b : get_or (p ++ ns) (k * per_instruction + 1) 0 ≡ d = beyond (k * per_instruction + 1) 1 (omega arith) in
        let c : get_or (p ++ ns) (k * per_instruction + 2) 0 ≡ s = beyond (k * per_instruction + 2) 2 (omega arith) in
        let f : get_or (p ++ ns) (k * per_instruction + 3) 0 ≡ imm = beyond (k * per_instruction + 3) 3 (omega arith) in
        rw (a, b, c, f) new

    before : k < length p / per_instruction → well_formed_at (p ++ (code ∷ d ∷ s ∷ imm ∷ [])) k ≡ true
    before l =
        let ns = code ∷ d ∷ s ∷ imm ∷ [] in
        let a = get_or-append p ns 0 (k * per_instruction) (omega arith) in
        let b = get_or-append p ns 0 (k * per_instruction + 1) (omega arith) in
        let c = get_or-append p ns 0 (k * per_instruction + 2) (omega arith) in
        let f = get_or-append p ns 0 (k * per_instruction + 3) (omega arith) in
        rw (a, b, c, f) (every_at (well_formed_at p) (length p / per_instruction) formed k l)

longer_fits : (p : List ℕ) (code d s imm : ℕ) → program_fits p ≡ true → well_formed code d s imm ≡ true
    → program_fits (p ++ (code ∷ d ∷ s ∷ imm ∷ [])) ≡ true
unfolding program_fits
longer_fits p code d s imm fits new =
    let ns = code ∷ d ∷ s ∷ imm ∷ [] in
    let long : length (p ++ ns) ≡ length p + per_instruction = length-append p ns in
    let both = (and-eq-true_iff (eqb (length p % per_instruction) 0) (every (well_formed_at p) (length p / per_instruction))).0 fits in
    let whole : length p % per_instruction ≡ 0 = eqb-true (length p % per_instruction) 0 both.0 in
    ap₂ ◌&&◌ (eq-eqb (length (p ++ ns) % per_instruction) 0 (omega arith))
    (every_from (well_formed_at (p ++ ns)) (length (p ++ ns) / per_instruction)
    (λ k h. longer_at p code d s imm whole both.1 new k (omega arith)))

-- a program that fits and has room for a number has room for four
longer_short : (p : List ℕ) → program_fits p ≡ true → length p < program_most → length p + per_instruction ≤ program_most
unfolding program_fits
longer_short p fits room =
    let both = (and-eq-true_iff (eqb (length p % per_instruction) 0) (every (well_formed_at p) (length p / per_instruction))).0 fits in
    omega (arith, eqb-true (length p % per_instruction) 0 both.0)

joined_fits : (p ns : List ℕ) → Joins p ns → program_fits p ≡ true
    → (program_fits (p ++ ns) ≡ true) × (length (p ++ ns) ≤ program_most)
joined_fits p ns j fits =
    let longer = longer_fits p j.code j.d j.s j.imm fits j.formed in (
      ap (λ (l : List ℕ). program_fits (p ++ l)) j.four ∙ longer,
      omega (arith, longer_short p fits j.room, length-append p ns, ap length j.four),
    )

pub body_fits : (n : ℕ) (program : List ℕ) (lines : List (List ℕ)) (rest : List ℕ)
    → program_fits program ≡ true → length program ≤ program_most
    → (program_fits (body n program lines rest).program ≡ true) × (length (body n program lines rest).program ≤ program_most)
unfolding body
body_fits n program [] rest fits short = (fits, short)
body_fits n program (line ∷ lines) rest fits short =
    go (numbers_of program (parsed_line line)) refl (λ grown f l. body_fits (suc n) grown lines rest f l)
  where
    go : (o : Option (List ℕ)) → numbers_of program (parsed_line line) ≡ o
        → ((grown : List ℕ) → program_fits grown ≡ true → length grown ≤ program_most
        → (program_fits (body (suc n) grown lines rest).program ≡ true)
        × (length (body (suc n) grown lines rest).program ≤ program_most))
        → let b =
        joining program o (λ (grown : List ℕ). body (suc n) grown lines rest) (steps n (line ∷ lines) rest) in
        (program_fits b.program ≡ true) × (length b.program ≤ program_most)
    go none e more = (fits, short)
    go (some ns) e more =
        let all = joined_fits program ns (joins program (parsed_line line) ns e) fits in
        more (program ++ ns) all.0 all.1
