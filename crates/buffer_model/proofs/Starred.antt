-- Every row of the tables of examples comes out, 01's starred ones among them. What opening and calls of each row answer is
-- computed, for all rows in one equation of lists, and this is taken apart row by row. Calls that meet their contracts answer
-- what is computed (session_played), on the table of a refused opening 2 (session_broken).
-- Assumes nothing.
use mathlib.Core.Bool.{Bool, true, false, cond}
use mathlib.Core.List.{List, [], ◌∷◌, ◌++◌, map}
use mathlib.Core.Path.{◌≡◌, refl, ap, ap₂, subst, ◌∙◌}
use Prim.Native.Nat.{ℕ}
use lib.Dec.{eqb}
use borrow.Author.Tests.{eqb-true, eqb-false}
use Rattle.marks.specs.Counting.{count, last}
use Rattle.table.specs.declared.Table.{Table}
use Rattle.table.specs.Bank.{home, bank}
use Rattle.table.specs.Limits.{sizes_fit}
use Rattle.table.specs.Reference.{State}
use Rattle.table.specs.Rules.{Rules}
use Rattle.table.specs.View.{view, tabulate}
use Rattle.lookup.specs.Forwarding.{seen, distance}
use Rattle.lookup.specs.Violation.{kept_younger}
use Rattle.lookup.specs.Rows.{touched}
use Rattle.engine.specs.Conditions.{refusal}
use Rattle.engine.specs.Contract.{refused, done}
use Rattle.engine.specs.Opening.{opening}
use Rattle.engine.proofs.Opening.{no_rules}
use Rattle.buffer_model.specs.Answers.{Answer}
use Rattle.buffer_model.specs.Refusals.{open_checks}
use Rattle.buffer_model.specs.Calls.{respond}
use Rattle.buffer_model.specs.Examples.{Turn, Example, played, answered, Session, over, goes, lends, Shown, AllShown}
use Rattle.buffer_model.specs.Examples.{examples}
use Rattle.buffer_model.specs.Edges.{openings, calls}
use Rattle.buffer_model.specs.PartStores.{part_stores}
use Rattle.buffer_model.specs.Distances.{distances}
use Rattle.buffer_model.specs.SameWords.{same_words}

session_played : {t : Table} {m : List ℕ} {turns : List Turn} {answers : List Answer} → Rules t
    → Session t m turns answers → answers ≡ played (view t) m turns
unfolding played
session_played rules over = refl
session_played rules (goes {turns = turns} meets rest) =
    ap₂ ◌∷◌ (meets.answer rules)
    (session_played (meets.lawful rules) rest
    ∙ ap₂ (λ (P : State) (m : List ℕ). played P m turns) (meets.state rules) (meets.memory rules))
session_played rules (lends {m = m} {turns = turns} meets rest) =
    ap₂ ◌∷◌ (meets.answer rules)
    (session_played (meets.lawful rules) rest ∙ ap (λ (P : State). played P m turns) (meets.state rules))

session_broken : {t : Table} {m : List ℕ} {turns : List Turn} {answers : List Answer} → (Rules t → ⊥)
    → Session t m turns answers → answers ≡ map (λ (turn : Turn). refused 2) turns
session_broken broken over = refl
session_broken broken (goes meets rest) =
    let same = meets.broken broken in
    ap₂ ◌∷◌ same.0 (session_broken (λ rules. broken (subst Rules same.1 rules)) rest)
session_broken broken (lends meets rest) =
    let same = meets.broken broken in
    ap₂ ◌∷◌ same.0 (session_broken (λ rules. broken (subst Rules same.1 rules)) rest)

shown : (e : Example) → answered e ≡ e.answers → Shown e
shown e computed said t answers opens session = go (eqb k 0) refl ∙ computed
  where
    k : ℕ
    k = refusal (open_checks e.banks e.rows e.stages e.words e.memory)

    P : State
    P = opening e.banks e.rows e.stages e.words

    go : (b : Bool) → eqb k 0 ≡ b
        → said ∷ answers
        ≡ cond b (done ∷ played P e.memory e.turns) (refused k ∷ map (λ (turn : Turn). refused 2) e.turns)
    go true z =
        let none : k ≡ 0 = eqb-true k 0 z in
        let made = opens.state none in
        ap₂ ◌∷◌ (opens.opens none).0
        (session_played made.0 session ∙ ap (λ (Q : State). played Q e.memory e.turns) made.1)
    go false z =
        let was = opens.refuses k (eqb-false k 0 z) refl in
        ap₂ ◌∷◌ was.0 (session_broken (λ rules. no_rules (subst Rules was.1 rules)) session)

-- an equation of lists is one of each row
each : (rows : List Example) → map answered rows ≡ map (λ e. e.answers) rows → AllShown rows
each [] h = tt
each (e ∷ rows) h = (shown e cc, each rows cc)

pub starred : AllShown (examples ++ openings ++ calls ++ part_stores ++ distances ++ same_words)
unfolding examples openings calls part_stores distances same_words played respond sizes_fit tabulate seen distance kept_younger
    touched count last home bank
starred = each (examples ++ openings ++ calls ++ part_stores ++ distances ++ same_words) refl
