-- The number that crosses: 2 of a table that breaks the rules, else that of the first of the call's conditions that holds, and 0
-- where none does. So 0 says that the call was accepted. Assumes nothing.
use mathlib.Core.Path.{◌≡◌, refl, sym, ap, ◌∙◌}
use mathlib.Core.Bool.{Bool, true, false}
use mathlib.Core.List.{List}
use mathlib.Core.Option.{none, some}
use Prim.Native.Nat.{ℕ}
use lib.Dec.{eqb}
use borrow.Author.Tests.{eqb-true, eqb-false}
use Rattle.table.specs.declared.Table.{Table}
use Rattle.table.specs.Rules.{Rules}
use Rattle.table.specs.View.{view}
use Rattle.engine.specs.Conditions.{refusal}
use Rattle.engine.specs.Contract.{refused, done, named, executed, committed, finished}
use Rattle.engine.proofs.Meeting.{Accepts}
use Rattle.engine.proofs.Numbered.{zero_accepts, broken_number, first_number}
use Rattle.buffer_model.specs.Answers.{Answer}
use Rattle.buffer_model.specs.Refusals.{open_checks}
use Rattle.buffer_model.specs.Calls.{Call, checks_of}
use Rattle.buffer_model.specs.Contract.{Meets}
use Rattle.buffer_model.proofs.Ordered.{decides}
use Rattle.embed.specs.declared.Done.{Done}
use Rattle.embed.specs.Crossing.{numbers_of, Starts}

abbrev pub number : Answer → ℕ
number said = (numbers_of said).refusal

accepted_zero : (said : Answer) → Accepts said → number said ≡ 0
accepted_zero (refused k) ok = absurd ok
accepted_zero done ok = refl
accepted_zero (named τ) ok = refl
accepted_zero (executed v d none) ok = refl
accepted_zero (executed v d (some τ)) ok = refl
accepted_zero (committed i c r v d) ok = refl
accepted_zero (finished n) ok = refl

module _ (t : Table) (c : Call) (m : List ℕ) {said : Answer} {u : Table} {v : List ℕ} (meets : Meets t c m said u v) where
  pub number_crosses : Rules t → number said ≡ refusal (checks_of c (view t) m)
  number_crosses rules = first_number (decides t c m meets) number (λ k. refl) accepted_zero rules

  pub broken_crosses : (Rules t → ⊥) → number said ≡ 2
  broken_crosses breaks = broken_number (decides t c m meets) number (λ k. refl) accepted_zero breaks

  pub zero_accepted : number said ≡ 0 → Accepts said
  zero_accepted z = zero_accepts (decides t c m meets) number (λ k. refl) accepted_zero z

-- the same of an opening
pub opening_crosses : (banks rows stages words : ℕ) (m : List ℕ) {r : Done} → Starts banks rows stages words m r
    → r.refusal ≡ refusal (open_checks banks rows stages words m)
opening_crosses banks rows stages words m started = started.numbers_are ∙ go (eqb k 0) refl
  where
    k : ℕ
    k = refusal (open_checks banks rows stages words m)

    go : (b : Bool) → eqb k 0 ≡ b → number started.said ≡ k
    go true e = let z = eqb-true k 0 e in ap number (started.opens.opens z).0 ∙ sym z
    go false e = ap number (started.opens.refuses k (eqb-false k 0 e) refl).0
