-- `lookup_rows::place_of` meets its contract: the row is one of the table's, whatever is found (place_row). Assumes nothing.
use Prim.Native.Nat.{◌<◌}
use native.Mathlib.Omega.{arith}
use borrow.Author.Rules.{rules}
use Rattle.table.specs.Limits.{banks_most}
use Rattle.table.proofs.Sizes.{bank_lt}
use Rattle.lookup.proofs.Rowed.{place_row}
use Rattle.lookup_rows.proofs.place_of.Goals as goal
use Rattle.lookup_rows.proofs.place_of.Goals.{After-bank_of-b}

bank_at : (c : After-bank_of-b) → c.bank_of-b.result < banks_most
bank_at c =
    let t = c.args.t.now in
    omega (arith, c.bank_of-b.ensures, bank_lt t.banks c.args.a c.requires.banks.0, c.requires.banks.1)

pub row_of-requires : goal.row_of-requires
row_of-requires c = (c.requires.banks.2, bank_at c)

pub take_row-requires-clause-bank : goal.take_row-requires-clause-bank
take_row-requires-clause-bank c = (c.requires.banks.2, bank_at (goal.at.take_row-requires-clause-bank c).After-bank_of-b)

pub overflow_mul-result : goal.overflow_mul-result
overflow_mul-result c = let b = bank_at (goal.at.overflow_mul-result c).After-bank_of-b in search rules

pub overflow_add-result : goal.overflow_add-result
overflow_add-result c = let b = bank_at (goal.at.overflow_add-result c).After-bank_of-b in search rules

pub returns-in-Some-clause-within : goal.returns-in-Some-clause-within
returns-in-Some-clause-within c =
    let b = bank_at (goal.at.returns-in-Some-clause-within c).After-bank_of-b in
    omega (arith, b, c.in-Some.ensures.within, c.requires.banks.2)

pub returns-in-None-clause-within : goal.returns-in-None-clause-within
returns-in-None-clause-within c =
    let t = c.args.t.now in
    let b = bank_at (goal.at.returns-in-None-clause-within c).After-bank_of-b in
    let small = place_row t.oldest t.stages t.live t.rows t.addresses t.loads t.stores c.bank_of-b.result c.args.a c.args.p b
    c.requires.banks.2 in
    rw c.take_row.ensures (rw (← c.in-None.ensures.found) at small)
