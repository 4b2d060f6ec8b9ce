-- `lookup_rows::row_opened` meets its contract. The loop's invariant: the search below the bank's rows finds what the search
-- below `i` finds (Opening). The marks of a row have stage `s` and none of the older stages exactly where its oldest mark is at
-- position `q`. Assumes nothing.
use Rattle.lookup.proofs.Tail.{Opening}
use Rattle.lookup_rows.proofs.row_opened.Given as goal

abbrev pub invariant-loop-i : goal.invariant-loop-i
invariant-loop-i l =
    let t = l.t in
    Opening t.oldest t.stages t.live t.rows t.loads t.stores l.b l.q l.older l.s l.i
