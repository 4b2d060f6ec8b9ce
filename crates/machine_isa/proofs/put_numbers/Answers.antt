-- `machine_isa::put_numbers` meets its contract: what it copies stands where the stores of `sets` put it, one after the other.
-- Assumes nothing.
use Rattle.std.proofs.Common.{rules}
use Rattle.std.proofs.lemmas.List.Edits.{sets-eq}
use Rattle.std.proofs.lemmas.Grind.{common_steps}
use Rattle.machine_isa.proofs.put_numbers.Goals as goal

pub returns : goal.returns
returns c =
    let args = c.args in
    let same = c.copy_from_slice.ensures.after in
    rw (sets-eq args.numbers.now args.list.now args.at c.requires, same) (search (rules, common_steps))
