-- A table that keeps its rules, with arrays of their lengths, fits its sizes.
-- Assumes nothing.
use mathlib.Core.Bool.{true}
use mathlib.Core.Path.{◌≡◌}
use Rattle.table.specs.declared.Table.{Table}
use Rattle.table.specs.Fits.{Lengths, Fits}
use Rattle.table.specs.Rules.{Rules}
use Rattle.table.specs.Computed.Check.{lawful}
use Rattle.table.proofs.Sizes.{sizes}
use Rattle.table.proofs.Lawful.{lawful_rules}

pub rules_fit : (t : Table) → Rules t → Lengths t → Fits t
rules_fit t rules lengths =
    let s = sizes t.banks t.rows t.stages t.words rules.sizes in
    record {
      lengths = lengths;
      some_bank = s.some_bank;
      banks = s.banks;
      some_row = s.some_row;
      rows = s.rows;
      oldest = rules.start;
      live = rules.live_bounded;
      stages = s.stages;
    }

pub lawful_fit : (t : Table) → lawful t ≡ true → Lengths t → Fits t
lawful_fit t e lengths = rules_fit t (lawful_rules t e) lengths
