-- `machine_window::Held::destinations` meets its contract. The loop's invariant: `into` has the destinations of the q entries
-- passed. Assumes nothing.
use Rattle.std.proofs.Common.{◌≡◌, ℕ, ◌<◌, length, get_or}
use Rattle.table.specs.Limits.{stages_most}
use Rattle.machine_laws.specs.Computed.Parts.{destination_at}
use Rattle.machine_window.proofs.Held.destinations.Given as goal

abbrev pub invariant-loop-q : goal.invariant-loop-q
invariant-loop-q l =
    let h = l.self in
    (length l.into ≡ stages_most)
    × ((j : ℕ) → j < l.q → get_or l.into j 0 ≡ destination_at h.window.now h.circle.oldest h.circle.stages j)
