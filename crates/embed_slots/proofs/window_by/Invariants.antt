-- `embed_slots::window_by` meets its contract. The loop's invariant: the places passed are `entry_by` of the window's.
-- Assumes nothing.
use Rattle.std.proofs.Common.{◌≡◌, length, map, take}
use Rattle.table.specs.Limits.{stages_most}
use Rattle.embed_image.specs.Slots.{entry_by}
use Rattle.embed_slots.proofs.window_by.Given as goal

abbrev pub invariant-loop-i : goal.invariant-loop-i
invariant-loop-i l = (length l.entries ≡ stages_most) × (take l.i l.entries ≡ map entry_by (take l.i l.w))
