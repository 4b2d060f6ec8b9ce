-- `embed_slots::window_of` meets its contract. The loop's invariant: the places passed are `slot_of` of the window's.
-- Assumes nothing.
use Rattle.std.proofs.Common.{◌≡◌, length, map, take}
use Rattle.table.specs.Limits.{stages_most}
use Rattle.embed_image.specs.Slots.{slot_of}
use Rattle.embed_slots.proofs.window_of.Given as goal

abbrev pub invariant-loop-i : goal.invariant-loop-i
invariant-loop-i l = (length l.slots ≡ stages_most) × (take l.i l.slots ≡ map slot_of (take l.i l.w))
