use Rattle.std.proofs.Common.{◌≡◌, length, take}
use Rattle.crossing.specs.Crossing.{items_told}
use Rattle.crossing.proofs.input.told_items.Given as goal

-- those so far are told
abbrev pub invariant-loop-i : goal.invariant-loop-i
invariant-loop-i l = (take l.i l.items ≡ items_told (take l.i l.switches)) × (length l.items ≡ 65)
