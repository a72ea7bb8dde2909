use Rattle.std.proofs.Common.{◌≡◌, map, take}
use Rattle.event.specs.View.{occurrence_of}
use Rattle.crossing.specs.Crossing.{row_kept}
use Rattle.crossing.proofs.input.told_rows.Given as goal

-- those so far are told
abbrev pub invariant-loop-row : goal.invariant-loop-row
invariant-loop-row l = map occurrence_of l.told.items ≡ map row_kept (take l.row-index l.rows)
