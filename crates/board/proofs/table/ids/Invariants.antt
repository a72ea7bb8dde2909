-- the unique IDs of the rows that were passed
use Rattle.std.proofs.Common.{◌≡◌, map, take}
use Rattle.board.proofs.table.ids.Given as goal

abbrev pub invariant-loop-row : goal.invariant-loop-row
invariant-loop-row l = l.ids.items ≡ map (λ row. row.id) (take l.row-index l.rows)
