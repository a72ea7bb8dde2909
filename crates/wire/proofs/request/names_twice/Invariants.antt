use Rattle.std.proofs.Common.{◌≡◌, take}
use Rattle.wire.specs.Writing.{identifiers}
use Rattle.wire.proofs.request.names_twice.Given as goal

-- the row has the identifiers of the items so far
abbrev pub invariant-loop-item : goal.invariant-loop-item
invariant-loop-item l = l.row.items ≡ identifiers (take l.item-index l.items)
