use Rattle.std.proofs.Common.{◌≡◌, ◌++◌}
use Rattle.event.specs.Sources.{ids}
use Rattle.list.specs.View.{left}
use Rattle.list.proofs.read.has_id_twice.Given as goal

-- the IDs that are gathered, and those of what is left, are those of the list
abbrev pub invariant-loop-occurrence : goal.invariant-loop-occurrence
invariant-loop-occurrence l = l.ids.items ++ ids (left l.occurrence-iterator) ≡ ids (left l.list)
