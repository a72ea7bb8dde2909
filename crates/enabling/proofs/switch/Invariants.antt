use Rattle.std.proofs.Common.{◌≡◌}
use Rattle.event.specs.Sources.{ids}
use Rattle.protocol.specs.Endpoint.{enabling}
use Rattle.wire.specs.View.{left}
use Rattle.enabling.proofs.switch.Given as goal

-- what is left to apply gives what the whole gives
abbrev pub invariant-loop-item : goal.invariant-loop-item
invariant-loop-item g l = enabling (ids (g.B.Board.told l.board)) (left l.item-iterator) l.words ≡ enabling (ids (g.B.Board.told l.board)) (left l.fn.items) l.fn.set
