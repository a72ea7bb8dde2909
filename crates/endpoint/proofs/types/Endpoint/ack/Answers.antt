use Rattle.std.proofs.Common.{rules}
use Rattle.event.specs.Sources.{ids}
use Rattle.endpoint.proofs.Asked.{none_over}
use Rattle.endpoint.proofs.types.Endpoint.ack.Goals as goal

pub returns-in-Off : goal.returns-in-Off
returns-in-Off g c = let quiet = none_over (ids (g.B.Board.told c.args.board.now)) in search rules
