use Rattle.std.proofs.Common.{◌≡◌, rules}
use Rattle.protocol.specs.Pair.{new_pair}
use Rattle.pair.proofs.Fairness.{came_new}
use Rattle.pair.proofs.pair.Pair.new.Goals as goal

pub returns : goal.returns
returns g c =
    let new : _ ≡ new_pair (g.B.Board.told c.args.board) (g.C.Carrier.carried c.args.carrier) = search rules in
    record { new = new; came = came_new _ _ (g.met.B.Board.lawful c.args.board) _ new }
