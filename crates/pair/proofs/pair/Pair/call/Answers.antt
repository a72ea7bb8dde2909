use Rattle.std.proofs.Common.{length}
use Rattle.pair.specs.View.{pair_in, call_to}
use Rattle.pair.proofs.Fairness.{keeps_one}
use Rattle.pair.proofs.pair.Pair.call.Goals as goal

pub returns : goal.returns
returns g c =
    let p = pair_in g.B.Board.told g.C.Carrier.carried c.args.self.now in
    let call = call_to p (length c.args.buffer.now) c.args.call in
    record { steps = c.step.ensures; kept = keeps_one p _ call c.step.ensures.pair }
