use Rattle.std.proofs.Common.{rules}
use Rattle.carrier.proofs.Carrier.lose.Goals as goal

pub returns : goal.returns
returns g c = search rules
