use Rattle.std.proofs.Common.{rules}
use Rattle.pair.proofs.pair.Pair.end.Goals as goal

pub returns : goal.returns
returns g c = search rules
