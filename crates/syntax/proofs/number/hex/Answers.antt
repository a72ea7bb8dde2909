use Rattle.std.proofs.Common.{rules}
use Rattle.syntax.proofs.number.hex.Goals as goal

pub returns : goal.returns
returns g c = search rules
