use Rattle.std.proofs.Common.{rules}
use Rattle.syntax.proofs.number.decimal.Goals as goal

pub returns : goal.returns
returns g c = search rules
