use Rattle.std.proofs.Common.{rules}
use Rattle.syntax.proofs.number.decimal_at_most.Goals as goal

pub returns : goal.returns
returns c = search rules
