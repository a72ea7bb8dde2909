use Rattle.std.proofs.Common.{rules}
use Rattle.crossing.proofs.input.is_set.Goals as goal

pub returns : goal.returns
returns c = search rules
