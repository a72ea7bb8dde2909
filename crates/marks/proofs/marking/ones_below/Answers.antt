use Rattle.std.proofs.Common.{rules}
use Rattle.marks.proofs.marking.ones_below.Goals as goal

pub returns : goal.returns
returns c = search rules
