use Rattle.std.proofs.Common.{arith}
use Rattle.std.proofs.lemmas.Bool.Decides.{nat_tests}
use Rattle.list.specs.Lists.{over}
use Rattle.marks.proofs.types.Marked.overflows.Goals as goal

pub returns : goal.returns
unfolding over
returns g c = grind (arith, nat_tests)
