use Rattle.std.proofs.Common.{rules}
use Rattle.crossing.proofs.output.show_list.Goals as goal

pub returns-in-Err-clause-overflow : goal.returns-in-Err-clause-overflow
returns-in-Err-clause-overflow c = search rules
