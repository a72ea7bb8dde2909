use Rattle.std.proofs.Common.{rules}
use Rattle.crossing.proofs.outcome.hand_out.Goals as goal

pub returns-in-Err-clause-count : goal.returns-in-Err-clause-count
returns-in-Err-clause-count c = search rules
