use Rattle.std.proofs.Common.{rules}
use Rattle.session.proofs.latest.Latest.keep.Goals as goal

pub returns-in_ok-self-in-Hand-clause-request : goal.returns-in_ok-self-in-Hand-clause-request
returns-in_ok-self-in-Hand-clause-request c = search rules
