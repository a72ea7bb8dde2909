use Rattle.std.proofs.Common.{rules}
use Rattle.session.proofs.session.Session.new.Goals as goal

pub returns-clause-pair : goal.returns-clause-pair
returns-clause-pair c = search rules
