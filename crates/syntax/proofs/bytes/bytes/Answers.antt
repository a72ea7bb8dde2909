use Rattle.std.proofs.Common.{rules}
use Rattle.syntax.proofs.bytes.bytes.Goals as goal

pub returns-then-is_dash-clause-none : goal.returns-then-is_dash-clause-none
returns-then-is_dash-clause-none c = search rules

pub returns-clause-said : goal.returns-clause-said
returns-clause-said c = search rules
