use Rattle.std.proofs.Common.{rules}
use Rattle.measured.proofs.rounds.choose.Goals as goal

pub returns-then-number-eq0 : goal.returns-then-number-eq0
returns-then-number-eq0 c = search rules

pub returns-else-number-eq0 : goal.returns-else-number-eq0
returns-else-number-eq0 c = search rules
