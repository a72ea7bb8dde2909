use Rattle.std.proofs.Common.{rules}
use Rattle.event.specs.Sources.{lawful_id}
use Rattle.event.proofs.id.UniqueId.is_lawful.Goals as goal

pub returns-then-lawful_scope : goal.returns-then-lawful_scope
unfolding lawful_id
returns-then-lawful_scope c = search rules

pub returns-else-lawful_scope : goal.returns-else-lawful_scope
unfolding lawful_id
returns-else-lawful_scope c = search rules
