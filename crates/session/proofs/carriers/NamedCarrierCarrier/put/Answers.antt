use Rattle.std.proofs.Common.{rules}
use Rattle.session.proofs.carriers.NamedCarrierCarrier.put.Goals as goal

pub returns-in-Mailbox-clause-taken : goal.returns-in-Mailbox-clause-taken
returns-in-Mailbox-clause-taken c = search rules

pub returns-in-Mailbox-clause-after : goal.returns-in-Mailbox-clause-after
returns-in-Mailbox-clause-after c = search rules
