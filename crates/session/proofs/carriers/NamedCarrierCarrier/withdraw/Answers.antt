use Rattle.std.proofs.Common.{rules}
use Rattle.session.proofs.carriers.NamedCarrierCarrier.withdraw.Goals as goal

pub returns-in-Mailbox : goal.returns-in-Mailbox
returns-in-Mailbox c = search rules
