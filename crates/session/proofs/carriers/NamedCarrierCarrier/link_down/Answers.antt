use Rattle.std.proofs.Common.{rules}
use Rattle.session.proofs.carriers.NamedCarrierCarrier.link_down.Goals as goal

pub returns-in-Mailbox : goal.returns-in-Mailbox
returns-in-Mailbox c = search rules
