use Rattle.std.proofs.Common.{rules}
use Rattle.carrier.proofs.mailbox.MailboxCarrier.is_up.Goals as goal

pub returns : goal.returns
returns c = search rules
