use Rattle.wire.proofs.MessagesBack.{only-event}
use Rattle.wire.specs.Messages.{read_event}
use Rattle.std.proofs.Common.{rules}
use Rattle.wire.proofs.read.read_event.Goals as goal

pub returns-in_err-read : goal.returns-in_err-read
unfolding read_event
returns-in_err-read c = record { said = search rules; only = only-event }

pub returns : goal.returns
unfolding read_event
returns c = record { said = search rules; only = only-event }
