use Rattle.promises.proofs.sync_starts_anew.Goals as goal
use Rattle.promises.proofs.Anew.{sync-starts-anew}
use Rattle.wire.proofs.MessagesBack.{events_read_back, answers_read_back}

pub returns : goal.returns
returns c = sync-starts-anew events_read_back answers_read_back
