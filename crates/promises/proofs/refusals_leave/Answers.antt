use Rattle.promises.proofs.refusals_leave.Goals as goal
use Rattle.promises.proofs.Refused.{refusals-leave}

pub returns : goal.returns
returns c = refusals-leave
