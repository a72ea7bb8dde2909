use Rattle.promises.proofs.two_pasts.Goals as goal
use Rattle.promises.proofs.Cases.{two-pasts}

pub returns : goal.returns
returns c = two-pasts
