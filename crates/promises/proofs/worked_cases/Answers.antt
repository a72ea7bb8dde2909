use Rattle.promises.proofs.worked_cases.Goals as goal
use Rattle.promises.proofs.Cases.{worked-cases}

pub returns : goal.returns
returns c = worked-cases
