use Rattle.promises.proofs.runs_obey_laws.Goals as goal
use Rattle.promises.proofs.Laws.{laws_of_runs}

pub returns : goal.returns
returns c = laws_of_runs
