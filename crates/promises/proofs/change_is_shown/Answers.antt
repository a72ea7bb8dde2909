use Rattle.promises.proofs.change_is_shown.Goals as goal
use Rattle.promises.proofs.Cases.{change-is-shown}

pub returns : goal.returns
returns c = change-is-shown
