use Rattle.std.proofs.Common.{rules}
use Rattle.promises.proofs.Laws.{laws_of_runs}
use Rattle.endpoint.proofs.types.Endpoint.new.Goals as goal

pub returns : goal.returns
returns c = record { new = search rules; laws = laws_of_runs }
