use Rattle.std.proofs.Common.{refl}
use Rattle.endpoint.proofs.types.Endpoint.request.Goals as goal

pub work-requires : goal.work-requires
work-requires g c = refl
