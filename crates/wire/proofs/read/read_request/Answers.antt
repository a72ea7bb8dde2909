use Rattle.std.proofs.Common.{rules}
use Rattle.wire.specs.Requests.{read_request, request_refusal}
use Rattle.wire.proofs.RequestsBack.{syncs_read_back, acks_read_back}
use Rattle.wire.proofs.read.read_request.Goals as goal

pub returns : goal.returns
unfolding read_request request_refusal
returns c = record { said = search rules; list = search rules; syncs = syncs_read_back; acks = acks_read_back }
