use Rattle.wire.specs.Requests.{read_request}
use Rattle.wire.specs.View.{reads_by, request_in}
use Rattle.capi.proofs.Read.{shown}
use Rattle.capi.proofs.readers.fenduxi_read_request.Goals as goal

pub returns : goal.returns
returns c =
    shown (reads_by c.read_request.result) (request_in (read_request c.args.bytes.now)) c.args.head.now c.show.new.head c.args.switches.now c.show.new.switches c.args.rows.now c.show.new.rows
    c.show.result c.read_request.ensures.said c.show.ensures
