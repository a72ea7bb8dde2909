use Rattle.wire.specs.Messages.{read_event}
use Rattle.wire.specs.View.{reads_by, event_in}
use Rattle.capi.proofs.Read.{shown}
use Rattle.capi.proofs.readers.fenduxi_read_event.Goals as goal

pub returns : goal.returns
returns c =
    shown (reads_by c.read_event.result) (event_in (read_event c.args.bytes.now)) c.args.head.now c.show.new.head c.args.switches.now c.show.new.switches c.args.rows.now c.show.new.rows
    c.show.result c.read_event.ensures.said c.show.ensures
