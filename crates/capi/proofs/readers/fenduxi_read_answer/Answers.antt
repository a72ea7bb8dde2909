use Rattle.wire.specs.Messages.{read_answer}
use Rattle.wire.specs.View.{reads_by, answer_in}
use Rattle.capi.proofs.Read.{shown}
use Rattle.capi.proofs.readers.fenduxi_read_answer.Goals as goal

pub returns : goal.returns
returns c =
    shown (reads_by c.read_answer.result) (answer_in (read_answer c.args.bytes.now)) c.args.head.now c.show.new.head c.args.switches.now c.show.new.switches c.args.rows.now c.show.new.rows
    c.show.result c.read_answer.ensures.said c.show.ensures
