use Rattle.std.proofs.Common.{◌+◌, get_or, length, drop, ap, ◌∙◌}
use Rattle.wire.specs.Writing.{writes_event}
use Rattle.marks.specs.View.{occurrences_in}
use Rattle.measured.specs.Runs.{run, writes}
use Rattle.measured.proofs.Calls.{ran, write_more, write_end}
use Rattle.measured.proofs.runs.write_all.Goals as goal

pub loop-transmission-preserved : goal.loop-transmission-preserved
loop-transmission-preserved g c =
    let os = occurrences_in g.B.Board.told c.args.marked.now in
    let ts = c.args.transmissions.now in
    let i = c.loop-transmission.transmission-index in
    let before = c.loop-transmission.buffer in
    ap (writes os (drop (i + 1) ts)) (ran (writes_event (length before) (get_or ts i 0) os) before c.write_event-last.new.buffer c.write_event-last.result c.write_event-last.ensures.wrote)
    ∙ write_more os ts i c.loop-transmission.last before c.loop-transmission-test.true
    ∙ c.loop-transmission.invariant

pub returns : goal.returns
returns g c =
    write_end (occurrences_in g.B.Board.told c.args.marked.now) c.args.transmissions.now c.loop-transmission.transmission-index (run c.loop-transmission.last c.loop-transmission.buffer) c.loop-transmission-test.false
    ∙ c.loop-transmission.invariant
