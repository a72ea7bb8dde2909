use Rattle.std.proofs.Common.{arith}
use Rattle.event.specs.View.{occurrence_of}
use Rattle.list.specs.View.{left}
use Rattle.list.proofs.Steps.{fronts-few, gathered_count}
use Rattle.list.proofs.read.has_id_twice.Goals as goal

pub push-requires : goal.push-requires
push-requires c =
    let l = c.args.list in
    let few = fronts-few l.number l.rest.now in
    let n = gathered_count c.loop-occurrence.ids.items (left l) (left c.loop-occurrence.occurrence-iterator) _ (occurrence_of c.in-Some.occurrence) c.loop-occurrence.invariant c.in-Some.ensures.steps in
    (omega arith, omega arith)
