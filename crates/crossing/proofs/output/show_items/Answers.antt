use Rattle.std.proofs.Common.{◌+◌, List, length, set, ap, ◌∙◌, arith}
use Rattle.wire.specs.View.{left}
use Rattle.crossing.specs.declared.types.Switch.{Switch}
use Rattle.crossing.specs.Reading.{with_items}
use Rattle.crossing.proofs.Shown.{item_more, item_end, items-few}
use Rattle.crossing.proofs.output.show_items.Goals as goal

pub overflow_add-at : goal.overflow_add-at
overflow_add-at c =
    let few = items-few c.args.items.number c.args.items.rest.now in
    let more = ap length c.in-Some.ensures.steps in
    omega arith

pub loop-item-preserved : goal.loop-item-preserved
loop-item-preserved c =
    let switches = c.loop-item.switches in
    let at = c.loop-item.at in
    let rest = left c.next.new.self in
    let more = ap length c.in-Some.ensures.steps in (
      ap (λ (ss : List Switch). with_items ss (at + 1) rest) (c.put_switch.ensures ∙ ap (λ (s : Switch). set switches at s) c.of.ensures)
          ∙ item_more switches at c.in-Some.item rest (left c.loop-item.item-iterator) c.in-Some.ensures.steps
          ∙ c.loop-item.invariant.0,
      omega arith,
    )

pub returns-clause-switches : goal.returns-clause-switches
returns-clause-switches c = item_end c.loop-item.switches c.loop-item.at (left c.loop-item.item-iterator) c.in-None.ensures.steps.0 ∙ c.loop-item.invariant.0
