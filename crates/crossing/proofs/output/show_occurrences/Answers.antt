use Rattle.std.proofs.Common.{◌+◌, List, length, set, ap, ◌∙◌, arith}
use Rattle.event.specs.View.{occurrence_of}
use Rattle.list.specs.View.{left}
use Rattle.list.proofs.Steps.{fronts-few}
use Rattle.crossing.specs.declared.types.Row.{Row}
use Rattle.crossing.specs.Reading.{with_rows}
use Rattle.crossing.proofs.Shown.{row_more, row_end}
use Rattle.crossing.proofs.output.show_occurrences.Goals as goal

pub overflow_add-at : goal.overflow_add-at
overflow_add-at c =
    let few = fronts-few c.args.list.number c.args.list.rest.now in
    let more = ap length c.in-Some.ensures.steps in
    omega arith

pub loop-occurrence-preserved : goal.loop-occurrence-preserved
loop-occurrence-preserved c =
    let rows = c.loop-occurrence.rows in
    let at = c.loop-occurrence.at in
    let rest = left c.next.new.self in
    let more = ap length c.in-Some.ensures.steps in (
      ap (λ (rs : List Row). with_rows rs (at + 1) rest) (c.put_row.ensures ∙ ap (λ (r : Row). set rows at r) c.of.ensures)
          ∙ row_more rows at (occurrence_of c.in-Some.occurrence) rest (left c.loop-occurrence.occurrence-iterator) c.in-Some.ensures.steps
          ∙ c.loop-occurrence.invariant.0,
      omega arith,
    )

pub returns-clause-rows : goal.returns-clause-rows
returns-clause-rows c = row_end c.loop-occurrence.rows c.loop-occurrence.at (left c.loop-occurrence.occurrence-iterator) c.in-None.ensures.steps.0 ∙ c.loop-occurrence.invariant.0
