use Rattle.std.proofs.Common.{map, ap, ◌∙◌}
use Rattle.crossing.specs.Crossing.{row_kept}
use Rattle.crossing.proofs.Firsts.{ended}
use Rattle.crossing.proofs.input.told_rows.Goals as goal

pub returns : goal.returns
returns c = c.loop-row.invariant ∙ ap (map row_kept) (ended c.args.rows.now c.min.result c.loop-row.row-index c.min.ensures c.loop-row-test.false)
