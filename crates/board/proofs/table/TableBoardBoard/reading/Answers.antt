use Rattle.std.proofs.Common.{rules, sym, ap, ◌∙◌}
use Rattle.event.specs.View.{held_if}
use Rattle.board.proofs.Tables.{reading_row, looked}
use Rattle.board.proofs.table.TableBoardBoard.reading.Goals as goal

pub returns : goal.returns
returns c =
    let rows = c.args.self.now.rows.items in
    ap held_if (looked c.get.result c.map.result (λ row. row.reading) rows c.args.place c.deref.ensures.0 c.get.ensures.lookup c.map.ensures.cases (λ x y q. search rules))
    ∙ sym (reading_row rows c.args.place)
