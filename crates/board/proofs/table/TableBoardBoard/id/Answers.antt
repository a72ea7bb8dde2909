use Rattle.std.proofs.Common.{rules, sym, ◌∙◌}
use Rattle.board.proofs.Tables.{id_row, looked}
use Rattle.board.proofs.table.TableBoardBoard.id.Goals as goal

pub returns : goal.returns
returns c =
    let rows = c.args.self.now.rows.items in
    looked c.get.result c.map.result (λ row. row.id) rows c.args.place c.deref.ensures.0 c.get.ensures.lookup c.map.ensures.cases (λ x y q. search rules)
    ∙ sym (id_row rows c.args.place)
