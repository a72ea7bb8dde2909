use Rattle.std.proofs.Common.{sym, ◌∙◌}
use Rattle.std.proofs.lemmas.List.{length-map}
use Rattle.event.specs.View.{occurrence_of}
use Rattle.board.proofs.table.TableBoardBoard.count.Goals as goal

pub returns : goal.returns
returns c = c.len.ensures.value ∙ sym (length-map c.args.self.now.rows.items occurrence_of)
