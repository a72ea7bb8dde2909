use Rattle.std.proofs.Common.{rules, tests, ◌∙◌}
use Rattle.std.proofs.lemmas.Iterator.{YieldsList-from_slice}
use Rattle.std.proofs.lemmas.Iterator.Search.{all_from_yields_List}
use Rattle.event.specs.Sources.{lawful_occurrence}
use Rattle.event.specs.View.{occurrence_of}
use Rattle.board.proofs.Tables.{rows_all_lawful}
use Rattle.board.proofs.table.all_lawful.Goals as goal

pub returns : goal.returns
returns c =
    all_from_yields_List (λ row. lawful_occurrence (occurrence_of row)) _ _ _ c.all.ensures.ran (YieldsList-from_slice c.args.rows.now cc) (λ x b q k. search (rules, tests))
    ∙ rows_all_lawful c.args.rows.now
