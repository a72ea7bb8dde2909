use Rattle.std.proofs.Common.{leb, rules, tests, ◌∙◌}
use Rattle.std.proofs.lemmas.Iterator.{YieldsList-from_slice}
use Rattle.std.proofs.lemmas.Iterator.Search.{all_from_yields_List}
use Rattle.crossing.proofs.Short.{each_short}
use Rattle.crossing.proofs.input.all_short.Goals as goal

pub returns : goal.returns
returns c =
    all_from_yields_List (λ row. leb row.length 64) _ _ _ c.all.ensures.ran (YieldsList-from_slice c.args.rows.now cc) (λ x b q k. search (rules, tests))
    ∙ each_short c.args.rows.now
