use Rattle.std.proofs.Common.{eqb, sym, ◌∙◌, rules, tests}
use Rattle.std.proofs.lemmas.Iterator.{YieldsList-from_slice}
use Rattle.std.proofs.lemmas.Iterator.Search.{position_from_yields_List}
use Rattle.syntax.proofs.Cuts.{uncommented-found, uncommented-none}
use Rattle.syntax.proofs.words.before_comment.Goals as goal

pub returns-in-Some : goal.returns-in-Some
returns-in-Some c =
    uncommented-found c.args.line.now c.in-Some.end
    (sym c.in-Some.is ∙ position_from_yields_List (λ b. eqb b 35) _ _ c.position.result c.position.ensures.ran (YieldsList-from_slice c.args.line.now cc) (λ x b q k. search (rules, tests)))

pub returns-in-None : goal.returns-in-None
returns-in-None c =
    uncommented-none c.args.line.now
    (sym c.in-None.is ∙ position_from_yields_List (λ b. eqb b 35) _ _ c.position.result c.position.ensures.ran (YieldsList-from_slice c.args.line.now cc) (λ x b q k. search (rules, tests)))
