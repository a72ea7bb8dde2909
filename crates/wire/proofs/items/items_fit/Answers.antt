use Rattle.std.proofs.Common.{refl, ◌∙◌, ap₂, eqb}
use Rattle.std.proofs.lemmas.Iterator.Consumers.{YieldsList-from_first, count_from_yields_List}
use Rattle.wire.specs.View.{left}
use Rattle.wire.proofs.Stepped.{fit_by_number}
use Rattle.wire.proofs.items.items_fit.Goals as goal

pub returns : goal.returns
returns c =
    let all = count_from_yields_List _ _ c.count.ensures.ran (YieldsList-from_first (λ x. x) left _ refl) in
    ap₂ eqb all c.from.ensures ∙ fit_by_number c.args.number c.args.part.now
