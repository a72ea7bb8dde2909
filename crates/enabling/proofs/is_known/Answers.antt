use Rattle.std.proofs.Common.{rules, eqb, refl, sym, ◌∙◌, arith}
use Rattle.std.proofs.lemmas.Iterator.{YieldsList-from_range}
use Rattle.std.proofs.lemmas.Iterator.Consumers.{YieldsList-at, YieldsList-from_filter_map}
use Rattle.std.proofs.lemmas.Iterator.Search.{any_from_yields_List}
use Rattle.event.specs.Sources.{ids}
use Rattle.board.specs.Boards.{at}
use Rattle.board.proofs.Rereads.{length_ids}
use Rattle.enabling.proofs.Present.{known_places}
use Rattle.enabling.proofs.is_known.Goals as goal

pub returns : goal.returns
returns g c =
    let told = g.B.Board.told c.args.board.now in
    any_from_yields_List (λ u. eqb c.args.identifier u.identifier) _ _ c.any.result c.any.ensures.ran
    (YieldsList-from_filter_map _ (at (ids told)) (YieldsList-at c.filter_map.ensures.source (YieldsList-from_range 0 c.count.result c.count.result refl (omega arith))) c.filter_map.ensures.closure (λ x r q k. search rules))
    (λ x b q k. search rules)
    ∙ known_places c.args.identifier (ids told) c.count.result (c.count.ensures ∙ sym (length_ids told))
