use Rattle.std.proofs.Common.{◌≡◌, ◌^◌, length, sym, ◌∙◌, arith, rules}
use borrow.Author.Tests.{tests}
use Rattle.std.proofs.lemmas.Iterator.{YieldsList-from_range}
use Rattle.std.proofs.lemmas.Iterator.Consumers.{YieldsList-from_filter_map, sum_from_yields_List, fits_from_yields_list}
use Rattle.event.specs.Sources.{ids}
use Rattle.board.proofs.Rereads.{length_ids, few_sources}
use Rattle.marks.specs.View.{marks_of}
use Rattle.marks.proofs.Sizes.{size, sizes, body-short}
use Rattle.marks.proofs.types.Marked.body_length.Goals as goal

pub sum-requires-clause-fits : goal.sum-requires-clause-fits
sum-requires-clause-fits g c =
    let told = g.B.Board.told c.args.self.now.board.now in
    let m = c.args.self.now.marks.now in
    let n : c.count.result ≡ length (ids told) = c.count.ensures ∙ sym (length_ids told) in
    let few = few_sources told (g.met.B.Board.lawful c.args.self.now.board.now) in
    fits_from_yields_list c.filter_map.result (2 ^ 64)
    (YieldsList-from_filter_map _ (λ place. size (marks_of m place)) (YieldsList-from_range 0 c.count.result (length (ids told)) c.filter_map.ensures.source (omega arith)) c.filter_map.ensures.closure (λ x r q k. search (rules, tests)))
    (omega (arith, sizes (ids told) 0 (marks_of m), body-short (ids told) 0 m, length_ids told))

pub returns : goal.returns
returns g c =
    let told = g.B.Board.told c.args.self.now.board.now in
    let m = c.args.self.now.marks.now in
    let n : c.count.result ≡ length (ids told) = c.count.ensures ∙ sym (length_ids told) in
    sum_from_yields_List _ _ c.sum.ensures.ran
    (YieldsList-from_filter_map _ (λ place. size (marks_of m place)) (YieldsList-from_range 0 c.count.result (length (ids told)) c.filter_map.ensures.source (omega arith)) c.filter_map.ensures.closure (λ x r q k. search (rules, tests)))
    ∙ sizes (ids told) 0 (marks_of m)
