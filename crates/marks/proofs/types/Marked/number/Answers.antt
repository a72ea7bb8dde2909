use Rattle.std.proofs.Common.{◌%◌, ◌^◌, sym, ◌∙◌, div-one, arith}
use lib.Count.{ones}
use Rattle.event.specs.Sources.{ids}
use Rattle.marks.proofs.Shown.{number_is}
use Rattle.board.proofs.Rereads.{length_ids, few_sources}
use Rattle.marks.proofs.types.Marked.number.Goals as goal

pub ones_below-requires : goal.ones_below-requires
ones_below-requires g c =
    let few = few_sources (g.B.Board.told c.args.self.now.board.now) (g.met.B.Board.lawful c.args.self.now.board.now) in
    omega (arith, c.count.ensures)

pub returns : goal.returns
returns g c =
    let told = g.B.Board.told c.args.self.now.board.now in
    let w = c.args.self.now.marks.now.set in
    c.ones_below.ensures
    ∙ (λ i. ones (sym (div-one w) i % 2 ^ (c.count.ensures ∙ sym (length_ids told)) i))
    ∙ sym (number_is 0 (ids told) w _)
