use Rattle.std.proofs.Common.{length, sym, refl, rules}
use Rattle.carrier.proofs.Lines.{fetched-length}
use Rattle.book.proofs.Questions.{all_asked}
use Rattle.book.proofs.Picked.{pick_heard}
use Rattle.book.proofs.parts.Book.pick_up.Goals as goal

pub slice_bounds-hear-end : goal.slice_bounds-hear-end
slice_bounds-hear-end g c =
    let carrier = c.args.carrier.now in
    let h = fetched-length (g.C.Carrier.carried carrier).message (length c.args.buffer.now) _ (g.met.C.Carrier.fits carrier) (sym c.in_ok-count.ensures.result) in
    search rules

pub returns : goal.returns
returns g c =
    pick_heard _ c.args.self.now c.hear.new.self c.args.buffer.now c.fetch.new.buffer _ c.in_ok-count.count c.hear.result
    (all_asked _ c.in_ok-may_show.ensures) c.in_ok-count.ensures refl c.hear.ensures
