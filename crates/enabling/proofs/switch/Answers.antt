use Rattle.std.proofs.Common.{true, false, refl, ◌∙◌}
use Rattle.event.specs.Sources.{ids}
use Rattle.wire.specs.View.{left}
use Rattle.enabling.proofs.Present.{item_more, item_end}
use Rattle.enabling.proofs.switch.Goals as goal

pub loop-item-preserved-then-is_known : goal.loop-item-preserved-then-is_known
loop-item-preserved-then-is_known g c =
    item_more (ids (g.B.Board.told c.args.board.now)) c.in-Some.item (left c.next.new.self) (left c.loop-item.item-iterator) c.loop-item.words c.with-next.result true
    c.in-Some.ensures.steps c.if-is_known.ensures c.with-next.ensures.words
    ∙ c.loop-item.invariant

pub loop-item-preserved : goal.loop-item-preserved
loop-item-preserved g c =
    item_more (ids (g.B.Board.told c.args.board.now)) c.in-Some.item (left c.next.new.self) (left c.loop-item.item-iterator) c.loop-item.words c.loop-item.words false
    c.in-Some.ensures.steps c.if-is_known.ensures refl
    ∙ c.loop-item.invariant

pub returns : goal.returns
returns g c = item_end (ids (g.B.Board.told c.args.board.now)) (left c.loop-item.item-iterator) c.loop-item.words c.in-None.ensures.steps.0 ∙ c.loop-item.invariant
