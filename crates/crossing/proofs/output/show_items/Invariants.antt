use Rattle.std.proofs.Common.{◌≡◌, ◌+◌, length}
use Rattle.wire.specs.View.{left}
use Rattle.crossing.specs.Reading.{with_items}
use Rattle.crossing.proofs.output.show_items.Given as goal

-- writing what is left gives what the whole gives
abbrev pub invariant-loop-item : goal.invariant-loop-item
invariant-loop-item l =
    (with_items l.switches l.at (left l.item-iterator) ≡ with_items l.initial.switches 0 (left l.items))
    × (l.at + length (left l.item-iterator) ≡ length (left l.items))
