use Rattle.std.proofs.Common.{◌≡◌, ◌+◌, ◌*◌, drop}
use Rattle.event.specs.Bytes.{placed}
use Rattle.wire.specs.Requests.{items_bytes}
use Rattle.wire.proofs.request.put_items.Given as goal

-- writing what is left gives what the whole gives
abbrev pub invariant-loop-item : goal.invariant-loop-item
invariant-loop-item l =
    (placed l.buffer l.at (items_bytes (drop l.item-index l.items)) ≡ placed l.initial.buffer l.start (items_bytes l.items))
    × (l.at ≡ l.start + 3 * l.item-index)
