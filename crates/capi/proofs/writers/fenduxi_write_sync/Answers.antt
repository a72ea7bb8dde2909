use Rattle.std.proofs.Common.{◌≡◌, ℕ, List, length, take, sym, ap, ◌∙◌}
use Rattle.std.proofs.lemmas.List.{take-map}
use Rattle.event.specs.Outcomes.{Outcome, over_front}
use Rattle.wire.specs.Writing.{writes_sync}
use Rattle.wire.specs.declared.types.Item.{Item}
use Rattle.crossing.specs.Crossing.{item_told, items_told}
use Rattle.crossing.specs.Outcomes.{refusal_number, count_of}
use Rattle.crossing.proofs.Firsts.{sync_firsts}
use Rattle.capi.proofs.writers.fenduxi_write_sync.Goals as goal

pub returns : goal.returns
returns c =
    let before = c.args.buffer.now in
    let room = length before in
    let items = items_told c.args.items.now in
    let said : take c.min-number.result c.told_items-items.result ≡ take 65 items =
    ap (λ (k : ℕ). take k c.told_items-items.result) c.min-number.ensures ∙ c.told_items-items.ensures ∙ sym (take-map item_told 65 c.args.items.now) in
    let same : writes_sync room (take c.min-number.result c.told_items-items.result) c.args.first c.args.retry ≡ writes_sync room items c.args.first c.args.retry =
    ap (λ (is : List Item). writes_sync room is c.args.first c.args.retry) said ∙ sync_firsts room c.args.first c.args.retry items in
    let result = c.write_sync.ensures.result ∙ ap (λ (o : Outcome). o.result) same in
    record {
      number = c.hand_out.ensures.number ∙ ap refusal_number result;
      count = c.hand_out.ensures.count ∙ ap count_of result;
      buffer = c.write_sync.ensures.buffer ∙ ap (λ (o : Outcome). over_front o.written before) same;
    }
