use Rattle.std.proofs.Common.{◌≡◌, ◌+◌, false, [], ◌∷◌, ◌++◌, get_or, drop, sym, ap, ◌∙◌, arith}
use Rattle.std.proofs.lemmas.List.{drop_more, drop_all}
use Rattle.event.specs.Bytes.{Bytes, placed}
use Rattle.event.proofs.Placed.{placed-placed, placed-none}
use Rattle.wire.specs.Requests.{item_bytes, items_bytes}
use Rattle.wire.proofs.ItemLists.{first_item, no_items}
use Rattle.wire.proofs.request.put_items.Goals as goal

pub loop-item-preserved : goal.loop-item-preserved
loop-item-preserved c =
    let xs = c.args.items.now in
    let i = c.loop-item.item-index in
    let x = get_or xs i (record { identifier = 0; on = false }) in
    let left = items_bytes (drop (i + 1) xs) in
    let next : drop i xs ≡ x ∷ drop (i + 1) xs = drop_more xs i _ (omega arith) in
    let d = c.loop-item.buffer in
    let at = c.loop-item.at in
    let wrote = c.put-at.ensures.buffer in
    let end = c.put-at.ensures.end in
    let flag = c.switch.ensures in
    let is : 3 ∷ x.identifier ∷ c.switch.result ∷ [] ≡ item_bytes x = (λ t. 3 ∷ x.identifier ∷ flag t ∷ []) in (
      (λ t. placed (wrote t) (end t) left)
          ∙ placed-placed d at _ left (omega arith)
          ∙ ap (λ (b : Bytes). placed d at (b ++ left)) is
          ∙ ap (placed d at) (sym (first_item x (drop (i + 1) xs)) ∙ ap items_bytes (sym next))
          ∙ c.loop-item.invariant.0,
      omega arith,
    )

pub returns : goal.returns
returns c =
    let xs = c.args.items.now in
    let none : drop c.loop-item.item-index xs ≡ [] = drop_all _ xs (omega arith) in
    record {
      end = omega arith;
      buffer = sym (placed-none c.loop-item.buffer c.loop-item.at) ∙ ap (placed c.loop-item.buffer c.loop-item.at) (sym no_items ∙ ap items_bytes (sym none)) ∙ c.loop-item.invariant.0;
    }
