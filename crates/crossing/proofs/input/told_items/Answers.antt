use Rattle.std.proofs.Common.{◌≡◌, ℕ, ◌<◌, min, false, List, [], ◌∷◌, ◌++◌, length, take, sym, ap, ◌∙◌, arith}
use Rattle.std.proofs.lemmas.List.{length-set, map_more, take_min, take_more_set}
use Rattle.wire.specs.declared.types.Item.{Item}
use Rattle.crossing.specs.Crossing.{item_told, items_told}
use Rattle.crossing.proofs.input.told_items.Goals as goal

pub loop-i-preserved : goal.loop-i-preserved
loop-i-preserved c =
    let xs = c.args.switches.now in
    let i = c.loop-i.i in
    let items = c.loop-i.items in
    let kept : length items ≡ 65 = c.loop-i.invariant.1 in
    let below : i < length xs = omega arith in
    let room : i < length items = omega arith in (
      take_more_set items i c.told.result room
          ∙ ap (λ (l : List Item). l ++ (c.told.result ∷ [])) c.loop-i.invariant.0
          ∙ ap (λ (y : Item). items_told (take i xs) ++ (y ∷ [])) c.told.ensures
          ∙ sym (map_more item_told xs i (record { identifier = 0; on = false }) below),
      length-set items i c.told.result ∙ kept,
    )

pub returns : goal.returns
returns c =
    let xs = c.args.switches.now in
    let n : min (length xs) 65 ≡ c.loop-i.i = omega arith in
    let m : c.loop-i.i ≡ min 65 (length xs) = omega arith in
    ap (λ (k : ℕ). take k c.loop-i.items) n ∙ c.loop-i.invariant.0 ∙ ap (λ (k : ℕ). items_told (take k xs)) m ∙ ap items_told (take_min 65 xs)
