-- Rows and switches, one more at a time. Assumes nothing.
use Rattle.std.proofs.Common.{◌≡◌, ℕ, zero, suc, ◌+◌, ◌≤◌, drop, List, [], ◌∷◌, length, set, sym, ap, arith}
use Rattle.event.specs.Sources.{Occurrence}
use Rattle.event.specs.Bytes.{Bytes, byte}
use Rattle.std.proofs.lemmas.Bool.{cond_both}
use Rattle.wire.specs.Requests.{has_item, item_at, items_in}
use Rattle.wire.specs.declared.types.Item.{Item}
use Rattle.crossing.specs.declared.types.Row.{Row}
use Rattle.crossing.specs.declared.types.Switch.{Switch}
use Rattle.crossing.specs.Crossing.{row_of, switch_of}
use Rattle.crossing.specs.Reading.{with_rows, with_items}

pub row_more : (rows : List Row) (at : ℕ) (o : Occurrence) (os all : List Occurrence) → all ≡ o ∷ os → with_rows (set rows at (row_of o)) (at + 1) os ≡ with_rows rows at all
unfolding with_rows
row_more rows at o os all e = ap (with_rows rows at) (sym e)

pub row_end : (rows : List Row) (at : ℕ) (all : List Occurrence) → all ≡ [] → rows ≡ with_rows rows at all
unfolding with_rows
row_end rows at all e = ap (with_rows rows at) (sym e)

pub item_more : (switches : List Switch) (at : ℕ) (i : Item) (is all : List Item) → all ≡ i ∷ is → with_items (set switches at (switch_of i)) (at + 1) is ≡ with_items switches at all
unfolding with_items
item_more switches at i is all e = ap (with_items switches at) (sym e)

pub item_end : (switches : List Switch) (at : ℕ) (all : List Item) → all ≡ [] → switches ≡ with_items switches at all
unfolding with_items
item_end switches at all e = ap (with_items switches at) (sym e)

-- there are at most as many items as were asked for
pub items-few : (n : ℕ) (bytes : Bytes) → length (items_in n bytes) ≤ n
unfolding items_in
items-few zero bytes = omega arith
items-few (suc n) bytes =
    let h = items-few n (drop (byte bytes 0) bytes) in
    cond_both (has_item bytes) (item_at bytes ∷ items_in n (drop (byte bytes 0) bytes)) [] (λ (is : List Item). length is ≤ suc n) (λ e. omega arith) (λ e. omega arith)
