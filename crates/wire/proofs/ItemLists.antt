-- The bytes of items. Assumes nothing.
use Rattle.std.proofs.Common.{◌≡◌, ◌*◌, List, [], ◌∷◌, ◌++◌, length, refl, ◌∙◌, arith}
use Rattle.std.proofs.lemmas.List.{length-append}
use Rattle.wire.specs.declared.types.Item.{Item}
use Rattle.wire.specs.Requests.{item_bytes, items_bytes}

pub length-items : (items : List Item) → length (items_bytes items) ≡ 3 * length items
unfolding items_bytes
length-items [] = refl
length-items (x ∷ xs) = let h = length-items xs in length-append (item_bytes x) (items_bytes xs) ∙ (omega arith)

pub no_items : items_bytes [] ≡ []
unfolding items_bytes
no_items = refl

pub first_item : (x : Item) (xs : List Item) → items_bytes (x ∷ xs) ≡ item_bytes x ++ items_bytes xs
unfolding items_bytes
first_item x xs = refl
