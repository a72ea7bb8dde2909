-- The pieces of a word between commas. Assumes nothing.
use Rattle.std.proofs.Common.{◌≡◌, ℕ, ◌+◌, ◌<◌, ◌≤◌, true, false, cond, eqb, List, [], ◌∷◌, ◌++◌, length, get_or, drop, Ok, Err, Result, sym, refl, ap, ◌∙◌, append-nil, arith}
use Rattle.std.proofs.lemmas.List.{at_drop_more, at_drop_all}
use Rattle.std.proofs.lemmas.List.Splits.{length-slice_split}
use Rattle.std.specs.List.{slice_split, onto_first}
use Rattle.wire.specs.declared.types.Item.{Item}
use Rattle.event.specs.Bytes.{Bytes}
use Rattle.syntax.specs.declared.fault.Fault.{Fault}
use Rattle.syntax.proofs.Cuts.{onto, onto-onto_first}
use Rattle.syntax.proofs.Rows.{after, after_more, after_all}
use Rattle.script.specs.Items.{item_of, item_and, items_from}

-- the pieces of a word
abbrev pub pieces : Bytes → List Bytes
pieces word = slice_split (λ b. eqb b 44) word

-- the items of pieces
abbrev pub all_items : List Bytes → Result (List Item) Fault
all_items [] = Ok []
all_items (piece ∷ others) = item_and (item_of piece) (all_items others)

-- a piece before the first goes on in it
items-all : (all : List Bytes) → 0 < length all → all_items (onto [] all) ≡ all_items all
items-all [] h = absurd (omega arith)
items-all (piece ∷ others) h = refl

-- a word has a piece
length-pieces : (word : Bytes) → 0 < length (pieces word)
length-pieces word = omega (arith, length-slice_split (λ b. eqb b 44) word)

items-onto : (piece word : Bytes) → all_items (onto piece (pieces word)) ≡ items_from piece word
unfolding items_from
items-onto piece [] = ap (λ p. item_and (item_of p) (Ok [])) (append-nil piece)
items-onto piece (b ∷ bs) =
    let others = pieces bs in
    elim (eqb b 44) as (λ v. all_items (onto piece (cond v ([] ∷ others) (onto_first b others))) ≡ cond v (item_and (item_of piece) (items_from [] bs)) (items_from (piece ++ b ∷ []) bs)) [
      | true ↦ ap (λ p. item_and (item_of p) (all_items others)) (append-nil piece) ∙ ap (item_and (item_of piece)) (sym (items-all others (length-pieces bs)) ∙ items-onto [] bs)
      | false ↦ ap all_items (onto-onto_first piece b others) ∙ items-onto (piece ++ b ∷ []) bs
    ]

-- the items of a word are those of its pieces
pub items-are : (word : Bytes) → all_items (pieces word) ≡ items_from [] word
items-are word = sym (items-all (pieces word) (length-pieces word)) ∙ items-onto [] word

-- an item was kept
pub item_turn : (was now : List Item) (all : List Bytes) (i : ℕ) (piece : Bytes) (item : Item) → i < length all → piece ≡ get_or all i piece → Ok item ≡ item_of piece → now ≡ was ++ item ∷ []
    → after now (all_items (drop (i + 1) all)) ≡ after was (all_items (drop i all))
item_turn was now all i piece item inside at said e =
    let left = all_items (drop (i + 1) all) in
    ap (λ l. after l left) e
    ∙ after_more was item left
    ∙ ap (λ r. after was (item_and r left)) said
    ∙ ap (λ p. after was (item_and (item_of p) left)) at
    ∙ ap (after was) (sym (at_drop_more all_items all i piece inside))

-- a piece is no item
pub item_fault : (was : List Item) (all : List Bytes) (i : ℕ) (piece : Bytes) (fault : Fault) → i < length all → piece ≡ get_or all i piece → Err fault ≡ item_of piece
    → after was (all_items (drop i all)) ≡ Err fault
item_fault was all i piece fault inside at said =
    let left = all_items (drop (i + 1) all) in
    ap (after was) (at_drop_more all_items all i piece inside)
    ∙ ap (λ p. after was (item_and (item_of p) left)) (sym at)
    ∙ ap (λ r. after was (item_and r left)) (sym said)

-- all items were kept
pub item_end : (was : List Item) (all : List Bytes) (i : ℕ) → length all ≤ i → after was (all_items (drop i all)) ≡ Ok was
item_end was all i end = ap (after was) (at_drop_all all_items all i end) ∙ after_all was
