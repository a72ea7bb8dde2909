-- What a word of items of an enable list says. Assumes nothing.
use Rattle.std.specs.Prelude.{ℕ, ◌-◌, Bool, true, false, cond, List, [], ◌∷◌, ◌++◌, length, take, Ok, Err, Result, ◌==◌, slice_index}
use Rattle.event.specs.Bytes.{Bytes}
use Rattle.wire.specs.declared.types.Item.{Item}
use Rattle.syntax.specs.declared.fault.Fault.{Fault}
use Rattle.syntax.specs.declared.fault.Fault.TheVariants.{NoSwitch}
use Rattle.syntax.specs.Numbers.{number_of}
use Rattle.syntax.specs.Strings.{is_dash, behind}

-- the item of an identifier
abbrev pub item_for : Bool → Result ℕ Fault → Result Item Fault
item_for switch (Ok number) = Ok (record { identifier = number; on = switch })
item_for switch (Err fault) = Err fault

-- the item of a piece's digits and its last byte, `+` or `-`
abbrev pub item_by : (digits : Bytes) → (last : ℕ) → Result Item Fault
item_by digits last = cond (last == 43) (item_for true (number_of 16 255 digits)) (cond (last == 45) (item_for false (number_of 16 255 digits)) (Err NoSwitch))

-- the item that a piece says
abbrev pub item_of : Bytes → Result Item Fault
item_of piece = item_by (take (length piece - 1) piece) (slice_index piece (length piece - 1))

-- an item before the items of the rest
abbrev pub item_and : Result Item Fault → Result (List Item) Fault → Result (List Item) Fault
item_and (Ok item) rest = behind item rest
item_and (Err fault) rest = Err fault

-- the items of what is left of a word, after a piece that goes on in it
unfoldable pub items_from : (piece : Bytes) → Bytes → Result (List Item) Fault
items_from piece [] = item_and (item_of piece) (Ok [])
items_from piece (b ∷ bs) = cond (b == 44) (item_and (item_of piece) (items_from [] bs)) (items_from (piece ++ b ∷ []) bs)

-- the items that a word says: none for `-`
abbrev pub items_of : Bytes → Result (List Item) Fault
items_of word = cond (is_dash word) (Ok []) (items_from [] word)
