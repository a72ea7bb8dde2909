-- What a reader shows to C. Assumes nothing.
use Rattle.std.specs.Prelude.{◌≡◌, ℕ, ◌+◌, Bool, true, false, List, [], ◌∷◌, length, Ok, Err, Result, slice_set}
use Rattle.event.specs.declared.refusal.Refusal.{Refusal}
use Rattle.event.specs.Sources.{Occurrence}
use Rattle.list.specs.Lists.{Told, these, overflow}
use Rattle.wire.specs.Requests.{Sync, Ack}
use Rattle.wire.specs.View.{Read, request, event, answer}
use Rattle.wire.specs.declared.types.Item.{Item}
use Rattle.crossing.specs.declared.types.Head.{Head}
use Rattle.crossing.specs.declared.types.Row.{Row}
use Rattle.crossing.specs.declared.types.Switch.{Switch}
use Rattle.crossing.specs.Crossing.{row_of, switch_of}
use Rattle.crossing.specs.Outcomes.{refusal_number}

-- the rows after occurrences were written into them from a place on, as far as there is room
unfoldable pub with_rows : List Row → (place : ℕ) → List Occurrence → List Row
with_rows rows place [] = rows
with_rows rows place (o ∷ os) = with_rows (slice_set rows place (row_of o)) (place + 1) os

-- the switches after items were written into them
unfoldable pub with_items : List Switch → (place : ℕ) → List Item → List Switch
with_items switches place [] = switches
with_items switches place (i ∷ is) = with_items (slice_set switches place (switch_of i)) (place + 1) is

-- the occurrences of a list; on overflow there are none
abbrev pub told_occurrences : Told → List Occurrence
told_occurrences (these os) = os
told_occurrences overflow = []

-- is it an overflow?
abbrev pub is_overflow : Told → Bool
is_overflow (these os) = false
is_overflow overflow = true

-- a head of these parts
abbrev pub head_of : (kind : ℕ) (slot : Bool) (first retry generation retries : ℕ) (over : Bool) (number : ℕ) → Head
head_of kind slot first retry generation retries over number = record {
  kind = kind;
  slot = slot;
  first = first;
  retry = retry;
  generation = generation;
  retries = retries;
  overflow = over;
  number = number;
}

-- the head of a list
abbrev pub list_head : (kind : ℕ) (slot : Bool) (generation retries : ℕ) → Told → Head
list_head kind slot generation retries t = head_of kind slot 0 0 generation retries (is_overflow t) (length (told_occurrences t))

-- the head of a message: 1 for a sync, 2 for an ack, 3 for an event message, 4 for an answer
abbrev pub head_read : Read → Head
head_read (request (Sync slot items delay retry)) = head_of 1 slot delay retry 0 0 false (length items)
head_read (request (Ack slot)) = head_of 2 slot 0 0 0 0 false 0
head_read (event v) = list_head 3 false v.generation v.retries v.told
head_read (answer a) = list_head 4 a.slot 0 0 a.told

-- the items of a message
abbrev pub items_read : Read → List Item
items_read (request (Sync slot items delay retry)) = items
items_read (request (Ack slot)) = []
items_read (event v) = []
items_read (answer a) = []

-- the occurrences of a message
abbrev pub occurrences_read : Read → List Occurrence
occurrences_read (request q) = []
occurrences_read (event v) = told_occurrences v.told
occurrences_read (answer a) = told_occurrences a.told

-- the head after a reading, which leaves it as it was if it is refused
abbrev pub head_after : Result Read Refusal → Head → Head
head_after (Ok m) head = head_read m
head_after (Err r) head = head

-- the switches after it
abbrev pub switches_after : Result Read Refusal → List Switch → List Switch
switches_after (Ok m) switches = with_items switches 0 (items_read m)
switches_after (Err r) switches = switches

-- the rows after it
abbrev pub rows_after : Result Read Refusal → List Row → List Row
rows_after (Ok m) rows = with_rows rows 0 (occurrences_read m)
rows_after (Err r) rows = rows

-- a reader leaves the head, the items and the occurrences of what it read, and the number of its refusal
pub record Shows (r : Result Read Refusal) (h h' : Head) (ss ss' : List Switch) (rs rs' : List Row) (result : ℕ) : Type 0 where
  pub number : result ≡ refusal_number r
  pub head : h' ≡ head_after r h
  pub switches : ss' ≡ switches_after r ss
  pub rows : rs' ≡ rows_after r rs
