-- What the structs that cross to C tell, and the structs of what is told. Assumes nothing.
use Rattle.std.specs.Prelude.{ℕ, suc, Bool, true, cond, ◌&&◌, List, [], ◌∷◌, map, ◌++◌, length, take, drop, replicate, nat_le}
use Rattle.event.specs.declared.id.UniqueId.{UniqueId}
use Rattle.event.specs.Bytes.{Bytes}
use Rattle.event.specs.Identifiers.{bit}
use Rattle.event.specs.Sources.{Occurrence, occurrence}
use Rattle.wire.specs.declared.types.Item.{Item}
use Rattle.crossing.specs.declared.types.Row.{Row}
use Rattle.crossing.specs.declared.types.Switch.{Switch}

-- the unique ID of a row
abbrev pub id_told : Row → UniqueId
id_told r = record { identifier = r.identifier; scope = r.scope; info = r.info }

-- the source that a row tells, with at most 64 bytes of its reading
abbrev pub row_kept : Row → Occurrence
row_kept r = occurrence (id_told r) (take r.length r.bytes)

-- the reading that a row tells: one of more than 64 bytes is lawful nowhere, whatever its bytes are
abbrev pub reading_told : Row → Bytes
reading_told r = cond (nat_le r.length 64) (take r.length r.bytes) (replicate r.length 0)

-- the source that a row tells
abbrev pub row_told : Row → Occurrence
row_told r = occurrence (id_told r) (reading_told r)

-- the sources that rows tell
abbrev pub rows_told : List Row → List Occurrence
rows_told rows = map row_told rows

-- has no row a reading of more than 64 bytes?
abbrev pub all_short : List Row → Bool
all_short [] = true
all_short (r ∷ rs) = nat_le r.length 64 && all_short rs

-- those of the sources, of which the first stands at the place k, whose places are set in the mask
unfoldable pub chosen_from : (k mask : ℕ) → List Occurrence → List Occurrence
chosen_from k mask [] = []
chosen_from k mask (o ∷ os) = cond (bit mask k) (o ∷ chosen_from (suc k) mask os) (chosen_from (suc k) mask os)

-- those whose places are set
abbrev pub chosen : (mask : ℕ) → List Occurrence → List Occurrence
chosen mask os = chosen_from 0 mask os

-- a reading, and zeros up to the 64th byte
abbrev pub padded : Bytes → Bytes
padded reading = reading ++ drop (length reading) (replicate 64 0)

-- the row of an occurrence
abbrev pub row_of : Occurrence → Row
row_of o = record { identifier = o.id.identifier; scope = o.id.scope; length = length o.reading; info = o.id.info; bytes = padded o.reading }

-- the item that a switch tells
abbrev pub item_told : Switch → Item
item_told s = record { identifier = s.identifier; on = s.on }

-- the items that switches tell
abbrev pub items_told : List Switch → List Item
items_told switches = map item_told switches

-- the switch of an item
abbrev pub switch_of : Item → Switch
switch_of i = record { identifier = i.identifier; on = i.on }
