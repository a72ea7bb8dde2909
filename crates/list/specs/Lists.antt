-- Lists of occurrences in bytes: how they are written, and what is read of them. Assumes nothing.
use Rattle.std.specs.Prelude.{ℕ, zero, suc, ◌+◌, Bool, true, cond, not, ◌&&◌, List, [], ◌∷◌, ◌++◌, length, take, drop, Some, None, Option, nat_le}
use Rattle.keys.specs.Keys.{twice}
use Rattle.event.specs.declared.id.UniqueId.{UniqueId}
use Rattle.event.specs.Bytes.{Bytes, byte, le24, le32, four, same_bytes}
use Rattle.event.specs.Sources.{Occurrence, occurrence, same_id, is_vendor, all_lawful, ids}

-- WRITTEN

-- how many of a reading's bytes are specific info
abbrev pub specific_length : (identifier length : ℕ) → ℕ
specific_length identifier n = cond (is_vendor identifier) 0 n

-- how many are vendor info
abbrev pub vendor_length : (identifier length : ℕ) → ℕ
vendor_length identifier n = cond (is_vendor identifier) n 0

-- the nine bytes before a reading of n bytes: 09h, the two lengths, identifier, scope ID info, scope
abbrev pub occurrence_head : UniqueId → (length : ℕ) → Bytes
occurrence_head id n = 9 ∷ specific_length id.identifier n ∷ vendor_length id.identifier n ∷ id.identifier ∷ (le32 id.info ++ (id.scope ∷ []))

-- an occurrence
unfoldable pub occurrence_bytes : Occurrence → Bytes
occurrence_bytes o = occurrence_head o.id (length o.reading) ++ o.reading

-- one occurrence after the other
unfoldable pub body : List Occurrence → Bytes
body [] = []
body (o ∷ os) = occurrence_bytes o ++ body os

-- what a list tells: these occurrences, or that they would take too many bytes
pub data Told : Type 0 where
  these : List Occurrence → Told
  overflow : Told

-- would the body pass 4,096 bytes?
unfoldable pub over : List Occurrence → Bool
over os = not (nat_le (length (body os)) 4096)

-- what the list of these occurrences tells
abbrev pub told : List Occurrence → Told
told os = cond (over os) overflow (these os)

-- the seven bytes before a body: number of occurrences, 00h, length info, 07h, transmission info
abbrev pub header : (number total transmission : ℕ) → Bytes
header number total transmission = number ∷ 0 ∷ (le24 total ++ (7 ∷ transmission ∷ []))

-- a list; on overflow its header stands alone, with number and total 0 and the overflow bit
unfoldable pub list_bytes : (transmission : ℕ) → Told → Bytes
list_bytes transmission (these os) = header (length os) (7 + length (body os)) transmission ++ body os
list_bytes transmission overflow = header 0 0x800000 transmission

-- LAWFUL

-- what a lawful list tells: at most 64 lawful occurrences in at most 4,096 bytes, no unique ID twice; or overflow
unfoldable pub lawful_told : Told → Bool
lawful_told (these os) = nat_le (length os) 64 && (not (over os) && (all_lawful os && not (twice same_id (ids os))))
lawful_told overflow = true

-- READ

-- how long the reading of the occurrence at the front of these bytes is
abbrev pub reading_length : Bytes → ℕ
reading_length bytes = byte bytes 1 + byte bytes 2

-- the occurrence at the front of these bytes
abbrev pub front : Bytes → Occurrence
front bytes =
    occurrence (record { identifier = byte bytes 3; scope = byte bytes 8; info = four (byte bytes 4) (byte bytes 5) (byte bytes 6) (byte bytes 7) })
    (take (reading_length bytes) (drop 9 bytes))

-- do its nine bytes and a reading of at most 64 bytes stand there?
abbrev pub has_front : Bytes → Bool
has_front bytes = nat_le 9 (length bytes) && (nat_le (reading_length bytes) 64 && nat_le (reading_length bytes) (length (drop 9 bytes)))

-- so many occurrences, one after the other, as far as the bytes go
unfoldable pub fronts : (number : ℕ) → Bytes → List Occurrence
fronts zero bytes = []
fronts (suc n) bytes = cond (has_front bytes) (front bytes ∷ fronts n (drop (reading_length bytes) (drop 9 bytes))) []

-- what these bytes tell if they are a lawful list; whether they are is seen by writing it again
abbrev pub tells : Bytes → Told
tells bytes = cond (nat_le 0x80 (byte bytes 4)) overflow (these (fronts (byte bytes 0) (drop 7 bytes)))

-- a list as it is read: what it tells, and the transmission info in its header
pub record Listing : Type 0 where
  pub transmission : ℕ
  pub told : Told

-- a list of this transmission info
abbrev pub listing : (transmission : ℕ) → Told → Listing
listing transmission told = record { transmission = transmission; told = told }

-- a lawful list is what is written of its transmission info and of what it tells, and not a byte more
unfoldable pub read_list : Bytes → Option Listing
read_list bytes =
    cond (lawful_told (tells bytes) && same_bytes bytes (list_bytes (byte bytes 6) (tells bytes))) (Some (listing (byte bytes 6) (tells bytes))) None
