-- Requests, sync and ack: how the book writes them, and what the endpoint asks of them. Assumes nothing.
use Rattle.std.specs.Prelude.{ℕ, zero, suc, ◌+◌, ◌-◌, ◌/◌, ◌%◌, Bool, true, cond, ◌&&◌, List, [], ◌∷◌, ◌++◌, length, take, drop, Some, None, Ok, Err, Option, Result, ◌==◌, nat_le}
use Rattle.event.specs.Bytes.{Bytes, byte, le16, two, within}
use Rattle.event.specs.Refusals.{Question, ask, first_no}
use Rattle.event.specs.declared.refusal.Refusal.{Refusal}
use Rattle.event.specs.declared.refusal.Refusal.TheVariants.{
  RequestLength,
  RequestType,
  RequestCheck,
  RequestKind,
  RequestFlags,
  EnableLengths,
  EnableBodyLong,
  EnableItems,
}
use Rattle.wire.specs.Checks.{checked, is_checked}
use Rattle.wire.specs.Messages.{slot_of}
use Rattle.wire.specs.declared.types.Item.{Item}
use Rattle.wire.specs.declared.types.Kind.{Kind}
use Rattle.wire.specs.declared.types.Kind.TheVariants.{Sync as sync, Ack as ack}

-- WRITTEN BY THE BOOK

-- an item of three bytes: its length, the identifier, and a byte whose bit 7 switches it on
abbrev pub item_bytes : Item → Bytes
item_bytes i = 3 ∷ i.identifier ∷ cond i.on 0x80 0 ∷ []

-- one item after the other
unfoldable pub items_bytes : List Item → Bytes
items_bytes [] = []
items_bytes (i ∷ is) = item_bytes i ++ items_bytes is

-- an enable list: item count, version, total length, header length, items
abbrev pub enable_list : List Item → Bytes
enable_list items = length items ∷ 0 ∷ (le16 (5 + length (items_bytes items)) ++ (5 ∷ items_bytes items))

-- what stands before the enable list: the slot bit and the unread bytes are zero
abbrev pub request_head : (delay retry : ℕ) → Bytes
request_head delay retry = 0x84 ∷ 0x08 ∷ 0 ∷ 0 ∷ 3 ∷ 0 ∷ 0 ∷ 0 ∷ 4 ∷ retry ∷ delay ∷ 0 ∷ 0 ∷ 0 ∷ 0 ∷ 0 ∷ []

-- a request of these items, with the AEM Delay in seconds and the AEM Retry Delay in tenths of a second; an ack has no items
unfoldable pub request_message : (delay retry : ℕ) → List Item → Bytes
request_message delay retry items = checked (request_head delay retry ++ enable_list items)

-- READ BY THE ENDPOINT

-- the enable list's item count
abbrev pub item_count : Bytes → ℕ
item_count bytes = byte bytes 16

-- its total length
abbrev pub total_length : Bytes → ℕ
total_length bytes = two (byte bytes 18) (byte bytes 19)

-- its header length
abbrev pub header_length : Bytes → ℕ
header_length bytes = byte bytes 20

-- its bytes, up to the total
abbrev pub list_part : Bytes → Bytes
list_part bytes = take (total_length bytes) (drop 16 bytes)

-- the bytes of its items, from the header's end to the total
abbrev pub items_part : Bytes → Bytes
items_part bytes = take (total_length bytes - header_length bytes) (drop (header_length bytes) (drop 16 bytes))

-- does an item of at least 3 bytes stand at the front of these bytes?
abbrev pub has_item : Bytes → Bool
has_item part = within 3 (length part) (byte part 0)

-- do so many items fit into these bytes, each stepped by its length?
unfoldable pub items_fit : (number : ℕ) → Bytes → Bool
items_fit zero part = true
items_fit (suc n) part = has_item part && items_fit n (drop (byte part 0) part)

-- the item at the front of these bytes
abbrev pub item_at : Bytes → Item
item_at part = record { identifier = byte part 1; on = nat_le 0x80 (byte part 2) }

-- so many items, as far as they fit
unfoldable pub items_in : (number : ℕ) → Bytes → List Item
items_in zero part = []
items_in (suc n) part = cond (has_item part) (item_at part ∷ items_in n (drop (byte part 0) part)) []

-- what is asked of the enable list, in this order
abbrev pub enable_questions : Bytes → List Question
enable_questions bytes =
    ask (nat_le 5 (header_length bytes) && within (header_length bytes) (length bytes - 20) (total_length bytes)) EnableLengths
    ∷ ask (nat_le (total_length bytes - header_length bytes) 4096) EnableBodyLong
    ∷ ask (items_fit (item_count bytes) (items_part bytes)) EnableItems
    ∷ []

-- what is asked of a request, in this order
abbrev pub request_questions : Bytes → List Question
request_questions bytes =
    ask (within 25 4224 (length bytes)) RequestLength
    ∷ ask (byte bytes 0 == 0x84) RequestType
    ∷ ask (is_checked bytes) RequestCheck
    ∷ ask (byte bytes 1 / 8 == 1 && (byte bytes 4 == 0x03 && byte bytes 8 == 0x04)) RequestKind
    ∷ ask (byte bytes 2 % 4 == 0) RequestFlags
    ∷ enable_questions bytes

-- the refusal of a request, unless it is accepted
unfoldable pub request_refusal : Bytes → Option Refusal
request_refusal bytes = first_no (request_questions bytes)

-- a request as it is read, with its slot bit
pub data Request : Type 0 where
  -- the items, the delay in seconds and the retry delay in tenths of a second
  Sync : (slot : Bool) → List Item → (delay retry : ℕ) → Request
  Ack : (slot : Bool) → Request

-- an item count of zero is an ack, any other a sync
unfoldable pub kind_of : Bytes → Kind
kind_of bytes = cond (item_count bytes == 0) ack sync

-- a request of this kind
abbrev pub request_as : Kind → Bytes → Request
request_as sync bytes = Sync (slot_of bytes) (items_in (item_count bytes) (items_part bytes)) (byte bytes 10) (byte bytes 9)
request_as ack bytes = Ack (slot_of bytes)

-- a request as it is read
abbrev pub request_of : Bytes → Request
request_of bytes = request_as (kind_of bytes) bytes

-- refused, or read
abbrev pub read_as : Option Refusal → Bytes → Result Request Refusal
read_as None bytes = Ok (request_of bytes)
read_as (Some r) bytes = Err r

-- a request, by the questions that are asked of it
unfoldable pub read_request : Bytes → Result Request Refusal
read_request bytes = read_as (request_refusal bytes) bytes
