-- What the readers of an ack and of a list alone show to C. Assumes nothing.
use Rattle.std.specs.Prelude.{◌≡◌, ℕ, ◌/◌, ◌%◌, Bool, true, false, List, [], length, Some, None, Ok, Err, Option, Result, cond, nat_le}
use Rattle.event.specs.declared.refusal.Refusal.{Refusal}
use Rattle.event.specs.Bytes.{Bytes}
use Rattle.list.specs.Lists.{Listing}
use Rattle.wire.specs.Requests.{Request, Sync, Ack, read_request, list_part}
use Rattle.crossing.specs.declared.types.Head.{Head}
use Rattle.crossing.specs.declared.types.Row.{Row}
use Rattle.crossing.specs.Reading.{with_rows, told_occurrences, list_head}

-- the enable list of a request, if it is an ack and there is room for it
abbrev pub list_of : Result Request Refusal → (list : Bytes) → (room : ℕ) → Bytes
list_of (Ok (Sync slot items delay retry)) list room = []
list_of (Ok (Ack slot)) list room = cond (nat_le (length list) room) list []
list_of (Err r) list room = []

-- the enable list of an ack, if these bytes are one and it has room
abbrev pub ack_list : Bytes → (room : ℕ) → Bytes
ack_list bytes room = list_of (read_request bytes) (list_part bytes) room

-- was a list read?
abbrev pub is_list : Option Listing → Bool
is_list None = false
is_list (Some l) = true

-- the head after a list was read, with 5 for its kind and its transmission info as a generation and retries
abbrev pub head_after_list : Option Listing → Head → Head
head_after_list None head = head
head_after_list (Some l) head = list_head 5 false (l.transmission / 8) (l.transmission % 8) l.told

-- the rows after it
abbrev pub rows_after_list : Option Listing → List Row → List Row
rows_after_list None rows = rows
rows_after_list (Some l) rows = with_rows rows 0 (told_occurrences l.told)

-- the reader of a list leaves the head and the occurrences of what it read, and says whether it was one
pub record ShowsList (l : Option Listing) (h h' : Head) (rs rs' : List Row) (result : Bool) : Type 0 where
  pub said : result ≡ is_list l
  pub head : h' ≡ head_after_list l h
  pub rows : rs' ≡ rows_after_list l rs
