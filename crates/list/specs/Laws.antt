-- What holds of every list. Assumes nothing.
use Rattle.std.specs.Prelude.{◌≡◌, ℕ, true, Some}
use Rattle.event.specs.Bytes.{Bytes}
use Rattle.list.specs.Lists.{Told, lawful_told, list_bytes, Listing, listing, read_list}

-- what is written of a lawful list reads back
abbrev pub ListsReadBack : Type 0
ListsReadBack = (transmission : ℕ) (t : Told) → lawful_told t ≡ true → read_list (list_bytes transmission t) ≡ Some (listing transmission t)

-- these bytes are the only encoding of what is read of them
pub record Encodes (bytes : Bytes) (l : Listing) : Type 0 where
  pub is : bytes ≡ list_bytes l.transmission l.told
  pub lawful : lawful_told l.told ≡ true

-- a list that is read is the only encoding of what it tells
abbrev pub OnlyEncoding : Type 0
OnlyEncoding = (bytes : Bytes) (l : Listing) → read_list bytes ≡ Some l → Encodes bytes l
