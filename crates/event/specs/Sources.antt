-- Sources of events: their unique IDs, and which IDs and readings are lawful. Assumes nothing.
use Rattle.std.specs.Prelude.{ℕ, Bool, true, false, cond, ◌&&◌, ◌||◌, List, [], ◌∷◌, length, ◌==◌, nat_le}
use Rattle.event.specs.Bytes.{Bytes, byte, within}
use Rattle.event.specs.declared.id.UniqueId.{UniqueId}

-- a source with a reading of it: what a board tells, what a list says, what a book enters
pub record Occurrence : Type 0 where
  pub id : UniqueId
  pub reading : Bytes

-- of this source, with this reading
abbrev pub occurrence : UniqueId → Bytes → Occurrence
occurrence id reading = record { id = id; reading = reading }

-- are two unique IDs the same?
abbrev pub same_id : UniqueId → UniqueId → Bool
same_id u v = u.identifier == v.identifier && (u.scope == v.scope && u.info == v.info)

-- C0h to FFh: vendor events, whose reading is vendor info; that of any other event is specific info
abbrev pub is_vendor : (identifier : ℕ) → Bool
is_vendor identifier = within 0xC0 0xFF identifier

-- the scopes that an event may have: 0 namespace, 1 controller, 2 subsystem, 3 endpoint, 4 port, 5 endurance group
abbrev pub lawful_scope : (identifier scope : ℕ) → Bool
lawful_scope identifier scope =
    cond (nat_le identifier 0x01) (scope == 1)
    (cond (identifier == 0x02) (within 1 2 scope)
    (cond (within 0x03 0x04 identifier) (scope == 1)
    (cond (within 0x05 0x09 identifier) (scope == 2)
    (cond (identifier == 0x0A) (within 1 2 scope)
    (cond (identifier == 0x0B) (scope == 4)
    (is_vendor identifier && nat_le scope 5))))))

-- an NVMe-MI port: 10000h plus a port number of at most FFh
abbrev pub is_mi_port : (info : ℕ) → Bool
is_mi_port info = within 0x10000 0x100FF info

-- the scope ID info that an event of this scope may have
abbrev pub lawful_info : (identifier scope info : ℕ) → Bool
lawful_info identifier scope info =
    cond (scope == 0) (nat_le info 0xFFFFFFFF)
    (cond (scope == 2) (info == 0)
    (cond (scope == 3) (nat_le info 0xFF)
    (cond (scope == 4) (cond (identifier == 0x0B) (is_mi_port info) (nat_le info 0xFFFF || is_mi_port info))
    (cond (scope == 1 || scope == 5) (nat_le info 0xFFFF)
    false))))

-- may a source have this unique ID?
unfoldable pub lawful_id : UniqueId → Bool
lawful_id u = lawful_scope u.identifier u.scope && lawful_info u.identifier u.scope u.info

-- one byte, at most so much
abbrev pub one_byte : (most : ℕ) → Bytes → Bool
one_byte most reading = length reading == 1 && nat_le (byte reading 0) most

-- the readings of each event: specific info of this length and these values, or vendor info of up to 64 bytes
abbrev pub reading_fits : (identifier : ℕ) → Bytes → Bool
reading_fits identifier reading =
    cond (nat_le identifier 0x01) (one_byte 1 reading)
    (cond (identifier == 0x02) (one_byte 7 reading)
    (cond (identifier == 0x03) (one_byte 3 reading)
    (cond (within 0x04 0x05 identifier) (length reading == 0)
    (cond (within 0x06 0x09 identifier) (one_byte 0xFF reading)
    (cond (identifier == 0x0A) (length reading == 0)
    (cond (identifier == 0x0B) (one_byte 1 reading)
    (is_vendor identifier && nat_le (length reading) 64)))))))

-- may a source of this event have the reading?
unfoldable pub lawful_reading : (identifier : ℕ) → Bytes → Bool
lawful_reading identifier reading = reading_fits identifier reading

-- a lawful unique ID with a lawful reading
abbrev pub lawful_occurrence : Occurrence → Bool
lawful_occurrence o = lawful_id o.id && lawful_reading o.id.identifier o.reading

-- is each a lawful unique ID with a lawful reading?
unfoldable pub all_lawful : List Occurrence → Bool
all_lawful [] = true
all_lawful (o ∷ os) = lawful_occurrence o && all_lawful os

-- the unique IDs, in the same order
abbrev pub ids : List Occurrence → List UniqueId
ids [] = []
ids (o ∷ os) = o.id ∷ ids os
