-- What the reader asks of bytes, one question after the other. Assumes nothing.
use Rattle.std.specs.Prelude.{◌≡◌, ℕ, ◌+◌, ◌≤◌, Bool, cond, not, ◌&&◌, length, drop, Some, None, Option, Result, ◌==◌, nat_le}
use Rattle.keys.specs.Keys.{twice}
use Rattle.event.specs.Bytes.{Bytes, byte, same_bytes}
use Rattle.event.specs.Sources.{same_id, is_vendor, lawful_id, lawful_reading, all_lawful, ids}
use Rattle.list.specs.Lists.{Told, these, overflow, body, reading_length, front, fronts}
use Rattle.list.specs.declared.types.Front.{Front}
use Rattle.list.specs.declared.types.Occurrences.{Occurrences}
use Rattle.list.specs.declared.types.Overflow.{Overflow}
use Rattle.list.specs.View.{told_by}

-- what stands at the front of bytes that have an occurrence's nine bytes and its reading
pub record Begins (bytes : Bytes) (f : Front) : Type 0 where
  pub nine : 9 ≤ length bytes
  pub whole : reading_length bytes ≤ length (drop 9 bytes)
  pub mark : f.mark ≡ byte bytes 0
  pub specific : f.specific ≡ byte bytes 1
  pub vendor : f.vendor ≡ byte bytes 2
  pub id : f.id ≡ (front bytes).id
  pub reading : f.reading.now ≡ (front bytes).reading
  pub rest : f.rest.now ≡ drop (reading_length bytes) (drop 9 bytes)

-- the one of the two lengths that says 0: a reading is specific info or vendor info
abbrev pub other_length : Front → ℕ
other_length f = cond (is_vendor f.id.identifier) f.specific f.vendor

-- is it a lawful occurrence?
abbrev pub in_form : Front → Bool
in_form f = f.mark == 9 && (other_length f == 0 && (lawful_id f.id && lawful_reading f.id.identifier f.reading.now))

-- are the bytes so many lawful occurrences, one after the other, and not a byte more?
unfoldable pub is_body : (number : ℕ) → Bytes → Bool
is_body number bytes =
    (length (fronts number bytes) == number) && (same_bytes bytes (body (fronts number bytes)) && all_lawful (fronts number bytes))

-- is this the body of a lawful list?
abbrev pub lawful_body : (number : ℕ) → Bytes → Bool
lawful_body number bytes =
    nat_le number 64 && (nat_le (length bytes) 4096 && (is_body number bytes && not (twice same_id (ids (fronts number bytes)))))

-- what a list of this number, length info and body tells, if it is lawful
unfoldable pub read_told : (number info : ℕ) → Bytes → Option Told
read_told number info bytes =
    cond (nat_le 0x800000 info)
    (cond (number == 0 && (info == 0x800000 && length bytes == 0)) (Some overflow) None)
    (cond (info == 7 + length bytes && lawful_body number bytes) (Some (these (fronts number bytes))) None)

-- what a list tells, if it is one
abbrev pub told_if : Option (Result Occurrences Overflow) → Option Told
told_if None = None
told_if (Some l) = Some (told_by l)
