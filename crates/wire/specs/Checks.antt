-- The check word at the end of every message. Assumes nothing.
use Rattle.std.specs.Prelude.{◌-◌, Bool, ◌++◌, length, take}
use Rattle.crc.specs.Crc.{crc32c}
use Rattle.event.specs.Bytes.{Bytes, le32, same_bytes}

-- a message with its check word: CRC-32C over all bytes before it
unfoldable pub checked : Bytes → Bytes
checked bytes = bytes ++ le32 (crc32c bytes)

-- the bytes before the check word
unfoldable pub unchecked : Bytes → Bytes
unchecked bytes = take (length bytes - 4) bytes

-- is the check word right?
unfoldable pub is_checked : Bytes → Bool
is_checked bytes = same_bytes bytes (checked (unchecked bytes))
