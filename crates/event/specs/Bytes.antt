-- Strings of bytes: numbers in them, and what a write into a buffer leaves. Assumes nothing.
use Rattle.std.specs.Prelude.{ℕ, ◌+◌, ◌*◌, ◌/◌, ◌%◌, Bool, true, false, ◌&&◌, List, [], ◌∷◌, ◌++◌, length, take, drop, ◌==◌, nat_le, slice_index}

-- a string of bytes
abbrev pub Bytes : Type 0
Bytes = List ℕ

-- the buffer after the bytes were written into it from the place `at` on
unfoldable pub placed : Bytes → (at : ℕ) → Bytes → Bytes
placed buffer at bytes = take at buffer ++ (bytes ++ drop (at + length bytes) buffer)

-- the byte at a place, 0 past the end
abbrev pub byte : Bytes → ℕ → ℕ
byte bytes place = slice_index bytes place

-- a number in two bytes, the lowest first
abbrev pub le16 : ℕ → Bytes
le16 n = (n % 256) ∷ (n / 256 % 256) ∷ []

-- in three bytes
abbrev pub le24 : ℕ → Bytes
le24 n = (n % 256) ∷ (n / 256 % 256) ∷ (n / 65536 % 256) ∷ []

-- in four bytes
abbrev pub le32 : ℕ → Bytes
le32 n = (n % 256) ∷ (n / 256 % 256) ∷ (n / 65536 % 256) ∷ (n / 16777216 % 256) ∷ []

-- the number that two bytes say, the lowest first
abbrev pub two : (a b : ℕ) → ℕ
two a b = a + b * 256

-- the number that four bytes say, the lowest first
abbrev pub four : (a b c d : ℕ) → ℕ
four a b c d = a + b * 256 + c * 65536 + d * 16777216

-- from the one number to the other, both included
abbrev pub within : (low high : ℕ) → ℕ → Bool
within low high n = nat_le low n && nat_le n high

-- are two strings of bytes the same?
abbrev pub same_bytes : Bytes → Bytes → Bool
same_bytes [] [] = true
same_bytes [] (c ∷ cs) = false
same_bytes (b ∷ bs) [] = false
same_bytes (b ∷ bs) (c ∷ cs) = b == c && same_bytes bs cs
