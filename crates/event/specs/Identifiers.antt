-- Enabled identifiers: a set of 256, as four words of 64 bits. Assumes nothing.
use Rattle.std.specs.Prelude.{◌≡◌, ℕ, ◌-◌, ◌/◌, ◌%◌, ◌^◌, ◌<◌, Bool, false, cond, not, ◌||◌, List, [], ◌∷◌, ◌==◌, bit_and, bit_or, slice_index, slice_set}

-- four words, identifiers 0 to 63 in the first
abbrev pub Words : Type 0
Words = List ℕ

-- the empty set
abbrev pub nothing : Words
nothing = 0 ∷ 0 ∷ 0 ∷ 0 ∷ []

-- is bit k of the word set?
abbrev pub bit : (word k : ℕ) → Bool
bit word k = word / 2 ^ k % 2 == 1

-- is the identifier in the set?
unfoldable pub has : Words → (identifier : ℕ) → Bool
has words identifier = bit (slice_index words (identifier / 64)) (identifier % 64)

-- the word with one bit set or cleared
abbrev pub bit_put : (on : Bool) → (k word : ℕ) → ℕ
bit_put on k word = cond on (bit_or word (2 ^ k)) (bit_and word (2 ^ 64 - 1 - 2 ^ k))

-- the set with the identifier switched on or off
unfoldable pub switched : (on : Bool) → (identifier : ℕ) → Words → Words
switched on identifier words = slice_set words (identifier / 64) (bit_put on (identifier % 64) (slice_index words (identifier / 64)))

-- is an identifier in the set?
abbrev pub any : Words → Bool
any [] = false
any (word ∷ words) = not (word == 0) || any words

-- one identifier was switched, and no other
abbrev pub Switches : (on : Bool) → (identifier : ℕ) → (before after : Words) → Type 0
Switches on identifier before after = (j : ℕ) → j < 256 → has after j ≡ cond (j == identifier) on (has before j)
