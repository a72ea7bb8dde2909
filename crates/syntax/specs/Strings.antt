-- What a word of pairs of digits says. Assumes nothing.
use Rattle.std.specs.Prelude.{◌≡◌, ℕ, ◌+◌, ◌*◌, Bool, cond, ◌&&◌, ◌⊎◌, List, [], ◌∷◌, length, Some, None, Ok, Err, vec_items, Option, Result, Vec, ◌==◌}
use Rattle.event.specs.Bytes.{Bytes, byte}
use Rattle.syntax.specs.declared.fault.Fault.{Fault}
use Rattle.syntax.specs.declared.fault.Fault.TheVariants.{OddDigits, NoDigits, OutOfMemory}
use Rattle.syntax.specs.Numbers.{digit_of}

-- a result is what is said, as `view` sees it, unless no memory is left
abbrev pub GivesAs : {A B : Type 0} → (A → B) → Result A Fault → Result B Fault → Type 0
GivesAs view (Ok value) said = said ≡ Ok (view value)
GivesAs view (Err fault) said = (fault ≡ OutOfMemory) ⊎ (said ≡ Err fault)

-- the same of a row
abbrev pub Gives : {X Z : Type 0} → Result (Vec X Z) Fault → Result (List X) Fault → Type 0
Gives result said = GivesAs vec_items result said

-- what is said, with this before it
abbrev pub behind : {X : Type 0} → X → Result (List X) Fault → Result (List X) Fault
behind x (Ok xs) = Ok (x ∷ xs)
behind x (Err fault) = Err fault

-- the byte of two digits, before the bytes of the rest
abbrev pub pair : Option ℕ → Option ℕ → Result Bytes Fault → Result Bytes Fault
pair None low rest = Err NoDigits
pair (Some high) None rest = Err NoDigits
pair (Some high) (Some low) rest = behind (high * 16 + low) rest

-- the bytes of pairs of hexadecimal digits
unfoldable pub pairs_of : Bytes → Result Bytes Fault
pairs_of [] = Ok []
pairs_of (a ∷ []) = Err OddDigits
pairs_of (a ∷ b ∷ rest) = pair (digit_of a) (digit_of b) (pairs_of rest)

-- is a word just `-`?
abbrev pub is_dash : Bytes → Bool
is_dash word = length word == 1 && byte word 0 == 45

-- the bytes that a word says: none for `-`
abbrev pub bytes_of : Bytes → Result Bytes Fault
bytes_of word = cond (is_dash word) (Ok []) (pairs_of word)
