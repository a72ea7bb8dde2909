-- What digits and numbers say. Assumes nothing.
use Rattle.std.specs.Prelude.{◌≡◌, ℕ, ◌+◌, ◌-◌, ◌*◌, ◌^◌, ◌<◌, ◌≤◌, cond, [], ◌∷◌, Some, None, Ok, Err, Option, Result, MatchResult, nat_le, nat_lt}
use Rattle.event.specs.Bytes.{Bytes, within}
use Rattle.syntax.specs.declared.fault.Fault.{Fault}
use Rattle.syntax.specs.declared.fault.Fault.TheVariants.{NoNumber, OutOfRange}

-- the value of a hexadecimal digit, `0` to `9`, `A` to `F` or `a` to `f`; none for another byte
abbrev pub digit_of : ℕ → Option ℕ
digit_of byte = cond (within 48 57 byte) (Some (byte - 48)) (cond (within 65 70 byte) (Some (byte - 55)) (cond (within 97 102 byte) (Some (byte - 87)) None))

-- a value, if it is below the base
abbrev pub below : ℕ → Option ℕ → Option ℕ
below base None = None
below base (Some value) = cond (nat_lt value base) (Some value) None

-- the value of a digit of the base; none for another byte
abbrev pub digit_in : ℕ → ℕ → Option ℕ
digit_in base byte = below base (digit_of byte)

-- the number that digits say, the highest first, after those that said `before`; none where a byte is no digit
unfoldable pub digits_from : ℕ → (before : ℕ) → Bytes → Option ℕ
digits_from base before [] = Some before
digits_from base before (b ∷ bs) = elim (digit_in base b) [ None ↦ None | Some value ↦ digits_from base (before * base + value) bs ]

-- a number that is at most the limit
abbrev pub at_most : ℕ → Option ℕ → Result ℕ Fault
at_most limit None = Err NoNumber
at_most limit (Some number) = cond (nat_le number limit) (Ok number) (Err OutOfRange)

-- the number that a word says in a base, at most the limit: one digit or more, and nothing else
abbrev pub number_of : (base limit : ℕ) → Bytes → Result ℕ Fault
number_of base limit [] = Err NoNumber
number_of base limit (b ∷ bs) = at_most limit (digits_from base 0 (b ∷ bs))

-- a result, as the number that its value is
abbrev pub as_number : {T : Type 0} → (T → ℕ) → Result T Fault → Result ℕ Fault
as_number number (Ok value) = Ok (number value)
as_number number (Err fault) = Err fault

-- a type whose values are the numbers up to the greatest: a number is turned into its value, and one past the greatest into none
pub record IsUnsigned {T E : Type 0} (greatest : ℕ) (number : T → ℕ) (gives : ℕ → Result T E → Type 0) : Type 0 where
  pub low : greatest < 2 ^ 64
  pub held : (n : ℕ) (r : Result T E) → gives n r → MatchResult r (λ value. (n ≤ greatest) × (number value ≡ n)) (λ _. greatest < n)

-- the greatest number of a usize
abbrev pub usize_max : ℕ
usize_max = 18446744073709551615
