-- The two delays, in ticks of 100 ms. Assumes nothing.
use Rattle.std.specs.Prelude.{ℕ, ◌*◌}

-- a delay of so many seconds
abbrev pub seconds_in_ticks : ℕ → ℕ
seconds_in_ticks seconds = 10 * seconds

-- a delay of so many tenths of a second
abbrev pub tenths_in_ticks : ℕ → ℕ
tenths_in_ticks tenths = tenths
