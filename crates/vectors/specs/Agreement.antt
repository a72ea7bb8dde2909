-- What a published check is held to. Assumes nothing.
use Rattle.std.specs.Prelude.{ℕ, List}
use Rattle.crc.specs.Crc.{crc32c, crc8}
use Rattle.vectors.specs.declared.vector.Check.{Check}
use Rattle.vectors.specs.declared.vector.Check.TheVariants.{Crc32c, Crc8}

-- the check of some bytes, by the definition of its kind
abbrev pub check_of : Check → List ℕ → ℕ
check_of Crc32c bytes = crc32c bytes
check_of Crc8 bytes = crc8 bytes
