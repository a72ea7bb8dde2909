use Rattle.std.proofs.Common.{◌/◌, length, rules}
use Rattle.crc.specs.Crc.{byte_step, crc32c}
use Rattle.crc.proofs.Parts.{folded_chunked}
use Rattle.crc.proofs.crc32c.Goals as goal

pub returns : goal.returns
unfolding crc32c
returns c =
    let bytes = c.args.bytes.now in
    let whole = folded_chunked byte_step 8 (length bytes / 8) 0xFFFFFFFF bytes in
    search rules
