use lib.Bits.{bit_xor, and_mask}
use Rattle.crc.specs.Crc.{byte_step}
use Rattle.crc.proofs.Steps.{after-split}
use Rattle.crc.proofs.byte_step.Goals as goal

pub returns : goal.returns
unfolding byte_step
returns c =
    let sum = bit_xor c.args.register c.args.byte in
    let low = and_mask sum 8 in
    let apart = after-split 8 sum in
    cc
