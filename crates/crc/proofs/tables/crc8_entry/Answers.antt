-- The table is the list of what eight bit steps make of 0, 1, .. 255, which antt computes. Assumes nothing.
use Rattle.std.proofs.Common.{arith}
use Rattle.std.proofs.lemmas.List.FromFn.{get_or-map-range_with_len}
use Rattle.crc.specs.Crc.{repeated, bit_step8}
use Rattle.crc.proofs.tables.crc8_entry.Goals as goal

pub returns : goal.returns
unfolding repeated bit_step8
returns c = get_or-map-range_with_len (repeated bit_step8 8) 0 256 c.from.result c.args.byte 0 (omega arith) (omega arith)
