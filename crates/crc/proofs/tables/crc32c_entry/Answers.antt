-- Row k of the tables is the list of what 8 * (k + 1) bit steps make of 0, 1, .. 255: antt computes all rows. Assumes nothing.
use Rattle.std.proofs.Common.{ℕ, ◌+◌, ◌*◌, List, [], map, get_or, ap, ◌∙◌, arith}
use Rattle.std.specs.List.{range_with_len}
use Rattle.std.proofs.lemmas.List.FromFn.{get_or-map-range_with_len}
use Rattle.crc.specs.Crc.{repeated, bit_step}
use Rattle.crc.proofs.tables.crc32c_entry.Goals as goal

abbrev row : ℕ → List ℕ
row k = map (repeated bit_step (8 * (k + 1))) (range_with_len 0 256)

pub returns : goal.returns
unfolding repeated bit_step
returns c =
    let k = c.args.row in
    let i = c.from.result in
    ap (λ (entries : List ℕ). get_or entries i 0) (get_or-map-range_with_len row 0 8 k k [] (omega arith) (omega arith))
    ∙ get_or-map-range_with_len (repeated bit_step (8 * (k + 1))) 0 256 i c.args.byte 0 (omega arith) (omega arith)
