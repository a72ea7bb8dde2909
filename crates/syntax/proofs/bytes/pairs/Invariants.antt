-- the bytes so far, and then those of the pairs that are left
use Rattle.std.proofs.Common.{◌≡◌, drop, vec_items}
use Rattle.syntax.specs.Strings.{pairs_of}
use Rattle.syntax.proofs.Rows.{after, said_by}
use Rattle.syntax.proofs.bytes.pairs.Given as goal

abbrev pub invariant-loop-high : goal.invariant-loop-high
invariant-loop-high l = after (vec_items l.bytes) (said_by l.rest (drop l.high-index l.pairs)) ≡ pairs_of l.word
