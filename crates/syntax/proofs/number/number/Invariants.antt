-- the digits that are left say the number, which is capped past the greatest
use Rattle.std.proofs.Common.{◌≡◌, ◌^◌, ◌≤◌, drop}
use Rattle.syntax.specs.Numbers.{digits_from, at_most}
use Rattle.syntax.proofs.number.number.Given as goal

abbrev pub invariant-loop-byte : goal.invariant-loop-byte
invariant-loop-byte g l = record {
  capped : l.value ≤ 2 ^ 64;
  said : at_most g.T.Unsigned.greatest (digits_from l.base l.value (drop l.byte-index l.word)) ≡ at_most g.T.Unsigned.greatest (digits_from l.base 0 l.word);
}
