use Rattle.std.proofs.Common.{◌≡◌, ◌+◌, length}
use Rattle.list.specs.View.{left}
use Rattle.crossing.specs.Reading.{with_rows}
use Rattle.crossing.proofs.output.show_occurrences.Given as goal

-- writing what is left gives what the whole gives
abbrev pub invariant-loop-occurrence : goal.invariant-loop-occurrence
invariant-loop-occurrence l =
    (with_rows l.rows l.at (left l.occurrence-iterator) ≡ with_rows l.initial.rows 0 (left l.list))
    × (l.at + length (left l.occurrence-iterator) ≡ length (left l.list))
