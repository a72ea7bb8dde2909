use Rattle.std.proofs.Common.{◌≡◌, drop}
use Rattle.pair.specs.View.{pair_in}
use Rattle.pair.specs.Runs.{replies_to, notes_of, notes_after}
use Rattle.pair.proofs.Loops.{end_of, recorded}
use Rattle.pair.proofs.pair.Pair.run_all.Given as goal

abbrev pub invariant-loop-i : goal.invariant-loop-i
invariant-loop-i g l =
    let pair = pair_in g.B.Board.told g.C.Carrier.carried in
    (end_of (pair l.self) (drop l.i l.tasks) ≡ end_of (pair l.initial.self) l.tasks)
    × (recorded l.i (notes_of l.records) (pair l.self) l.tasks ≡ notes_after (replies_to (pair l.initial.self) l.tasks) (notes_of l.initial.records))
