-- the items so far, and then those of the pieces that are left
use Rattle.std.proofs.Common.{◌≡◌, length, drop, vec_items}
use Rattle.script.proofs.Pieces.{pieces, all_items}
use Rattle.syntax.proofs.Rows.{after}
use Rattle.script.proofs.items.listed.Given as goal

abbrev pub invariant-loop-piece : goal.invariant-loop-piece
invariant-loop-piece l =
    (goal.iterator-loop-piece).can_next l.piece-iterator
    × (goal.iterator-loop-piece).is_finite l.piece-iterator
    × (after (vec_items l.items) (all_items (drop (length l.yielded) (pieces l.word))) ≡ all_items (pieces l.word))
