-- the words so far, and then those that the piece since `start` and the rest make
use Rattle.std.proofs.Common.{◌≡◌, ◌≤◌, ◌++◌, drop, vec_items}
use Rattle.std.specs.List.{between}
use Rattle.syntax.specs.Lines.{texts, words_from, words_of}
use Rattle.syntax.proofs.words.words.Given as goal

abbrev pub invariant-loop-i : goal.invariant-loop-i
invariant-loop-i l =
    (l.start ≤ l.i)
    × (texts (vec_items l.words) ++ words_from (between l.start l.i l.said) (drop l.i l.said) ≡ words_of l.said)
