-- the text so far, and then the words that are left, each with a blank before it
use Rattle.std.proofs.Common.{◌≡◌, ◌++◌, drop, vec_items}
use Rattle.syntax.specs.Lines.{texts, led, spaced}
use Rattle.syntax.proofs.words.joined.Given as goal

abbrev pub invariant-loop-word : goal.invariant-loop-word
invariant-loop-word l = vec_items l.text ++ led (texts (drop l.word-index l.rest)) ≡ spaced (texts l.words)
