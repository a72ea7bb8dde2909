-- The words of a line. Assumes nothing.
use Rattle.std.specs.Prelude.{ℕ, Bool, cond, ◌||◌, List, [], ◌∷◌, ◌++◌, map, ◌==◌}
use Rattle.std.specs.Borrow.{Bor}
use Rattle.event.specs.Bytes.{Bytes}

-- the line up to its first `#`
unfoldable pub uncommented : Bytes → Bytes
uncommented [] = []
uncommented (b ∷ bs) = cond (b == 35) [] (b ∷ uncommented bs)

-- does a byte stand between words: a blank, a tab or a carriage return?
abbrev pub blank : ℕ → Bool
blank b = b == 32 || b == 9 || b == 13

-- a piece of a line is a word unless it is empty
abbrev pub word_if : Bytes → List Bytes
word_if [] = []
word_if (b ∷ bs) = (b ∷ bs) ∷ []

-- the words of what is left of a line, after a piece that goes on in it
unfoldable pub words_from : (piece : Bytes) → Bytes → List Bytes
words_from piece [] = word_if piece
words_from piece (b ∷ bs) = cond (blank b) (word_if piece ++ words_from [] bs) (words_from (piece ++ b ∷ []) bs)

-- the words of a line
abbrev pub words_of : Bytes → List Bytes
words_of line = words_from [] line

-- what each of several parts of a text is
abbrev pub texts : List (Bor Bytes) → List Bytes
texts parts = map (λ part. part.now) parts

-- each word with a blank before it
unfoldable pub led : List Bytes → Bytes
led [] = []
led (w ∷ ws) = (32 ∷ w) ++ led ws

-- words joined by one blank
abbrev pub spaced : List Bytes → Bytes
spaced [] = []
spaced (w ∷ ws) = w ++ led ws
