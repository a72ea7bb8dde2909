-- What a writer leaves, by whether its buffer has the room. Assumes nothing.
use Rattle.std.proofs.Common.{◌≡◌, ℕ, ◌<◌, ◌≤◌, length, Some, None, Option, sym, ap, ◌∙◌}
use Rattle.std.proofs.lemmas.Bool.{le-leb, lt-leb, cond-true, cond-false}
use Rattle.event.specs.Bytes.{Bytes, placed}
use Rattle.marks.specs.Written.{Written}

-- in a buffer with room
pub written : (room : ℕ) (bytes before after : Bytes) (n : ℕ) → length bytes ≤ room → room ≤ length before → n ≡ length bytes → after ≡ placed before 0 bytes → Written room bytes before after (Some n)
written room bytes before after n short h e w = record {
  short = short;
  number = ap Some e ∙ sym (cond-true _ _ _ (le-leb room (length before) h));
  counts = (e, h);
  buffer = w ∙ sym (cond-true _ _ _ (le-leb room (length before) h));
}

-- in a shorter one
pub unwritten : (room : ℕ) (bytes before : Bytes) → length bytes ≤ room → length before < room → Written room bytes before before None
unwritten room bytes before short h = record {
  short = short;
  number = sym (cond-false _ _ _ (lt-leb room (length before) h));
  counts = h;
  buffer = sym (cond-false _ _ _ (lt-leb room (length before) h));
}

-- a buffer with room has the bytes at its front
pub written-buffer : (room : ℕ) (bytes before after : Bytes) (answer : Option ℕ) → Written room bytes before after answer → room ≤ length before → after ≡ placed before 0 bytes
written-buffer room bytes before after answer w h = w.buffer ∙ cond-true _ _ _ (le-leb room (length before) h)
