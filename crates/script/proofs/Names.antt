-- Names that are matched byte by byte, and words that are matched one by one. Assumes nothing.
use Rattle.std.proofs.Common.{◌≡◌, ℕ, ◌<◌, suc, false, List, [], ◌∷◌, length, get_or, drop, codes, sym, refl, ap, ◌∙◌, ⊎_elim, arith, length-drop, Bor}
use Rattle.std.proofs.Math.Seq.{drop-cons}
use Rattle.std.proofs.lemmas.Bool.{cases_Bool}
use Rattle.std.proofs.lemmas.Slice.Eq.{HasBytesAt, bytes_eq-Decides}
use Rattle.std.specs.Str.{bytes_eq}
use Rattle.event.specs.Bytes.{Bytes}
use Rattle.syntax.specs.Lines.{texts}
use Rattle.script.specs.Commands.{call_of, command_of}

-- what stands from an index on is read there
reads_from : (s p : Bytes) (i : ℕ) → drop i s ≡ p → HasBytesAt s i p
reads_from s [] i e = tt
reads_from s (b ∷ bs) i e =
    let inside : i < length s = omega (arith, ap length e, length-drop i s) in
    let cut = sym (drop-cons s i 0 inside) ∙ e in
    (cc, reads_from s bs (suc i) (cc))

-- the reads of a name that is known
pub reads : (s p : Bytes) → s ≡ p → (length s ≡ length p) × HasBytesAt s 0 p
reads s p e = (ap length e, reads_from s p 0 e)

-- another name
pub bytes_eq-other : (s p : Bytes) → (s ≡ p → ⊥) → bytes_eq s p ≡ false
bytes_eq-other s p other =
    ⊎_elim (λ same. absurd (other ((bytes_eq-Decides s p).0 same))) (λ e. e) (cases_Bool (bytes_eq s p))

-- a name that is not read is another
pub unread : (s p : Bytes) → ((length s ≡ length p) × HasBytesAt s 0 p → ⊥) → bytes_eq s p ≡ false
unread s p other = bytes_eq-other s p (λ e. other (reads s p e))

-- what stands for a word where there is none
abbrev pub no_word : Bor Bytes
no_word = record { ref_ptr = (0, 0); now = [] }

-- the first of some words, and the others
pub texts-first : (words : List (Bor Bytes)) (d : Bor Bytes) → 0 < length words → texts words ≡ (get_or words 0 d).now ∷ texts (drop 1 words)
texts-first [] d h = absurd (omega arith)
texts-first (w ∷ ws) d h = refl

-- the words of a call
pub command-call : (words : List (Bor Bytes)) → let name = (get_or words 0 no_word).now in
    bytes_eq name (codes "board") ≡ false → bytes_eq name (codes "row") ≡ false → bytes_eq name (codes "carrier") ≡ false → command_of (texts words) ≡ call_of (texts words)
command-call [] board row carrier = refl
command-call (w ∷ ws) board row carrier = rw (board, row, carrier)
