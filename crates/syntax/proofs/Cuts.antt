-- A line that is cut into its pieces, and words that are joined. Assumes nothing.
use Rattle.std.proofs.Common.{◌≡◌, ℕ, ◌+◌, ◌-◌, ◌<◌, ◌≤◌, true, false, eqb, List, [], ◌∷◌, ◌++◌, length, get_or, take, drop, cond, not, Bool, Some, None, one-add, sym, refl, ap, ◌∙◌, append_assoc, append-nil, arith, Bor, ⊎_elim, ltb}
use Rattle.std.proofs.lemmas.List.Edits.{between_more, between_none}
use Rattle.std.proofs.lemmas.List.{at_drop_more, at_drop_all, take_all, take_rest, map_push}
use Rattle.std.proofs.lemmas.Option.{cond_some, none-some}
use Rattle.std.proofs.lemmas.Bool.{lt-ltb, cases_lt, cond-true, cond-false}
use Rattle.std.specs.List.{position, position_or_len, before_first, onto_first, between}
use Rattle.event.specs.Bytes.{Bytes}
use Rattle.syntax.specs.Lines.{uncommented, blank, word_if, words_from, texts, led, spaced}

-- what `position` says, by the place that it is
position_some : (p : ℕ → Bool) (xs : Bytes) (i : ℕ) → Some i ≡ position p xs → i ≡ position_or_len p xs
position_some p xs i found = sym (cond_some (ltb (position_or_len p xs) (length xs)) (position_or_len p xs) i (sym found)).1

position_none : (p : ℕ → Bool) (xs : Bytes) → None ≡ position p xs → length xs ≤ position_or_len p xs
position_none p xs found =
    let n = position_or_len p xs in
    ⊎_elim
    (λ h. absurd (none-some n (found ∙ cond-true (ltb n (length xs)) (Some n) None (lt-ltb n (length xs) h))))
    (λ h. h)
    (cases_lt n (length xs))

-- a line is cut at its first `#`
uncommented-is : (line : Bytes) → before_first (λ b. eqb b 35) line ≡ uncommented line
unfolding uncommented
uncommented-is [] = refl
uncommented-is (b ∷ bs) = elim (eqb b 35) as (λ v. take (cond (not v) (1 + position_or_len (λ b. eqb b 35) bs) 0) (b ∷ bs) ≡ cond v [] (b ∷ uncommented bs)) [
  | true ↦ refl
  | false ↦ ap (λ n. take n (b ∷ bs)) (one-add (position_or_len (λ b. eqb b 35) bs)) ∙ ap (λ l. b ∷ l) (uncommented-is bs)
]

-- the part of a line before the first `#` that was found
pub uncommented-found : (line : Bytes) (end : ℕ) → Some end ≡ position (λ b. eqb b 35) line → take end line ≡ uncommented line
uncommented-found line end found = ap (λ n. take n line) (position_some (λ b. eqb b 35) line end found) ∙ uncommented-is line

-- a line in which none was found
pub uncommented-none : (line : Bytes) → None ≡ position (λ b. eqb b 35) line → line ≡ uncommented line
uncommented-none line found = sym (take_all (position_or_len (λ b. eqb b 35) line) line (position_none (λ b. eqb b 35) line found)) ∙ uncommented-is line

-- the parts of what follows a piece that goes on in it
abbrev pub onto : Bytes → List Bytes → List Bytes
onto piece [] = piece ∷ []
onto piece (part ∷ parts) = (piece ++ part) ∷ parts

pub onto-onto_first : (piece : Bytes) (b : ℕ) (parts : List Bytes) → onto piece (onto_first b parts) ≡ onto (piece ++ b ∷ []) parts
onto-onto_first piece b [] = refl
onto-onto_first piece b (part ∷ parts) = ap (λ p. p ∷ parts) (sym (append_assoc piece (b ∷ []) part))

-- one word more, with a blank before it
led_more : (words : List (Bor Bytes)) (i : ℕ) (d : Bor Bytes) → i < length words → led (texts (drop i words)) ≡ (32 ∷ (get_or words i d).now) ++ led (texts (drop (i + 1) words))
unfolding led
led_more words i d inside = at_drop_more (λ ws. led (texts ws)) words i d inside

-- no word is left
led_all : (words : List (Bor Bytes)) (i : ℕ) → length words ≤ i → led (texts (drop i words)) ≡ []
unfolding led
led_all words i end = at_drop_all (λ ws. led (texts ws)) words i end

-- no words
pub spaced-none : (words : List (Bor Bytes)) → length words ≡ 0 → spaced (texts words) ≡ []
spaced-none [] h = refl
spaced-none (w ∷ ws) h = absurd (omega arith)

-- the first word, and the others
pub spaced-start : (words : List (Bor Bytes)) (d : Bor Bytes) (new text : Bytes) → 1 ≤ length words → new ≡ [] → text ≡ new ++ (get_or words 0 d).now
    → text ++ led (texts (drop 0 (take (length words - 1) (drop 1 words)))) ≡ spaced (texts words)
spaced-start [] d new text h empty e = absurd (omega arith)
spaced-start (w ∷ ws) d new text h empty e =
    ap (λ l. text ++ led (texts l)) (take_rest (w ∷ ws) 1)
    ∙ ap (λ l. l ++ led (texts ws)) (e ∙ ap (λ l. l ++ w.now) empty)

-- a blank and a word were written
pub led-turn : (rest : List (Bor Bytes)) (d : Bor Bytes) (i : ℕ) (was mid now : Bytes) → i < length rest → mid ≡ was ++ 32 ∷ [] → now ≡ mid ++ (get_or rest i d).now
    → now ++ led (texts (drop (i + 1) rest)) ≡ was ++ led (texts (drop i rest))
led-turn rest d i was mid now inside blanked e =
    let word = (get_or rest i d).now in
    let left = led (texts (drop (i + 1) rest)) in
    ap (λ l. l ++ left) (e ∙ ap (λ l. l ++ word) blanked)
    ∙ append_assoc (was ++ 32 ∷ []) word left
    ∙ append_assoc was (32 ∷ []) (word ++ left)
    ∙ ap (λ l. was ++ l) (sym (led_more rest i d inside))

-- all words were written
pub led_end : (rest : List (Bor Bytes)) (i : ℕ) (text : Bytes) → length rest ≤ i → text ≡ text ++ led (texts (drop i rest))
led_end rest i text end = sym (ap (λ l. text ++ l) (led_all rest i end) ∙ append-nil text)

-- a blank ends a piece
blank-here : (piece line : Bytes) (i : ℕ) → i < length line → blank (get_or line i 0) ≡ true → words_from piece (drop i line) ≡ word_if piece ++ words_from [] (drop (i + 1) line)
unfolding words_from
blank-here piece line i inside is =
    at_drop_more (words_from piece) line i 0 inside
    ∙ cond-true (blank (get_or line i 0)) (word_if piece ++ words_from [] (drop (i + 1) line)) (words_from (piece ++ get_or line i 0 ∷ []) (drop (i + 1) line)) is

-- another byte goes on in its piece
pub word_longer : (start : ℕ) (line : Bytes) (i : ℕ) → start ≤ i → i < length line → blank (get_or line i 0) ≡ false → words_from (between start i line) (drop i line) ≡ words_from (between start (i + 1) line) (drop (i + 1) line)
unfolding words_from
word_longer start line i from inside is =
    at_drop_more (words_from (between start i line)) line i 0 inside
    ∙ cond-false (blank (get_or line i 0)) (word_if (between start i line) ++ words_from [] (drop (i + 1) line)) (words_from (between start i line ++ get_or line i 0 ∷ []) (drop (i + 1) line)) is
    ∙ ap (λ piece. words_from piece (drop (i + 1) line)) (sym (between_more line start i 0 from inside))

-- the last piece
word_last : (piece line : Bytes) (i : ℕ) → length line ≤ i → words_from piece (drop i line) ≡ word_if piece
unfolding words_from
word_last piece line i end = at_drop_all (words_from piece) line i end

-- a piece with a byte or more is a word
word_some : (piece : Bytes) → 0 < length piece → word_if piece ≡ piece ∷ []
word_some [] h = absurd (omega arith)
word_some (b ∷ bs) h = refl

-- a word was kept at a blank
pub word_turn : (was now : List Bytes) (line : Bytes) (start i : ℕ) → i < length line → blank (get_or line i 0) ≡ true → now ≡ was ++ word_if (between start i line)
    → now ++ words_from (between (i + 1) (i + 1) line) (drop (i + 1) line) ≡ was ++ words_from (between start i line) (drop i line)
word_turn was now line start i inside is e =
    let piece = between start i line in
    let left = drop (i + 1) line in
    ap (λ p. now ++ words_from p left) (between_none line (i + 1))
    ∙ ap (λ l. l ++ words_from [] left) e
    ∙ append_assoc was (word_if piece) (words_from [] left)
    ∙ ap (λ l. was ++ l) (sym (blank-here piece line i inside is))

-- the last word was kept
pub word_end : (was now : List Bytes) (line : Bytes) (start i : ℕ) → i ≡ length line → now ≡ was ++ word_if (between start (length line) line) → now ≡ was ++ words_from (between start i line) (drop i line)
word_end was now line start i end e =
    let h : length line ≤ i = omega arith in
    e
    ∙ ap (λ k. was ++ word_if (between start k line)) (sym end)
    ∙ ap (λ l. was ++ l) (sym (word_last (between start i line) line i h))

-- a word was put behind the others
pub keep_turn : (was now : List (Bor Bytes)) (piece : Bor Bytes) → 0 < length piece.now → now ≡ was ++ piece ∷ [] → texts now ≡ texts was ++ word_if piece.now
keep_turn was now piece some e =
    ap texts e ∙ map_push (λ p. p.now) was piece ∙ ap (λ l. texts was ++ l) (sym (word_some piece.now some))
