-- What is said after a row that is known already. Assumes nothing.
use Rattle.std.proofs.Common.{◌≡◌, ℕ, ◌+◌, ◌*◌, ◌/◌, ◌<◌, ◌≤◌, zero, suc, List, [], ◌∷◌, ◌++◌, length, get_or, drop, Some, None, Ok, Err, Result, sym, refl, ap, ◌∙◌, append_assoc, append-nil, arith}
use Rattle.std.proofs.lemmas.List.{at_drop_more, at_drop_all}
use Rattle.std.specs.Simd.{first_chunks}
use Rattle.event.specs.Bytes.{Bytes}
use Rattle.syntax.specs.declared.fault.Fault.{Fault}
use Rattle.syntax.specs.declared.fault.Fault.TheVariants.{OddDigits, NoDigits}
use Rattle.syntax.specs.Numbers.{digit_of}
use Rattle.syntax.specs.Strings.{behind, pair, pairs_of}

-- what is said, with these before it
abbrev pub after : {X : Type 0} → List X → Result (List X) Fault → Result (List X) Fault
after done (Ok xs) = Ok (done ++ xs)
after done (Err fault) = Err fault

-- nothing before it
pub after_none : {X : Type 0} (said : Result (List X) Fault) → after [] said ≡ said
after_none (Ok xs) = refl
after_none (Err fault) = refl

-- one more before it
pub after_more : {X : Type 0} (done : List X) (x : X) (said : Result (List X) Fault) → after (done ++ x ∷ []) said ≡ after done (behind x said)
after_more done x (Ok xs) = ap Ok (append_assoc done (x ∷ []) xs)
after_more done x (Err fault) = refl

-- all of it
pub after_all : {X : Type 0} (done : List X) → after done (Ok []) ≡ Ok done
after_all done = ap Ok (append-nil done)

-- the bytes of pairs of digits, and then the fault of a digit that is left over
abbrev pub said_by : (over : Bytes) → List Bytes → Result Bytes Fault
said_by [] [] = Ok []
said_by (b ∷ bs) [] = Err OddDigits
said_by over (two ∷ others) = pair (digit_of (get_or two 0 0)) (digit_of (get_or two 1 0)) (said_by over others)

-- a word is cut into its pairs
pub said_by-chunks : (k : ℕ) (word : Bytes) → k ≡ length word / 2 → said_by (drop (k * 2) word) (first_chunks 2 k word) ≡ pairs_of word
unfolding pairs_of
said_by-chunks zero [] e = refl
said_by-chunks (suc k) [] e = absurd (omega arith)
said_by-chunks zero (a ∷ []) e = refl
said_by-chunks (suc k) (a ∷ []) e = absurd (omega arith)
said_by-chunks zero (a ∷ b ∷ rest) e = absurd (omega arith)
said_by-chunks (suc k) (a ∷ b ∷ rest) e =
    let two : suc k * 2 ≡ suc (suc (k * 2)) = omega arith in
    ap (λ n. pair (digit_of a) (digit_of b) (said_by (drop n (a ∷ b ∷ rest)) (first_chunks 2 k rest))) two
    ∙ ap (pair (digit_of a) (digit_of b)) (said_by-chunks k rest (omega arith))

-- a pair is read
pub pair_turn : (was now over : Bytes) (twos : List Bytes) (i high low : ℕ) → i < length twos → Some high ≡ digit_of (get_or (get_or twos i []) 0 0) → Some low ≡ digit_of (get_or (get_or twos i []) 1 0)
    → now ≡ was ++ (high * 16 + low) ∷ []
    → after now (said_by over (drop (i + 1) twos)) ≡ after was (said_by over (drop i twos))
pair_turn was now over twos i high low inside is-high is-low e =
    let left = said_by over (drop (i + 1) twos) in
    ap (λ l. after l left) e
    ∙ after_more was (high * 16 + low) left
    ∙ ap (λ o. after was (pair o (Some low) left)) is-high
    ∙ ap (λ o. after was (pair (digit_of (get_or (get_or twos i []) 0 0)) o left)) is-low
    ∙ ap (after was) (sym (at_drop_more (said_by over) twos i [] inside))

-- the first of a pair is no digit
pub pair-first : (was over : Bytes) (twos : List Bytes) (i : ℕ) → i < length twos → None ≡ digit_of (get_or (get_or twos i []) 0 0) → after was (said_by over (drop i twos)) ≡ Err NoDigits
pair-first was over twos i inside is =
    ap (after was) (at_drop_more (said_by over) twos i [] inside)
    ∙ ap (λ o. after was (pair o (digit_of (get_or (get_or twos i []) 1 0)) (said_by over (drop (i + 1) twos)))) (sym is)

-- the second of a pair is no digit
pub pair-second : (was over : Bytes) (twos : List Bytes) (i high : ℕ) → i < length twos → Some high ≡ digit_of (get_or (get_or twos i []) 0 0) → None ≡ digit_of (get_or (get_or twos i []) 1 0)
    → after was (said_by over (drop i twos)) ≡ Err NoDigits
pair-second was over twos i high inside is-high is =
    let left = said_by over (drop (i + 1) twos) in
    ap (after was) (at_drop_more (said_by over) twos i [] inside)
    ∙ ap (λ o. after was (pair o (digit_of (get_or (get_or twos i []) 1 0)) left)) (sym is-high)
    ∙ ap (λ o. after was (pair (Some high) o left)) (sym is)

-- no pair is left, and no digit
pub pairs_even : (was over : Bytes) (twos : List Bytes) (i : ℕ) → length twos ≤ i → length over ≡ 0 → after was (said_by over (drop i twos)) ≡ Ok was
pairs_even was [] twos i end h = ap (after was) (at_drop_all (said_by []) twos i end) ∙ after_all was
pairs_even was (b ∷ bs) twos i end h = absurd (omega arith)

-- no pair is left, and a digit
pub pairs_odd : (was over : Bytes) (twos : List Bytes) (i : ℕ) → length twos ≤ i → 0 < length over → after was (said_by over (drop i twos)) ≡ Err OddDigits
pairs_odd was [] twos i end h = absurd (omega arith)
pairs_odd was (b ∷ bs) twos i end h = ap (after was) (at_drop_all (said_by (b ∷ bs)) twos i end)
