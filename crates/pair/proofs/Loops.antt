-- A run, by the calls that are left. Assumes nothing.
use Rattle.std.proofs.Common.{◌≡◌, ℕ, zero, suc, ◌+◌, ◌<◌, ◌≤◌, List, [], ◌∷◌, ◌++◌, length, get_or, take, drop, set, Some, None, Option, sym, refl, ap, ◌∙◌, subst, arith}
use Rattle.std.proofs.lemmas.List.{drop_more, drop_all, take_more_set, take-append-drop, append_assoc, length-map, map-set, get_or-map}
use Rattle.protocol.specs.Pair.{Pair, Call, run, outcomes}
use Rattle.pair.specs.declared.call.Task.{Task}
use Rattle.pair.specs.declared.record.Record.{Record}
use Rattle.pair.specs.View.{step_if, outcome_if}
use Rattle.pair.specs.Runs.{call_for, calls_in, prepend, replies_to, prepend_to, outcomes_among, Note, note_of, notes_of, note_after, notes_after, Ran}

-- the pair after each of the calls
abbrev pub end_of : Pair → List Task → Pair
end_of p [] = p
end_of p (t ∷ ts) = end_of (step_if p (call_for p t)) ts

-- one call and then the others
pub run-prepend : (p : Pair) (c : Option Call) (cs : List Call) → run (step_if p c) cs ≡ run p (prepend c cs)
run-prepend p None cs = refl
run-prepend p (Some c) cs = refl

outcomes-prepend : (p : Pair) (c : Option Call) (cs : List Call) → prepend_to (outcome_if p c) (outcomes (step_if p c) cs) ≡ outcomes p (prepend c cs)
outcomes-prepend p None cs = refl
outcomes-prepend p (Some c) cs = refl

-- it is the run of the definitions
end_run : (p : Pair) (ts : List Task) → end_of p ts ≡ run p (calls_in p ts)
end_run p [] = refl
end_run p (t ∷ ts) = end_run (step_if p (call_for p t)) ts ∙ run-prepend p (call_for p t) (calls_in (step_if p (call_for p t)) ts)

-- and so are its outcomes
pub outcomes-run : (p : Pair) (ts : List Task) → outcomes_among (replies_to p ts) ≡ outcomes p (calls_in p ts)
outcomes-run p [] = refl
outcomes-run p (t ∷ ts) =
    ap (prepend_to (outcome_if p (call_for p t))) (outcomes-run (step_if p (call_for p t)) ts)
    ∙ outcomes-prepend p (call_for p t) (calls_in (step_if p (call_for p t)) ts)

-- one more call
pub end_more : (p q end : Pair) (ts : List Task) (i : ℕ) (d : Task) → i < length ts → q ≡ step_if p (call_for p (get_or ts i d)) → end_of p (drop i ts) ≡ end
    → end_of q (drop (i + 1) ts) ≡ end
end_more p q end ts i d h e inv = ap (λ (x : Pair). end_of x (drop (i + 1) ts)) e ∙ sym (ap (end_of p) (drop_more ts i d h)) ∙ inv

-- no more calls
pub end_all : (p q : Pair) (ts : List Task) (i : ℕ) → length ts ≤ i → end_of q (drop i ts) ≡ end_of p ts → q ≡ run p (calls_in p ts)
end_all p q ts i h inv = sym (ap (end_of q) (drop_all i ts h)) ∙ inv ∙ end_run p ts

-- what stands after a place that is set stays
past_set : (ns : List Note) (i : ℕ) (n : Note) → drop (suc i) (set ns i n) ≡ drop (suc i) ns
past_set [] i n = refl
past_set (m ∷ ns) zero n = refl
past_set (m ∷ ns) (suc i) n = past_set ns i n

drop-set : (ns : List Note) (i : ℕ) (n : Note) → drop (i + 1) (set ns i n) ≡ drop (i + 1) ns
drop-set ns i n = let next : suc i ≡ i + 1 = omega arith in subst (λ (k : ℕ). drop k (set ns i n) ≡ drop k ns) next (past_set ns i n)

-- the records of the calls made, with those that the calls left will leave
abbrev pub recorded : ℕ → List Note → Pair → List Task → List Note
recorded i ns p ts = take i ns ++ notes_after (replies_to p (drop i ts)) (drop i ns)

-- one more record
pub notes_more : (p q : Pair) (ts : List Task) (i : ℕ) (d : Task) (rs : List Record) (r old : Record) (end : List Note) → i < length ts → i < length rs
    → q ≡ step_if p (call_for p (get_or ts i d)) → note_of r ≡ note_after (outcome_if p (call_for p (get_or ts i d))) (note_of (get_or rs i old))
    → recorded i (notes_of rs) p ts ≡ end → recorded (i + 1) (notes_of (set rs i r)) q ts ≡ end
notes_more p q ts i d rs r old end h k e f inv =
    let ns = notes_of rs in
    let o = outcome_if p (call_for p (get_or ts i d)) in
    let p' = step_if p (call_for p (get_or ts i d)) in
    let inside : i < length ns = omega (arith, length-map rs note_of, k) in
    let here : note_of r ≡ note_after o (get_or ns i (note_of old)) = f ∙ ap (note_after o) (sym (get_or-map note_of rs i old (note_of old) k)) in
    ap (λ (xs : List Note). recorded (i + 1) xs q ts) (map-set note_of rs i r)
    ∙ ap (λ (x : Pair). recorded (i + 1) (set ns i (note_of r)) x ts) e
    ∙ ap (λ (xs : List Note). xs ++ notes_after (replies_to p' (drop (i + 1) ts)) (drop (i + 1) (set ns i (note_of r)))) (take_more_set ns i (note_of r) inside)
    ∙ append_assoc (take i ns) (note_of r ∷ []) (notes_after (replies_to p' (drop (i + 1) ts)) (drop (i + 1) (set ns i (note_of r))))
    ∙ ap (λ (xs : List Note). take i ns ++ (note_of r ∷ notes_after (replies_to p' (drop (i + 1) ts)) xs)) (drop-set ns i (note_of r))
    ∙ ap (λ (x : Note). take i ns ++ (x ∷ notes_after (replies_to p' (drop (i + 1) ts)) (drop (i + 1) ns))) here
    ∙ ap (λ (xs : List Note). take i ns ++ notes_after (o ∷ replies_to p' (drop (i + 1) ts)) xs) (sym (drop_more ns i (note_of old) inside))
    ∙ ap (λ (xs : List Task). take i ns ++ notes_after (replies_to p xs) (drop i ns)) (sym (drop_more ts i d h))
    ∙ inv

-- no more records
pub notes_all : (p q : Pair) (ts : List Task) (i : ℕ) (before ns : List Note) → length ts ≤ i → recorded i ns q ts ≡ notes_after (replies_to p ts) before
    → ns ≡ notes_after (replies_to p ts) before
notes_all p q ts i before ns h inv =
    sym (take-append-drop i ns) ∙ sym (ap (λ (xs : List Task). take i ns ++ notes_after (replies_to q xs) (drop i ns)) (drop_all i ts h)) ∙ inv

-- calls that all have records, and calls that have not
pub ran_as : (p after : Pair) (us ts : List Task) (before filled : List Note) → us ≡ ts → Ran p ts after before filled → Ran p us after before filled
ran_as p after us ts before filled e s = subst (λ (xs : List Task). Ran p xs after before filled) (sym e) s

-- no call
pub ran_none : (p : Pair) (ns : List Note) → Ran p [] p ns ns
ran_none p ns = record { pair = refl; records = refl; outcomes = refl }
