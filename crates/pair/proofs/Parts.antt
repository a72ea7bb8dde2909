-- A call of a run works in the front part of its record's buffer. Assumes nothing.
use Rattle.std.proofs.Common.{◌≡◌, ℕ, ◌+◌, ◌≤◌, ◌++◌, length, take, drop, Option, Result, sym, ap, ◌∙◌, subst, arith, length-append}
use Rattle.std.proofs.lemmas.List.{length-take-le, length-drop, take-append-drop, drop-append-le, append_assoc}
use Rattle.event.specs.declared.refusal.Refusal.{Refusal}
use Rattle.event.specs.Bytes.{Bytes}
use Rattle.event.specs.Outcomes.{over_front}
use Rattle.protocol.specs.Pair.{Pair, Call}
use Rattle.pair.specs.declared.call.Task.{Task}
use Rattle.pair.specs.View.{Steps, call_to, outcome_if, result_if, written_if}
use Rattle.pair.specs.Runs.{room_of, call_for, Note, note_after}

-- what is written to the front of a part is written to the front of the whole
over_part : (w buffer part filled : Bytes) (k : ℕ) → k ≤ length buffer → part ≡ take k buffer → length filled ≡ length part → filled ≡ over_front w part
    → filled ++ drop k buffer ≡ over_front w buffer
over_part w buffer part filled k fits is long f =
    let whole : length filled ≡ length w + length (drop (length w) part) = ap length f ∙ length-append w (drop (length w) part) in
    let inside : length w ≤ length part = omega (arith, whole, long, length-drop (length w) part) in
    ap (λ (xs : Bytes). xs ++ drop k buffer) f
    ∙ append_assoc w (drop (length w) part) (drop k buffer)
    ∙ ap (λ (xs : Bytes). w ++ xs) (sym (drop-append-le (length w) part (drop k buffer) inside)
    ∙ ap (λ (xs : Bytes). drop (length w) (xs ++ drop k buffer)) is ∙ ap (drop (length w)) (take-append-drop k buffer))

-- so a call that was lent the part makes the call of the definitions in the whole
pub part_steps : (p : Pair) (t : Task) (after : Pair) (buffer part filled : Bytes) (k : ℕ) (r : Option (Result ℕ Refusal)) → k ≤ length buffer → k ≡ room_of t
    → part ≡ take k buffer → length filled ≡ length part → Steps p (call_to p (length part) t.call) after part filled r
    → Steps p (call_for p t) after buffer (filled ++ drop k buffer) r
part_steps p t after buffer part filled k r fits room is long s =
    let same : length part ≡ room_of t = ap length is ∙ length-take-le k buffer fits ∙ room in
    let turn = subst (λ (n : ℕ). Steps p (call_to p n t.call) after part filled r) same s in
    record { pair = turn.pair; result = turn.result; buffer = over_part (written_if (outcome_if p (call_for p t))) buffer part filled k fits is long turn.buffer }

-- a buffer has its length after the part was written
pub part_long : (buffer filled : Bytes) (k : ℕ) → k ≤ length buffer → length filled ≡ length (take k buffer) → length (filled ++ drop k buffer) ≡ length buffer
part_long buffer filled k fits long =
    omega (arith, length-append filled (drop k buffer), length-drop k buffer, length-take-le k buffer fits, long)

-- a record of these parts
abbrev pub the_note : Option (Result ℕ Refusal) → Bytes → Note
the_note reply bytes = record { reply = reply; bytes = bytes }

-- the record of a call
pub steps_note : (p : Pair) (c : Option Call) (after : Pair) (before filled : Bytes) (old r : Option (Result ℕ Refusal)) → Steps p c after before filled r
    → the_note r filled ≡ note_after (outcome_if p c) (the_note old before)
steps_note p c after before filled old r s =
    ap (λ (x : Option (Result ℕ Refusal)). the_note x filled) s.result ∙ ap (the_note (result_if (outcome_if p c))) s.buffer
