-- A run of one call is that call.
use Rattle.std.proofs.Common.{◌≡◌, ℕ, min, true, List, [], ◌∷◌, Some, ap, sym, ◌∙◌, get_or}
use Rattle.std.specs.Prelude.{Option}
use Rattle.wire.specs.declared.types.Kind.{Kind}
use Rattle.protocol.specs.Pair.{Pair, Call, run}
use Rattle.pair.specs.Receipts.{awaited}
use Rattle.pair.specs.View.{step_if, outcome_if}
use Rattle.pair.specs.Runs.{note_of, notes_of, note_after, empty_note, prepend}
use Rattle.pair.specs.declared.call.Call.{Call as Told}
use Rattle.pair.specs.declared.record.Record.{Record}
use Rattle.pair.proofs.Loops.{run-prepend}
use Rattle.script.specs.declared.command.Action.{Action}
use Rattle.session.specs.Asked.{call_if, is_call, note_left, pair_of_session}
use Rattle.session.specs.declared.session.Session.{Session}

-- in a session, with the room that is lent, for a call that is one of the definitions
pub ran-one : (s : Session) (room : ℕ) (call : Told) (p' : Pair) (asks : Option Kind → ℕ → Option Call) → let kind = awaited s.pair.manager.book.phase in let lent = min room 4224 in
    p' ≡ run (pair_of_session s) (prepend (call_if kind lent (Some call)) []) → ((k : Option Kind) (r : ℕ) → call_if k r (Some call) ≡ asks k r) → p' ≡ step_if (pair_of_session s) (asks kind lent)
ran-one s room call p' asks ran same =
    let kind = awaited s.pair.manager.book.phase in
    let lent = min room 4224 in
    ran ∙ (sym (run-prepend (pair_of_session s) (call_if kind lent (Some call)) []) ∙ ap (step_if (pair_of_session s)) (same kind lent))

-- and its record is that of the call
pub noted-one : (s : Session) (room : ℕ) (call : Told) (fresh d : Record) (rs : List Record) (a : Action) (asks : Option Kind → ℕ → Option Call) → let kind = awaited s.pair.manager.book.phase in let lent = min room 4224 in
    notes_of rs ≡ note_after (outcome_if (pair_of_session s) (call_if kind lent (Some call))) (note_of fresh) ∷ [] → note_of fresh ≡ empty_note → true ≡ is_call a → ((k : Option Kind) (r : ℕ) → call_if k r (Some call) ≡ asks k r)
    → Some (note_of (get_or rs 0 d)) ≡ note_left (pair_of_session s) (asks kind lent) a
noted-one s room call fresh d [] a asks filled new is same = absurd (cc)
noted-one s room call fresh d (r ∷ rs) a asks filled new is same =
    let p = pair_of_session s in
    let kind = awaited s.pair.manager.book.phase in
    let lent = min room 4224 in
    let noted : note_of r ≡ note_after (outcome_if p (call_if kind lent (Some call))) (note_of fresh) = cc in
    rw (sym is) (ap Some (noted ∙ (ap (note_after (outcome_if p (call_if kind lent (Some call)))) new ∙ ap (λ (c : Option Call). note_after (outcome_if p c) empty_note) (same kind lent))))
