-- What a fetch says of the message on the carrier, and so of the pick-up. Assumes nothing.
use Rattle.std.proofs.Common.{◌≡◌, ℕ, ◌-◌, Bool, true, false, cond, leb, List, [], ◌∷◌, length, take, drop, Some, None, Ok, Option, Result, sym, refl, ap, ◌∙◌, subst, arith}
use Rattle.std.proofs.lemmas.List.{take_at}
use Rattle.std.proofs.lemmas.Bool.{cond_both}
use Rattle.event.specs.declared.refusal.Refusal.{Refusal}
use Rattle.event.specs.declared.refusal.Refusal.TheVariants.{MessageBufferShort}
use Rattle.event.specs.Bytes.{Bytes}
use Rattle.event.specs.Outcomes.{refusal, over_front, Gives}
use Rattle.event.specs.Refusals.{Question, ask, first_no}
use Rattle.wire.specs.Messages.{Event, read_event}
use Rattle.carrier.specs.Carriers.{Message, lies, fetched}
use Rattle.protocol.specs.declared.types.Phase.{Phase}
use Rattle.protocol.specs.Book.{Book, BookTurn, remembers, heard, finds, pick_up}
use Rattle.book.specs.Turns.{open_questions, Spends, Does}
use Rattle.book.proofs.Questions.{all_yes}

-- a fetched message stays in the buffer, refused or not
heard-written : (phase : Phase) (bytes : Bytes) (read : Option Event) (k : Book) → (heard phase bytes read k).outcome.written ≡ bytes
heard-written phase bytes None k = refl
heard-written phase bytes (Some v) k =
    cond_both (remembers k.remembered v.generation) _ _ (λ (t : BookTurn). t.outcome.written ≡ bytes) (λ _. refl) (λ _. refl)

-- the message that a fetch copied, taken in
found-heard : (roomy : Bool) (message : Option Message) (phase : Phase) (k after : Book) (buffer left bytes : Bytes) (n : ℕ) (r : Result ℕ Refusal)
    → Gives (cond roomy (lies message) (refusal MessageBufferShort)) buffer left (Ok n) → bytes ≡ take (n - 0) left
    → Spends (heard phase bytes (read_event bytes) k) after r → Does (finds (first_no (ask roomy MessageBufferShort ∷ [])) phase message k) after buffer left r
found-heard false message phase k after buffer left bytes n r f g s = let short = f.result in absurd (cc)
found-heard true None phase k after buffer left bytes n r f g s = let none = f.result in absurd (cc)
found-heard true (Some m) phase k after buffer left bytes n r f g s =
    let count = f.result in
    let long : n ≡ length m.bytes = cc in
    let is : bytes ≡ m.bytes = g ∙ ap (take (n - 0)) f.buffer ∙ take_at m.bytes (drop (length m.bytes) buffer) (n - 0) (omega arith) in
    let turn = subst (λ (b : Bytes). Spends (heard phase b (read_event b) k) after r) is s in
    record { book = turn.book; result = turn.result; buffer = f.buffer ∙ ap (λ (b : Bytes). over_front b buffer) (sym (heard-written phase m.bytes (read_event m.bytes) k)) }

-- a pick-up in a book that is not shut: what was fetched, taken in
pub pick_heard : (message : Option Message) (k after : Book) (buffer left bytes : Bytes) (n : ℕ) (r : Result ℕ Refusal) → None ≡ first_no (open_questions k.phase)
    → Gives (fetched (length buffer) message) buffer left (Ok n) → bytes ≡ take (n - 0) left
    → Spends (heard k.phase bytes (read_event bytes) k) after r → Does (pick_up (length buffer) message k) after buffer left r
pick_heard message k after buffer left bytes n r h f g s =
    let room : List Question = ask (leb 4224 (length buffer)) MessageBufferShort ∷ [] in
    subst (λ (q : Option Refusal). Does (finds q k.phase message k) after buffer left r) (sym (all_yes (open_questions k.phase) room h))
    (found-heard (leb 4224 (length buffer)) message k.phase k after buffer left bytes n r f g s)
