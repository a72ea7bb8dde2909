-- Rounds of a book: a message is put, picked up, acknowledged, and the ack is answered. Assumes nothing.
use Rattle.std.specs.Prelude.{ℕ, ◌%◌, true, cond, List, [], ◌∷◌, length, Ok, Err, Result, ◌==◌}
use Rattle.event.specs.declared.refusal.Refusal.{Refusal}
use Rattle.event.specs.Bytes.{Bytes}
use Rattle.event.specs.Outcomes.{over_front}
use Rattle.wire.specs.declared.types.Kind.{Kind}
use Rattle.wire.specs.declared.types.Kind.TheVariants.{Sync as sync, Ack as ack}
use Rattle.carrier.specs.Carriers.{Line, new_line, after_put}
use Rattle.protocol.specs.Book.{Book, BookTurn, blind, write_sync, write_ack, take_answer, pick_up}

-- the book, what was handed back last, and the buffer
pub record Round : Type 0 where
  pub book : Book
  pub result : Result ℕ Refusal
  pub buffer : Bytes

-- a round of these
abbrev pub round : Book → Result ℕ Refusal → Bytes → Round
round k r buffer = record { book = k; result = r; buffer = buffer }

-- by whether a call was refused
abbrev pub by_result : (ℕ → Round) → (Refusal → Round) → Result ℕ Refusal → Round
by_result next otherwise (Ok n) = next n
by_result next otherwise (Err r) = otherwise r

-- a call that counted so much, unless it was refused
abbrev pub in_place : (count : ℕ) → Result ℕ Refusal → Result ℕ Refusal
in_place count (Ok n) = Ok count
in_place count (Err r) = Err r

-- the buffer after a turn of the book
abbrev pub filled : BookTurn → Bytes → Bytes
filled t buffer = over_front t.outcome.written buffer

-- the answer to a request of this kind is taken, and the count is handed back
abbrev pub answered : Kind → (answer : Bytes) (count : ℕ) → Book → (buffer : Bytes) → Round
answered kind answer count k buffer =
    round (take_answer kind answer k).book (in_place count (take_answer kind answer k).outcome.result) buffer

-- a request of this kind was written by a turn, and is answered
abbrev pub asked : Kind → (answer : Bytes) (count : ℕ) → BookTurn → (buffer : Bytes) → Round
asked kind answer count t buffer =
    by_result (λ n. answered kind answer count t.book (filled t buffer)) (λ r. round t.book (Err r) (filled t buffer)) t.outcome.result

-- a new book writes a sync of one item, and takes its answer
abbrev pub opened : (answer buffer : Bytes) → Round
opened answer buffer = asked sync answer 0 (write_sync (record { identifier = 0; on = true } ∷ []) 0 0 (length buffer) blind) buffer

-- a message was picked up by a turn, and is acknowledged
abbrev pub held : (answer : Bytes) → BookTurn → (buffer : Bytes) → Round
held answer t buffer =
    by_result (λ n. asked ack answer n (write_ack (length (filled t buffer)) t.book) (filled t buffer)) (λ r. round t.book (Err r) (filled t buffer)) t.outcome.result

-- a message that lies on a line is picked up
abbrev pub picked : (answer : Bytes) → Line → Round → Round
picked answer line r = held answer (pick_up (length r.buffer) line.message r.book) r.buffer

-- the message of a round: one for even numbers, and one for odd ones
abbrev pub message_of : (even odd : Bytes) → (number : ℕ) → Bytes
message_of even odd number = cond (number % 2 == 0) even odd

-- the rounds in their order, each with its message laid on the line
unfoldable pub rounds : (even odd answer : Bytes) → (numbers : List ℕ) → Line → Round → Round
rounds even odd answer [] line r = r
rounds even odd answer (n ∷ ns) line r =
    let l = after_put line 0 (message_of even odd n) in rounds even odd answer ns l (picked answer l r)

-- the rounds of a new book on a new line
abbrev pub new_rounds : (opening even odd answer : Bytes) → (numbers : List ℕ) → (buffer : Bytes) → Round
new_rounds opening even odd answer numbers buffer = rounds even odd answer numbers new_line (opened opening buffer)
