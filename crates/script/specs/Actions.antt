-- What the words of a call say. Assumes nothing.
use Rattle.std.specs.Prelude.{ℕ, cond, List, [], ◌∷◌, length, Some, None, Ok, Err, Option, Result, nat_lt, codes}
use Rattle.std.specs.Str.{bytes_eq}
use Rattle.event.specs.Bytes.{Bytes}
use Rattle.event.specs.declared.id.UniqueId.{UniqueId}
use Rattle.script.specs.declared.command.Action.{Action}
use Rattle.script.specs.declared.command.Action.TheVariants.{Tick, Up, Down, Lose, Reset, Ack, GiveUp, PickUp, Fetch, Show, Packets}
use Rattle.syntax.specs.declared.fault.Fault.{Fault}
use Rattle.syntax.specs.declared.fault.Fault.TheVariants.{UnknownWord, WordMissing, WordTooMany}
use Rattle.syntax.specs.Numbers.{usize_max, number_of}
use Rattle.syntax.specs.Strings.{bytes_of}
use Rattle.script.specs.Items.{items_of}
use Rattle.script.specs.Said.{SaidAction, said_change, said_sync, said_hand, said_take, said_other, action_said, ◌>>=◌}

-- what is wrong with a command that has so many words, where so many are wanted
abbrev pub miscount : (count wanted : ℕ) → Fault
miscount count wanted = cond (nat_lt count wanted) WordMissing WordTooMany

-- the unique ID of three numbers; the first fault counts
abbrev pub id_by : (first second third : Result ℕ Fault) → Result UniqueId Fault
id_by (Ok i) (Ok s) (Ok n) = Ok (record { identifier = i; scope = s; info = n })
id_by (Ok i) (Ok s) (Err fault) = Err fault
id_by (Ok i) (Err fault) third = Err fault
id_by (Err fault) second third = Err fault

-- the unique ID that three words say
abbrev pub id_of : (first second third : Bytes) → Result UniqueId Fault
id_of first second third = id_by (number_of 16 255 first) (number_of 16 255 second) (number_of 16 4294967295 third)

-- so many ticks
abbrev pub ticks : Result ℕ Fault → Result Action Fault
ticks (Ok number) = Ok (Tick number)
ticks (Err fault) = Err fault

-- the ticks that words say: one, or as many as a word says, at most 1,000,000
abbrev pub tick_of : List Bytes → Result Action Fault
tick_of [] = Ok (Tick 1)
tick_of (w ∷ []) = ticks (number_of 10 1000000 w)
tick_of (w ∷ v ∷ ws) = Err WordTooMany

-- a source shown
abbrev pub shown : Result UniqueId Fault → Result Action Fault
shown (Ok source) = Ok (Show source)
shown (Err fault) = Err fault

-- the source that words say
abbrev pub show_of : List Bytes → Result Action Fault
show_of [] = Err WordMissing
show_of (a ∷ []) = Err WordMissing
show_of (a ∷ b ∷ []) = Err WordMissing
show_of (a ∷ b ∷ c ∷ []) = shown (id_of a b c)
show_of (a ∷ b ∷ c ∷ d ∷ ws) = Err WordTooMany

-- the change that two words say
abbrev pub change_by : (place reading : Bytes) → Result SaidAction Fault
change_by place reading = do
  at ← number_of 10 usize_max place
  bytes ← bytes_of reading
  Ok (said_change at bytes)

-- a change: place, reading
abbrev pub change_of : List Bytes → Result SaidAction Fault
change_of (place ∷ reading ∷ []) = change_by place reading
change_of words = Err (miscount (length words) 2)

-- the sync that three words say
abbrev pub sync_by : (delay retry list : Bytes) → Result SaidAction Fault
sync_by delay retry list = do
  seconds ← number_of 10 255 delay
  tenths ← number_of 10 255 retry
  items ← items_of list
  Ok (said_sync seconds tenths items)

-- a sync: delay, retry delay, items
abbrev pub sync_of : List Bytes → Result SaidAction Fault
sync_of (delay ∷ retry ∷ list ∷ []) = sync_by delay retry list
sync_of words = Err (miscount (length words) 3)

-- a message, if there is one
abbrev pub message_of : List Bytes → Result (Option Bytes) Fault
message_of [] = Ok None
message_of (message ∷ []) = do
  bytes ← bytes_of message
  Ok (Some bytes)
message_of (message ∷ v ∷ ws) = Err WordTooMany

-- a message handed to the endpoint: sender, message
abbrev pub hand_of : List Bytes → Result SaidAction Fault
hand_of [] = Err WordMissing
hand_of (sender ∷ rest) = do
  id ← number_of 16 255 sender
  message ← message_of rest
  Ok (said_hand id message)

-- a call of one word that is about messages
abbrev pub about_messages_of : Bytes → Result Action Fault
about_messages_of name =
    cond (bytes_eq name (codes "ack")) (Ok Ack)
    (cond (bytes_eq name (codes "give-up")) (Ok GiveUp)
    (cond (bytes_eq name (codes "pick-up")) (Ok PickUp)
    (cond (bytes_eq name (codes "fetch")) (Ok Fetch)
    (cond (bytes_eq name (codes "packets")) (Ok Packets) (Err UnknownWord)))))

-- a call of one word
abbrev pub plain_of : Bytes → Result Action Fault
plain_of name =
    cond (bytes_eq name (codes "up")) (Ok Up)
    (cond (bytes_eq name (codes "down")) (Ok Down)
    (cond (bytes_eq name (codes "lose")) (Ok Lose)
    (cond (bytes_eq name (codes "reset")) (Ok Reset)
    (about_messages_of name))))

-- a call that has no words after its name
abbrev pub alone_of : Bytes → List Bytes → Result SaidAction Fault
alone_of name [] = plain_of name >>= (λ action. Ok (said_other action))
alone_of name (w ∷ ws) = plain_of name >>= (λ action. Err WordTooMany)

-- the action of a call: its name, and the words after it
abbrev pub action_of : Bytes → List Bytes → Result SaidAction Fault
action_of name words =
    cond (bytes_eq name (codes "change")) (change_of words)
    (cond (bytes_eq name (codes "tick")) (tick_of words >>= (λ action. Ok (action_said action)))
    (cond (bytes_eq name (codes "sync")) (sync_of words)
    (cond (bytes_eq name (codes "hand")) (hand_of words)
    (cond (bytes_eq name (codes "take")) (message_of words >>= (λ message. Ok (said_take message)))
    (cond (bytes_eq name (codes "show")) (show_of words >>= (λ action. Ok (action_said action)))
    (alone_of name words))))))
