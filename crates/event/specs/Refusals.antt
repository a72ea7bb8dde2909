-- Why a call is refused: the number of each refusal, and the order of a call's questions. Assumes nothing.
use Rattle.std.specs.Prelude.{ℕ, Bool, cond, List, [], ◌∷◌, Some, None, Option}
use Rattle.event.specs.declared.refusal.Refusal.{Refusal}
use Rattle.event.specs.declared.refusal.Refusal.TheVariants.{
  AnswerBufferShort,
  RequestLength,
  RequestType,
  RequestCheck,
  RequestKind,
  RequestFlags,
  EnableLengths,
  EnableBodyLong,
  EnableItems,
  TickBufferShort,
  NoSuchPlace,
  UnlawfulReading,
  RowCount,
  UnlawfulRow,
  RowTwice,
  AddressTooHigh,
  RequestBufferShort,
  StillAwaiting,
  ItemCount,
  IdentifierTwice,
  NotHolding,
  BookBlind,
  MessageBufferShort,
  NoMessage,
  UnlawfulMessage,
  SameGeneration,
  NoneAwaited,
  UnlawfulAnswer,
  ReadingBufferShort,
  UnknownSource,
}

-- the number of the question that was answered no
abbrev pub number : Refusal → ℕ
number AnswerBufferShort = 1
number RequestLength = 2
number RequestType = 3
number RequestCheck = 4
number RequestKind = 5
number RequestFlags = 6
number EnableLengths = 7
number EnableBodyLong = 8
number EnableItems = 9
number TickBufferShort = 10
number NoSuchPlace = 11
number UnlawfulReading = 12
number RowCount = 13
number UnlawfulRow = 14
number RowTwice = 15
number AddressTooHigh = 16
number RequestBufferShort = 17
number StillAwaiting = 18
number ItemCount = 19
number IdentifierTwice = 20
number NotHolding = 21
number BookBlind = 22
number MessageBufferShort = 23
number NoMessage = 24
number UnlawfulMessage = 25
number SameGeneration = 26
number NoneAwaited = 27
number UnlawfulAnswer = 28
number ReadingBufferShort = 29
number UnknownSource = 30

-- a question: is the answer yes, and what does a no refuse?
pub record Question : Type 0 where
  pub holds : Bool
  pub otherwise : Refusal

-- a question with its refusal
abbrev pub ask : Bool → Refusal → Question
ask holds otherwise = record { holds = holds; otherwise = otherwise }

-- the first no of questions in their order
abbrev pub first_no : List Question → Option Refusal
first_no [] = None
first_no (q ∷ qs) = cond q.holds (first_no qs) (Some q.otherwise)
