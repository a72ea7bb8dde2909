-- What is shown of a message that was read. Assumes nothing.
use Rattle.std.proofs.Common.{◌≡◌, ℕ, List, Result, subst}
use Rattle.event.specs.declared.refusal.Refusal.{Refusal}
use Rattle.wire.specs.View.{Read}
use Rattle.crossing.specs.declared.types.Head.{Head}
use Rattle.crossing.specs.declared.types.Row.{Row}
use Rattle.crossing.specs.declared.types.Switch.{Switch}
use Rattle.crossing.specs.Reading.{Shows}

pub shown : (r s : Result Read Refusal) (h h' : Head) (ss ss' : List Switch) (rs rs' : List Row) (result : ℕ) → r ≡ s → Shows r h h' ss ss' rs rs' result → Shows s h h' ss ss' rs rs' result
shown r s h h' ss ss' rs rs' result e shows = subst (λ (x : Result Read Refusal). Shows x h h' ss ss' rs rs' result) e shows
