-- A new SMBus carrier between two addresses, made or refused. Assumes nothing.
use Rattle.std.proofs.Common.{◌≡◌, Bool, true, false, cond, [], ◌∷◌, length, Ok, Err, refl, sym}
use Rattle.std.specs.Option.{unwrap_or}
use Rattle.event.specs.Bytes.{Bytes}
use Rattle.event.specs.declared.refusal.Refusal.{Refusal}
use Rattle.event.specs.declared.refusal.Refusal.TheVariants.{AddressTooHigh}
use Rattle.smbus.specs.Packets.{copied_length}
use Rattle.smbus.specs.Seen.{Seen}
use Rattle.capi.proofs.Results.{same_value, same_refusal, no_refusal}

-- where a carrier was made both addresses are low, and it is seen as it should be
pub low : (x s : Seen) (b : Bool) → Ok s ≡ cond b (Ok x) (Err AddressTooHigh) → (b ≡ true) × (s ≡ x)
low x s true m = (refl, same_value s x m)
low x s false m = absurd (no_refusal s AddressTooHigh m)

-- where none was, one of them is too high
pub high : (x : Seen) (r : Refusal) (b : Bool) → Err r ≡ cond b (Ok x) (Err AddressTooHigh) → (b ≡ false) × (r ≡ AddressTooHigh)
high x r true m = absurd (no_refusal x r (sym m))
high x r false m = (refl, same_refusal {A = Seen} r AddressTooHigh m)

-- no packet has no byte
pub or_none : (packet : Bytes) → unwrap_or (copied_length packet) 0 ≡ length packet
or_none [] = refl
or_none (b ∷ bs) = refl
