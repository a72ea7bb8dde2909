-- The bytes of the list of some occurrences. Assumes nothing.
use Rattle.std.proofs.Common.{◌≡◌, ℕ, ◌+◌, ◌<◌, ◌≤◌, Bool, cond, not, List, ◌++◌, length, sym, ap}
use Rattle.std.proofs.lemmas.Bool.{le-leb, lt-leb}
use Rattle.event.specs.Sources.{Occurrence}
use Rattle.list.specs.Lists.{body, over, told, overflow, these, header, list_bytes}

pub over_list : (t : ℕ) (os : List Occurrence) → 4096 < length (body os) → header 0 0x800000 t ≡ list_bytes t (told os)
unfolding list_bytes over
over_list t os h = sym (ap (λ (b : Bool). list_bytes t (cond (not b) overflow (these os))) (lt-leb (length (body os)) 4096 h))

pub whole_list : (t : ℕ) (os : List Occurrence) → length (body os) ≤ 4096 → header (length os) (7 + length (body os)) t ++ body os ≡ list_bytes t (told os)
unfolding list_bytes over
whole_list t os h = sym (ap (λ (b : Bool). list_bytes t (cond (not b) overflow (these os))) (le-leb (length (body os)) 4096 h))
